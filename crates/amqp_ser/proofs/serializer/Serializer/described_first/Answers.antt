use Rattle.std.proofs.Common.{◌≡◌, ap, ◌∙◌, Some, None, sym}
use Rattle.amqp_base.specs.declared.format_code.EncodingCodes.{EncodingCodes}
use Rattle.amqp_base.specs.Wire.{under}
use Rattle.amqp_ser.specs.State.{Serializing, found_in}
use Rattle.amqp_write.specs.State.{stand, constructor_in}
use Rattle.amqp_ser.proofs.Describing.{first_ok, first_no_memory, first_nowhere, pair_not_under}
use Rattle.amqp_ser.proofs.serializer.Serializer.described_first.Goals as goal

none_some : (x : EncodingCodes) → None ≡ Some (under x) → ⊥
none_some x h = cc

pub returns-in-Ok-keep-clause-ok : goal.returns-in-Ok-keep-clause-ok
unfolding stand
returns-in-Ok-keep-clause-ok g c =
    let d = c.self.inside.place.descriptor in
    first_ok _ _ _ _ _ c.in-Under.code c.requires.marked (rw (← c.self.view_is) at c.in-Ok.ensures.ok) (ap (found_in d) c.in-Some.is ∙ ap (λ k. Some (constructor_in d k)) c.in-Under.is) (rw (← c.self.view_is) at c.in-Ok-keep.ensures.ok)

pub returns-in-Err-keep-clause-err : goal.returns-in-Err-keep-clause-err
unfolding stand
returns-in-Err-keep-clause-err g c = first_no_memory _ _ _ _ _ _ c.in-Ok.ensures.ok c.in-Err-keep.ensures.err c.in-Err-keep.ensures.ended

pub returns-in-UnderPair-clause-err : goal.returns-in-UnderPair-clause-err
unfolding stand
returns-in-UnderPair-clause-err g c =
    let d = c.self.inside.place.descriptor in
    first_nowhere _ _ _ _ _ _ c.requires.marked c.in-Ok.ensures.ok (λ x h. pair_not_under d c.in-UnderPair.field-0 x (sym (ap (found_in d) c.in-Some.is ∙ ap (λ k. Some (constructor_in d k)) c.in-UnderPair.is) ∙ (ap (λ (v : Serializing g.row.W.Denot). v.state.found) c.self.view_is ∙ h))) c.described_nowhere.ensures.law

pub returns-in-None-clause-err : goal.returns-in-None-clause-err
unfolding stand
returns-in-None-clause-err g c =
    let d = c.self.inside.place.descriptor in
    first_nowhere _ _ _ _ _ _ c.requires.marked c.in-Ok.ensures.ok (λ x h. absurd (none_some x (sym (ap (found_in d) c.in-None.is) ∙ (ap (λ (v : Serializing g.row.W.Denot). v.state.found) c.self.view_is ∙ h)))) c.described_nowhere-in-None.ensures.law
