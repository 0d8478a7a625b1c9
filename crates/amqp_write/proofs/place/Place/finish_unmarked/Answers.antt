use Rattle.amqp_write.specs.State.{stand}
use Rattle.std.proofs.Common.{refl, sym, ◌∙◌}
use Rattle.amqp_write.proofs.Steps.{pays_appended}
use Rattle.amqp_write.proofs.TextOf.{whole_empty, whole_narrow, whole_wide}
use Rattle.amqp_write.proofs.place.Place.finish_unmarked.Goals as goal

pub returns-then-is_empty_list-clause-law : goal.returns-then-is_empty_list-clause-law
unfolding stand
returns-then-is_empty_list-clause-law g c = let m = c.requires.marked in λ h. pays_appended _ _ _ _ _ _ _ _ (rw m refl) (rw m (whole_empty c.args.shape c.args.count c.args.body.now (sym c.is_empty_list.ensures ∙ c.if-is_empty_list.true))) c.requires.answers c.append.ensures

pub returns-then-len-le-NARROW-clause-law : goal.returns-then-len-le-NARROW-clause-law
unfolding stand
returns-then-len-le-NARROW-clause-law g c = let m = c.requires.marked in λ h. pays_appended _ _ _ _ _ _ _ _ (rw m refl) (rw (m, c.narrow_byte.ensures) (whole_narrow c.args.shape c.args.count c.args.body.now (sym c.is_empty_list.ensures ∙ c.if-is_empty_list.false) c.if-len-le-NARROW.true h)) c.requires.answers c.append_two.ensures

pub returns-clause-law : goal.returns-clause-law
unfolding stand
returns-clause-law g c = let m = c.requires.marked in λ h. pays_appended _ _ _ _ _ _ _ _ (rw m refl) (rw (m, c.byte-code.ensures, c.wide_code.ensures) (whole_wide c.args.shape c.args.count c.args.body.now (sym c.is_empty_list.ensures ∙ c.if-is_empty_list.false) c.if-len-le-NARROW.false c.requires.short h)) c.requires.answers (rw (c.to_be_bytes-length.ensures, c.to_be_bytes-parts.ensures) at c.append_two-2.ensures)
