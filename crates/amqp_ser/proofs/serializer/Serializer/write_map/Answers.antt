-- A map's entries are counted at once, or written in order.
use Rattle.std.proofs.Common.{rules, true, refl, sym, ap, ◌∙◌, subst, [], length, OnOk, IfErr}
use Rattle.std.proofs.lemmas.List.{length-map}
use Rattle.std.proofs.lemmas.Result.{on_ok_weaker, IfErr-weaker}
use Rattle.std.specs.Map.Iter.{deref_pair}
use Rattle.amqp_base.specs.Shapes.{whole}
use Rattle.amqp_base.specs.declared.shape.Setting.TheVariants.{Plain}
use Rattle.amqp_base.specs.declared.shape.Shape.{Shape}
use Rattle.amqp_ser.specs.Law.{Wrote, Refused}
use Rattle.amqp_ser.specs.Compound.{map_state, Holds}
use Rattle.amqp_ser.specs.Gathered.{items_of_map}
use Rattle.amqp_ser.proofs.Compounds.{moved}
use Rattle.amqp_ser.proofs.MapPairs.{pairs_complete, begins_with}
use Rattle.amqp_ser.proofs.serializer.Serializer.write_map.Goals as goal

pub returns-then-counts_entries-clause-ok : goal.returns-then-counts_entries-clause-ok
returns-then-counts_entries-clause-ok g c all given =
    let found = c.if-counts_entries.ensures.counted refl in
    let same = given.one.whole found.0 found.1 in
    let count = given.count ∙ (ap length (sym same) ∙ length-map found.0 deref_pair) in
    let held = subst (λ es. Holds c.args.self.now.state Shape.Map (items_of_map g.K.Typed.meaning g.V.Typed.meaning es) (map_state c.counts_entries.new.self)) same (found.2 count c.args.self.now.state c.in-Ok.ensures.opened) in
    moved (λ n. OnOk c.end.result (Wrote c.args.self.now.state (whole Shape.Map (items_of_map g.K.Typed.meaning g.V.Typed.meaning all)) n)) c.end.new.self.0.state _ (search rules)
    (on_ok_weaker c.end.result (λ wrote. wrote _ Shape.Map (items_of_map g.K.Typed.meaning g.V.Typed.meaning all) held) (c.end.ensures.law true).ok)

pub returns-then-counts_entries-clause-err : goal.returns-then-counts_entries-clause-err
returns-then-counts_entries-clause-err g c all given =
    let found = c.if-counts_entries.ensures.counted refl in
    let same = given.one.whole found.0 found.1 in
    let count = given.count ∙ (ap length (sym same) ∙ length-map found.0 deref_pair) in
    let held = subst (λ es. Holds c.args.self.now.state Shape.Map (items_of_map g.K.Typed.meaning g.V.Typed.meaning es) (map_state c.counts_entries.new.self)) same (found.2 count c.args.self.now.state c.in-Ok.ensures.opened) in
    moved (λ n. IfErr c.end.result (λ e. Refused c.args.self.now.state (whole Shape.Map (items_of_map g.K.Typed.meaning g.V.Typed.meaning all)) e n)) c.end.new.self.0.state _ (search rules)
    (IfErr-weaker c.end.result _ _ (λ e refused. refused _ Shape.Map (items_of_map g.K.Typed.meaning g.V.Typed.meaning all) held (rw (pairs_complete (λ k. g.K.Typed.meaning.item k Plain) (λ v. g.V.Typed.meaning.item v Plain) all) refl)) (c.end.ensures.law true).err)

pub returns-in-Ok-write_entries-clause-ok : goal.returns-in-Ok-write_entries-clause-ok
returns-in-Ok-write_entries-clause-ok g c all given =
    let opened = subst (λ m. Holds c.args.self.now.state Shape.Map [] (map_state m)) (sym (c.if-counts_entries.ensures.same refl)) c.in-Ok.ensures.opened in
    let found = c.in-Ok-write_entries.ensures.ok in
    let held = subst (λ es. Holds c.args.self.now.state Shape.Map (items_of_map g.K.Typed.meaning g.V.Typed.meaning es) (map_state c.write_entries.new.self)) (given.two.whole found.0 found.1) (found.2 c.args.self.now.state opened) in
    moved (λ n. OnOk c.end-in-Ok-write_entries.result (Wrote c.args.self.now.state (whole Shape.Map (items_of_map g.K.Typed.meaning g.V.Typed.meaning all)) n)) c.end-in-Ok-write_entries.new.self.0.state _ (search rules)
    (on_ok_weaker c.end-in-Ok-write_entries.result (λ wrote. wrote _ Shape.Map (items_of_map g.K.Typed.meaning g.V.Typed.meaning all) held) (c.end-in-Ok-write_entries.ensures.law true).ok)

pub returns-in-Ok-write_entries-clause-err : goal.returns-in-Ok-write_entries-clause-err
returns-in-Ok-write_entries-clause-err g c all given =
    let opened = subst (λ m. Holds c.args.self.now.state Shape.Map [] (map_state m)) (sym (c.if-counts_entries.ensures.same refl)) c.in-Ok.ensures.opened in
    let found = c.in-Ok-write_entries.ensures.ok in
    let held = subst (λ es. Holds c.args.self.now.state Shape.Map (items_of_map g.K.Typed.meaning g.V.Typed.meaning es) (map_state c.write_entries.new.self)) (given.two.whole found.0 found.1) (found.2 c.args.self.now.state opened) in
    moved (λ n. IfErr c.end-in-Ok-write_entries.result (λ e. Refused c.args.self.now.state (whole Shape.Map (items_of_map g.K.Typed.meaning g.V.Typed.meaning all)) e n)) c.end-in-Ok-write_entries.new.self.0.state _ (search rules)
    (IfErr-weaker c.end-in-Ok-write_entries.result _ _ (λ e refused. refused _ Shape.Map (items_of_map g.K.Typed.meaning g.V.Typed.meaning all) held (rw (pairs_complete (λ k. g.K.Typed.meaning.item k Plain) (λ v. g.V.Typed.meaning.item v Plain) all) refl)) (c.end-in-Ok-write_entries.ensures.law true).err)

pub returns-in-Err-write_entries-clause-err : goal.returns-in-Err-write_entries-clause-err
returns-in-Err-write_entries-clause-err g c all given =
    let opened = subst (λ m. Holds c.args.self.now.state Shape.Map [] (map_state m)) (sym (c.if-counts_entries.ensures.same refl)) c.in-Ok.ensures.opened in
    let found = c.in-Err-write_entries.ensures.err in
    let begins = begins_with (λ k. g.K.Typed.meaning.item k Plain) (λ v. g.V.Typed.meaning.item v Plain) all _ found.0 found.1 given.two found.2 in
    moved (λ n. Refused c.args.self.now.state (whole Shape.Map (items_of_map g.K.Typed.meaning g.V.Typed.meaning all)) c.in-Err-write_entries.e n) c.write_entries.new.self.ser.now.state _ (search rules) (found.3 c.args.self.now.state (items_of_map g.K.Typed.meaning g.V.Typed.meaning all) opened begins (pairs_complete (λ k. g.K.Typed.meaning.item k Plain) (λ v. g.V.Typed.meaning.item v Plain) all))
