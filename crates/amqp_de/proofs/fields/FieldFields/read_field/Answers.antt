use Rattle.std.proofs.Common.{◌||◌, sym, ◌∙◌}
use Rattle.amqp_de.proofs.NamedFields.{own_picked, behind_picked, own_named, behind_named}
use Rattle.amqp_de.proofs.Slots.{own_read, behind_read, own_refused, behind_refused}
use Rattle.amqp_de.proofs.fields.FieldFields.read_field.Goals as goal

pub returns-in-Ok-clause-read : goal.returns-in-Ok-clause-read
returns-in-Ok-clause-read g c = behind_read c.args.self.now.name.now g.T.Typed.meaning.takes g.T.Typed.meaning.means c.args.self.now.value _ _ c.args.name.now _ _ (sym c.awaits.ensures ∙ c.if-not-awaits.true) c.in-Ok.ensures.read

pub returns-in-Err-clause-refused : goal.returns-in-Err-clause-refused
returns-in-Err-clause-refused g c = behind_refused c.args.self.now.name.now g.T.Typed.meaning.takes g.T.Typed.meaning.means c.args.self.now.value _ c.args.name.now g.R.Read.buffers _ _ c.in-Err.e (sym c.awaits.ensures ∙ c.if-not-awaits.true) c.in-Err.ensures.refused

pub returns-in-Ok-next_value-clause-read : goal.returns-in-Ok-next_value-clause-read
returns-in-Ok-next_value-clause-read g c =
    rw (c.put.ensures.named, c.put.ensures.value, c.put.ensures.before) (own_read c.args.self.now.name.now g.T.Typed.meaning.takes g.T.Typed.meaning.means c.args.self.now.value c.in-Ok-next_value.value _ c.args.name.now _ _ (sym c.awaits.ensures ∙ c.if-not-awaits.false) c.in-Ok-next_value.ensures.next.0)

pub returns-in-Err-next_value-clause-refused : goal.returns-in-Err-next_value-clause-refused
returns-in-Err-next_value-clause-refused g c =
    own_refused c.args.self.now.name.now g.T.Typed.meaning.takes g.T.Typed.meaning.means c.args.self.now.value _ c.args.name.now (g.T.Typed.meaning.grows || g.R.Read.buffers) g.R.Read.buffers _ _ c.in-Err-next_value.e (sym c.awaits.ensures ∙ c.if-not-awaits.false) c.in-Err-next_value.ensures.next

-- ---- by its name

pub returns-in-Ok-clause-picked : goal.returns-in-Ok-clause-picked
returns-in-Ok-clause-picked g c = behind_picked c.args.self.now.name.now g.T.Typed.meaning.takes g.T.Typed.meaning.means c.args.self.now.value _ _ c.args.name.now _ _ (sym c.awaits.ensures ∙ c.if-not-awaits.true) c.in-Ok.ensures.picked

pub returns-in-Err-clause-named : goal.returns-in-Err-clause-named
returns-in-Err-clause-named g c = behind_named c.args.self.now.name.now g.T.Typed.meaning.takes g.T.Typed.meaning.means c.args.self.now.value _ c.args.name.now g.R.Read.buffers _ _ c.in-Err.e (sym c.awaits.ensures ∙ c.if-not-awaits.true) c.in-Err.ensures.named

pub returns-in-Ok-next_value-clause-picked : goal.returns-in-Ok-next_value-clause-picked
returns-in-Ok-next_value-clause-picked g c =
    rw (c.put.ensures.named, c.put.ensures.value, c.put.ensures.before) (own_picked c.args.self.now.name.now g.T.Typed.meaning.takes g.T.Typed.meaning.means c.args.self.now.value c.in-Ok-next_value.value _ c.args.name.now _ _ (sym c.awaits.ensures ∙ c.if-not-awaits.false) c.in-Ok-next_value.ensures.next.0)

pub returns-in-Err-next_value-clause-named : goal.returns-in-Err-next_value-clause-named
returns-in-Err-next_value-clause-named g c =
    own_named c.args.self.now.name.now g.T.Typed.meaning.takes g.T.Typed.meaning.means c.args.self.now.value _ c.args.name.now g.R.Read.buffers _ _ c.in-Err-next_value.e (sym c.awaits.ensures ∙ c.if-not-awaits.false) c.in-Err-next_value.ensures.named
