use Rattle.std.proofs.Common.{refl}
use Rattle.amqp_de.proofs.deserializer.Deserializer.read_null.Goals as goal

pub returns-in-Ok-clause-ok : goal.returns-in-Ok-clause-ok
returns-in-Ok-clause-ok g c =
    record {
      last = c.deserialize.new.de;
      found = rw (← c.self.view_is) (rw (c.replace-inherited.ensures.after, c.replace-begun.ensures.after, c.new.ensures) at c.in-Ok.ensures.ok);
      is = rw (← c.self.view_is, ← c.self-2.view_is, c.replace-inherited.ensures.value, c.replace-begun.ensures.value) refl;
    }

pub returns-in-Err-clause-err : goal.returns-in-Err-clause-err
returns-in-Err-clause-err g c =
    record {
      last = c.deserialize.new.de;
      missed = rw (← c.self.view_is) (rw (c.replace-inherited.ensures.after, c.replace-begun.ensures.after, c.new.ensures) at c.in-Err.ensures.err);
      named = rw (← c.self.view_is) (rw (c.replace-inherited.ensures.after, c.replace-begun.ensures.after, c.new.ensures) at c.in-Err.ensures.named);
      is = rw (← c.self.view_is, ← c.self-2.view_is, c.replace-inherited.ensures.value, c.replace-begun.ensures.value) refl;
    }
