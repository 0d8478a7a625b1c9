use Rattle.amqp_de.proofs.TextRead.{text_answered, text_unread, no_text_byte}
use Rattle.amqp_de.proofs.lent.Deserializer+SliceReader.deserialize_str.Goals as goal

pub returns-in-Ok-lent_text : goal.returns-in-Ok-lent_text
returns-in-Ok-lent_text c =
    let b = rw (← c.self-2.view_is) at c.in-Ok.ensures.ok in
    text_answered (λ t. t.now) c.in-Ok-lent_text.text c.args.self.now _ c.lent_text.new.reader c.in-Ok.code (rw (← c.self.view_is) c.if-self.false) b c.in-Ok-lent_text.ensures.ok

pub returns-in-Err-lent_text : goal.returns-in-Err-lent_text
returns-in-Err-lent_text c =
    let b = rw (← c.self-2.view_is) at c.in-Ok.ensures.ok in
    text_unread (λ t. t.now) c.args.self.now _ c.lent_text.new.reader c.in-Ok.code c.in-Err-lent_text.e (rw (← c.self.view_is) c.if-self.false) b c.in-Err-lent_text.ensures.err

pub returns-in-Err : goal.returns-in-Err
returns-in-Err c = no_text_byte (λ t. t.now) c.args.self.now _ c.in-Err.e (rw (← c.self.view_is) c.if-self.false) c.in-Err.ensures.err
