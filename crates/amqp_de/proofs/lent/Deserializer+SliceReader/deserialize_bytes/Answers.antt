use Rattle.std.proofs.Common.{false, refl}
use Rattle.amqp_base.specs.Codes.{Kind}
use Rattle.amqp_base.specs.Item.{binary}
use Rattle.amqp_base.specs.Parse.{data_at}
use Rattle.amqp_base.specs.Typing.{is_of}
use Rattle.amqp_base.proofs.KindPlaces.{of_kind}
use Rattle.amqp_de.proofs.Answered.{reads_kind, found, missed_byte, missed_data, exact_data, data_named, byte_named, data_refused, byte_refused, refused_exactly, goes_on, stops_there}
use Rattle.amqp_de.proofs.lent.Deserializer+SliceReader.deserialize_bytes.Goals as goal

pub returns-in-Ok-lent_bytes : goal.returns-in-Ok-lent_bytes
returns-in-Ok-lent_bytes c =
    let b = rw (← c.self-2.view_is) at c.in-Ok.ensures.ok in
    let v = binary c.in-Ok-lent_bytes.bytes.now in
    let t = of_kind Kind.binary v refl in
    let r = c.lent_bytes.new.reader in
    record {
      ok = found (is_of Kind.binary) v c.args.self.now _ r c.in-Ok.code t b c.in-Ok-lent_bytes.ensures.ok;
      err = tt;
      named = tt;
      exact = λ _. exact_data (λ z. binary z.now) (data_at Kind.binary) false false c.in-Ok-lent_bytes.bytes c.args.self.now _ r c.in-Ok.code (reads_kind Kind.binary) t b c.in-Ok-lent_bytes.ensures.ok;
      stops = goes_on c.args.self.now _ c.in-Ok-lent_bytes.bytes (rw (← c.self.view_is) c.if-self.false);
    }

pub returns-in-Err-lent_bytes : goal.returns-in-Err-lent_bytes
returns-in-Err-lent_bytes c =
    let b = rw (← c.self-2.view_is) at c.in-Ok.ensures.ok in
    let e = c.in-Err-lent_bytes.e in
    let r = c.lent_bytes.new.reader in
    let d = c.in-Err-lent_bytes.ensures.err in
    record {
      ok = tt;
      err = missed_data (data_at Kind.binary) false false c.args.self.now _ r c.in-Ok.code e (reads_kind Kind.binary) b d;
      named = data_named Kind.binary false false c.args.self.now _ r c.in-Ok.code e b d;
      exact = λ a. refused_exactly (data_at Kind.binary) false false c.args.self.now _ e a (data_refused (data_at Kind.binary) false false c.args.self.now _ r c.in-Ok.code e b d);
      stops = stops_there c.args.self.now _ e (rw (← c.self.view_is) c.if-self.false) b.ended;
    }

pub returns-in-Err : goal.returns-in-Err
returns-in-Err c =
    let e = c.in-Err.e in
    let n = c.in-Err.ensures.err in
    record {
      ok = tt;
      err = missed_byte false false c.args.self.now _ e (reads_kind Kind.binary) n;
      named = byte_named Kind.binary false false c.args.self.now _ e n;
      exact = λ a. refused_exactly (data_at Kind.binary) false false c.args.self.now _ e a (byte_refused (data_at Kind.binary) false false c.args.self.now _ e n);
      stops = stops_there c.args.self.now _ e (rw (← c.self.view_is) c.if-self.false) n.ended;
    }
