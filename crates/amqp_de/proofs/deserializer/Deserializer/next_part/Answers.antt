use Rattle.std.proofs.Common.{rules, ◌≡◌, false, ◌||◌, ap, arith}
use Rattle.amqp_de.specs.Decoding.{Decoding}
use Rattle.amqp_de.proofs.Naming.{part_passes, part_named}
use Rattle.amqp_de.proofs.PartsRead.{over_long}
use Rattle.amqp_de.proofs.deserializer.Deserializer.next_part.Goals as goal

pub returns-then-not-within : goal.returns-then-not-within
returns-then-not-within g c =
    let a : c.args.self.now.ended ≡ false = search rules in
    let r = ap (λ (d : Decoding). d.reading) c.stop.ensures in
    let q = ap (λ (d : Decoding). d.ended) c.stop.ensures in
    let b = ap (λ (d : Decoding). d.begun) c.stop.ensures in
    let no = rw c.bytes_consumed-consumed.ensures at c.is_within-within.ensures.no c.if-not-within.true in
    let named = part_passes g.T.Typed.meaning.refuses (g.T.Typed.meaning.grows || g.R.Read.buffers) g.R.Read.buffers _ _ c.deserialize.new.de c.in-Ok.ensures.ok no in
    record { named = named; next = over_long g.T.Typed.meaning.takes (λ i. g.T.Typed.meaning.means i c.in-Ok.item) (g.T.Typed.meaning.grows || g.R.Read.buffers) g.R.Read.buffers _ _ c.deserialize.new.de a (omega (arith, c.if-inner-eq0.false)) c.in-Ok.ensures.ok no q r b }

-- the type's own refusal
pub returns-in-Err-clause-named : goal.returns-in-Err-clause-named
returns-in-Err-clause-named g c = part_named g.T.Typed.meaning.refuses (g.T.Typed.meaning.grows || g.R.Read.buffers) g.R.Read.buffers _ _ _ c.in-Err.e c.in-Err.ensures.named (ap (λ (d : Decoding). d.reading) c.stop-in-Err.ensures)
