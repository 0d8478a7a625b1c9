use Rattle.amqp_base.specs.Faults.{refusal_of}
use Rattle.amqp_write.specs.State.{stand, mark_of, mark_in, size_in}
use Rattle.std.proofs.Common.{refl, sym, ◌∙◌, ap}
use Rattle.amqp_write.proofs.Steps.{pays_appended}
use Rattle.amqp_write.proofs.TextOf.{pays_text, long_pays, short_pays, not_unmarked}
use Rattle.amqp_write.proofs.Heads.{head_none, head_empty, head_narrow, head_wide, head_placed}
use Rattle.amqp_write.proofs.place.Place.head.Goals as goal

pub returns-then-size-gt-LONGEST : goal.returns-then-size-gt-LONGEST
unfolding stand refusal_of
returns-then-size-gt-LONGEST g c = record { law = long_pays _ _ _ _ _ _ refl (head_none c.args.shape (mark_of c.args.self.now) (size_in c.args.size) c.if-size-gt-LONGEST.true) c.if-size-gt-LONGEST.true refl }

pub returns-then-is_empty_list : goal.returns-then-is_empty_list
unfolding stand
returns-then-is_empty_list g c = let m = ap (mark_in c.args.self.now.descriptor) c.in-Unmarked.is in record { law = short_pays _ _ _ _ _ _ c.if-size-gt-LONGEST.false (pays_appended _ _ _ _ _ _ _ _ (rw m refl) (rw m (head_empty c.args.shape (size_in c.args.size) (sym c.is_empty_list.ensures ∙ c.if-is_empty_list.true))) c.requires.answers c.append.ensures) }

pub returns-then-size-le-NARROW : goal.returns-then-size-le-NARROW
unfolding stand
returns-then-size-le-NARROW g c = let m = ap (mark_in c.args.self.now.descriptor) c.in-Unmarked.is in record { law = short_pays _ _ _ _ _ _ c.if-size-gt-LONGEST.false (pays_appended _ _ _ _ _ _ _ _ (rw m refl) (rw (m, c.narrow_byte.ensures) (head_narrow c.args.shape (size_in c.args.size) (sym c.is_empty_list.ensures ∙ c.if-is_empty_list.false) c.if-size-le-NARROW.true)) c.requires.answers c.append-then-size-le-NARROW.ensures) }

pub returns-else-size-le-NARROW : goal.returns-else-size-le-NARROW
unfolding stand
returns-else-size-le-NARROW g c = let m = ap (mark_in c.args.self.now.descriptor) c.in-Unmarked.is in record { law = short_pays _ _ _ _ _ _ c.if-size-gt-LONGEST.false (pays_appended _ _ _ _ _ _ _ _ (rw m refl) (rw (m, c.byte-code.ensures, c.wide_code.ensures) (head_wide c.args.shape (size_in c.args.size) (sym c.is_empty_list.ensures ∙ c.if-is_empty_list.false) c.if-size-le-NARROW.false c.if-size-gt-LONGEST.false)) c.requires.answers (rw (c.to_be_bytes-length.ensures, c.to_be_bytes-n.ensures) at c.append-in-Unmarked.ensures)) }

pub returns-in_default : goal.returns-in_default
unfolding stand
returns-in_default g c = record { law = short_pays _ _ _ _ _ _ c.if-size-gt-LONGEST.false (pays_text _ _ _ _ _ _ _ _ _ (head_placed c.args.shape (mark_of c.args.self.now) (size_in c.args.size) (not_unmarked _ _ c.in_default.not-Unmarked) c.if-size-gt-LONGEST.false) refl (rw (c.wide_code-in_default.ensures, c.to_be_bytes-length.ensures, c.to_be_bytes-n.ensures) at c.element.ensures.law)) }
