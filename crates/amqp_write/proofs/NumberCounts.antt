-- Numbers that are counted, and not written.
use Rattle.std.proofs.Common.{◌≡◌, ℕ, ◌+◌, min, List, [], length, refl, sym, ◌∙◌, ap, arith, Option, Some, None, Bool, true, false, Ok}
use Rattle.std.proofs.lemmas.List.{append-nil}
use Rattle.amqp_base.specs.declared.error.Error.{Error}
use Rattle.amqp_base.specs.Canon.{kind_code}
use Rattle.amqp_base.specs.Item.{Item}
use Rattle.amqp_base.specs.Passes.{CountsMore}
use Rattle.amqp_write.specs.State.{State, Mark, unmarked, Planned, Measured, contents_in, plan_in, measure_in}
use Rattle.amqp_write.specs.Law.{marked, found_after, measure_after, plan_after}
use Rattle.amqp_write.specs.Appending.{Appended, PaysItem}
use Rattle.amqp_write.specs.ManyTexts.{CountsText, HasTextOf}
use Rattle.amqp_write.proofs.Bytes.{none_extends, none_appends}
use Rattle.amqp_write.proofs.Steps.{fits_nil, pays_appended}

measure_counts : (d : Bool) (m n : Option Measured) (more : ℕ) (b : List ℕ) → more ≡ min (length b) 18446744073709551615 → CountsMore m more n → measure_in d n ≡ measure_after (measure_in d m) [] (length b)
measure_counts false m n more b is h = refl
measure_counts true None n more b is h = absurd h
measure_counts true (Some m) n more b is h =
    let e : min (min (m.length + more) 18446744073709551615) 18446744073709551615 ≡ min (min m.length 18446744073709551615 + length b) 18446744073709551615 = omega (arith, is) in
    rw (h, e, append-nil m.sizes) refl

contents_none : (d : Bool) (c : Option (List ℕ)) → c ≡ None → contents_in d c ≡ None
contents_none true c h = refl
contents_none false c h = h

plan_none : (d : Bool) (p q : Option Planned) → p ≡ None → q ≡ p → (b : List ℕ) → plan_in d q ≡ plan_after (plan_in d p) [] b
plan_none false p q h e b = refl
plan_none true p q h e b = rw (e, h) refl

-- what is counted is, for contracts, as if it were appended
pub counted_text : {A : Type 0} (b : List ℕ) (s t : State) (d : Bool) (c : Option (List ℕ)) (p q : Option Planned) (m n : Option Measured) (more : ℕ) (y : A) → more ≡ min (length b) 18446744073709551615 → CountsMore m more n → c ≡ None → p ≡ None → q ≡ p → s.contents ≡ contents_in d c → s.plan ≡ plan_in d p → t.plan ≡ plan_in d q → s.measure ≡ measure_in d m → t.measure ≡ measure_in d n
    → t.faults ≡ s.faults → t.grows ≡ s.grows → t.setting ≡ s.setting → t.mark ≡ s.mark → t.found ≡ s.found → t.ended ≡ s.ended → Appended s b (Ok y) t
counted_text b s t d c p q m n more y long counts untold alone kept contents plan after measure counted faults grows setting mark found ended =
    let none : s.contents ≡ None = contents ∙ contents_none d c untold in
    record {
      kept = record { bytes = none_extends _ _ none; faults = omega (arith, faults); grows = grows };
      device = tt;
      ok = (
        record {
          fits = fits_nil s (length b);
          appended = none_appends _ _ b none;
          plan = after ∙ (plan_none d p q alone kept b ∙ ap (λ x. plan_after x [] b) (sym plan));
          measure = counted ∙ (measure_counts d m n more b long counts ∙ ap (λ x. measure_after x [] (length b)) (sym measure));
          setting = setting;
        },
        mark,
        found,
        ended,
      );
      err = tt;
      refused = tt;
      spares = tt;
    }

-- a number's own text
pub counted_number : (k : Mark) (i : Item) (n : ℕ) (s t : State) (text : HasTextOf k i n) → (n ≡ min (length text.0) 18446744073709551615 → Appended {A = Unit {0}} s text.0 (Ok tt) t) → CountsText k i s t
counted_number k i n s t text appended = (text.0, text.1, appended (let short = text.1.short in omega (arith, short, text.2)))

pub pays_counted : (s : State) (i : Item) (why : Error) (t : State) → s.mark ≡ unmarked → s.ended ≡ false → CountsText unmarked i s t → PaysItem {A = Unit {0}} s i why (Ok tt) t
pays_counted s i why t m answers counted = pays_appended s s (marked s.mark i) (found_after s.mark (kind_code i) s.found) counted.0 why (Ok tt) t (rw m refl) (ap (λ x. marked x i) m ∙ counted.1.text) answers counted.2
