-- Texts of keys and values that are gathered before they are written.
use Rattle.std.proofs.Common.{◌≡◌, ℕ, ◌+◌, List, [], ◌∷◌, ◌++◌, length, take, min, refl, sym, ◌∙◌, ap, subst, arith, append_assoc, length-append, Ok, false}
use Rattle.std.proofs.lemmas.List.{append-nil, take_min}
use Rattle.amqp_base.specs.Item.{Item}
use Rattle.amqp_base.specs.declared.shape.Shape.{Shape}
use Rattle.amqp_ser.specs.State.{State, Mark, unmarked}
use Rattle.amqp_ser.specs.Law.{fits}
use Rattle.amqp_ser.specs.Compound.{Open, Holds}
use Rattle.amqp_ser.specs.Gathered.{HasNone, Gathers, PutsTwo}
use Rattle.amqp_ser.specs.declared.entries.Gathered.{Gathered}
use Rattle.amqp_write.specs.ManyTexts.{AreTexts, HaveTextsOf, PutsText, WritesTexts}
use Rattle.amqp_write.proofs.ManyTexts.{texts_none, texts_two}

-- two texts, one behind the other
pub puts_two : (k v : Item) (at middle end : ℕ) (xs ys zs : List ℕ) → PutsText unmarked k at xs middle ys → PutsText unmarked v middle ys end zs → PutsTwo k v at xs end zs
puts_two k v at middle end xs ys zs p q = record {
  bytes = p.bytes ++ q.bytes;
  texts = texts_two unmarked (k ∷ []) (v ∷ []) p.bytes q.bytes p.texts q.texts;
  front = q.front ∙ (ap (λ l. l ++ q.bytes) p.front ∙ append_assoc (take at xs) p.bytes q.bytes);
}

-- an entry more
pub gathers_more : (s : State) (xs : List Item) (q : Open) (g h : Gathered) (old new : List ℕ) (k v : Item) → Gathers s xs q g old → PutsTwo k v g.end old h.end new → h.count ≡ g.count + 2 → Gathers s (xs ++ k ∷ v ∷ []) q h new
gathers_more s xs q g h old new k v x p count =
    let more = length-append x.last (k ∷ v ∷ []) in
    record {
      done = x.done;
      last = x.last ++ k ∷ v ∷ [];
      all = ap (λ l. l ++ k ∷ v ∷ []) x.all ∙ append_assoc x.done x.last (k ∷ v ∷ []);
      holds = x.holds;
      texts = subst (λ b. AreTexts unmarked (x.last ++ k ∷ v ∷ []) b) (sym p.front) (texts_two unmarked x.last (k ∷ v ∷ []) (take g.end old) p.bytes x.texts p.texts);
      count = omega (arith, count, x.count, more);
    }

pub gathers_none : (s : State) (xs : List Item) (q : Open) (g : Gathered) (block : List ℕ) → HasNone g → Holds s Shape.Map xs q → Gathers s xs q g block
gathers_none s xs q g block none holds = record {
  done = xs;
  last = [];
  all = sym (append-nil xs);
  holds = holds;
  texts = subst (λ n. AreTexts unmarked [] (take n block)) (sym none.end) (texts_none unmarked);
  count = none.count;
}

none_of : (is : List Item) → 0 ≡ length is → is ≡ []
none_of [] h = refl
none_of (i ∷ is) h = absurd (omega (arith, h))

pub holds_all_of : (s : State) (xs : List Item) (q : Open) (g : Gathered) (block : List ℕ) → g.count ≡ 0 → Gathers s xs q g block → Holds s Shape.Map xs q
holds_all_of s xs q g block none x =
    let last : x.last ≡ [] = none_of x.last (sym none ∙ x.count) in
    subst (λ l. Holds s Shape.Map l q) (sym (x.all ∙ (ap (λ l. x.done ++ l) last ∙ append-nil x.done))) x.holds

-- as much of a block as there is
pub up_to : (n k : ℕ) (xs : List ℕ) → k ≡ min n (length xs) → take k xs ≡ take n xs
up_to n k xs is = ap (λ j. take j xs) is ∙ take_min n xs

-- texts that are counted, and others behind them
pub lengths_two : (m : Mark) (is js : List Item) (a b n : ℕ) → n ≡ min (a + b) 18446744073709551615 → HaveTextsOf m is a → HaveTextsOf m js b → HaveTextsOf m (is ++ js) n
lengths_two m is js a b n sum h l =
    let len = length-append h.0 l.0 in
    (h.0 ++ l.0, texts_two m is js h.0 l.0 h.1 l.1, omega (arith, sum, len, h.2, l.2))

-- what was counted while no call was answered
pub counted_answering : {A : Type 0} (m : Mark) (is : List Item) (s t : State) (x : A) → WritesTexts m is s (Ok x) t → WritesTexts m is (record s { ended = false }) (Ok x) (record t { ended = false })
unfolding fits
counted_answering m is s t x h =
    let a = h.appended in
    let goes = a.ok.0 in
    record {
      bytes = h.bytes;
      texts = h.texts;
      appended = record {
        kept = record { bytes = a.kept.bytes; faults = a.kept.faults; grows = a.kept.grows };
        device = tt;
        ok = (record { fits = goes.fits; appended = goes.appended; plan = goes.plan; measure = goes.measure; setting = goes.setting }, a.ok.1, a.ok.2, refl);
        err = tt;
        refused = tt;
        spares = tt;
      };
    }
