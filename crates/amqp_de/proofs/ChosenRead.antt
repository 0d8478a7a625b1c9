-- Reading a type that has some of the values of another.
use Rattle.std.proofs.Common.{◌≡◌, ℕ, Bool, false, ◌||◌, List, ◌++◌, Some, IsTrue, sym, subst, inl, inr, ◌⊎◌}
use Rattle.amqp_base.specs.Item.{Item}
use Rattle.amqp_base.specs.Wire.{Wire, lenient}
use Rattle.amqp_base.specs.Meaning.{Meaning}
use Rattle.amqp_base.specs.Chosen.{ChosenFrom}
use Rattle.amqp_base.specs.declared.error.Error.{Error}
use Rattle.amqp_base.specs.declared.error.Error.TheVariants.{InvalidValue}
use Rattle.amqp_base.proofs.OneFront.{same_wire}
use Rattle.amqp_de.specs.Decoding.{Decoding, stands_under}
use Rattle.amqp_data.specs.Excuses.{Excused}
use Rattle.amqp_de.specs.Law.{Front, Found, Missed, Named}
use Rattle.amqp_de.proofs.Answered.{spent_refused}
use Rattle.amqp_de.proofs.PartsRead.{missed_more}
use Rattle.amqp_data.proofs.Readings.{behind, excused_more}
use Rattle.amqp_de.proofs.ReadParts.{or_more}
use Rattle.amqp_de.proofs.Weaker.{found_as}

module _ {V A : Type 0} (of : Meaning A) (some : Meaning V) (content : V → A) (allowed : A → Bool) (c : ChosenFrom of some content allowed) (buffers : Bool) (old new : Decoding) where
  pub chosen_found : (v : V) (a : A) → content v ≡ a → Found of.takes (λ i. of.means i a) old new → Found some.takes (λ i. some.means i v) old new
  chosen_found v a e f = found_as of.takes some.takes (λ i. of.means i a) (λ i. some.means i v) old new (λ i t m. c.taken i v t (rw e m)) f

  -- the item that stands there is none of these
  none_there : (a : A) → allowed a ≡ false → Front of.takes (λ i. of.means i a) old new → (i : Item) (text rest : List ℕ) → Wire lenient (stands_under old) text i → IsTrue (some.takes i) → old.reading.to_come ≡ Some (text ++ rest) → ⊥
  none_there a n f i text rest w t at =
      let b = behind old.reading new.reading (text ++ rest) f.text f.step at in
      let same = same_wire w f.spelled rest b.0 b.2 in
      let h = c.inner f.item a f.value (rw same.1 at t) in
      cc (h, n)

  pub chosen_none : (a : A) → allowed a ≡ false → Found of.takes (λ i. of.means i a) old new → Missed some.takes (some.grows || buffers) buffers old new InvalidValue
  chosen_none a n f = record {
    why = λ x i text rest w t at h. absurd (none_there a n (f.front x) i text rest w t at);
    spent = λ x. spent_refused old new (f.spent x);
    steady = f.steady;
    device = λ d. absurd d;
    memory = λ m. absurd cc m;
  }

  pub chosen_missed : (e : Error) → Missed of.takes (of.grows || buffers) buffers old new e → Missed some.takes (some.grows || buffers) buffers old new e
  chosen_missed e m =
      let more = missed_more {takes = of.takes} {grows = some.grows || buffers} (or_more of.grows some.grows buffers c.grows) m in
      record {
        why = λ x i text rest w t at h. more.why x i text rest w (c.outer i t) at h;
        spent = more.spent;
        steady = more.steady;
        device = more.device;
        memory = more.memory;
      }

  -- refusals by name
  pub chosen_none_named : (a : A) → allowed a ≡ false → Found of.takes (λ i. of.means i a) old new → Named some.refuses (some.grows || buffers) buffers old new InvalidValue
  chosen_none_named a n f = record {
    why = λ x s at h.
        let o = f.front x in
        let b = behind old.reading new.reading s o.text o.step at in
        inl (subst (λ (z : List ℕ). some.refuses (stands_under old) z InvalidValue) (sym b.2) (c.own_refusal (stands_under old) o.text b.0 o.item a o.spelled o.taken o.value n));
  }

  pub chosen_named : (e : Error) → Named of.refuses (of.grows || buffers) buffers old new e → Named some.refuses (some.grows || buffers) buffers old new e
  chosen_named e n = record { why = λ x s at h. tell s (n.why x s at h) }
    where
      tell : (s : List ℕ) → of.refuses (stands_under old) s e ⊎ Excused (of.grows || buffers) buffers old.reading new.reading e → some.refuses (stands_under old) s e ⊎ Excused (some.grows || buffers) buffers old.reading new.reading e
      tell s (inl p) = inl (c.outer_refusal (stands_under old) s e p)
      tell s (inr y) = inr (excused_more old.reading new.reading e (or_more of.grows some.grows buffers c.grows) y)
