-- One of the descriptors that are wanted, or none.
use Rattle.std.proofs.Common.{◌≡◌, ℕ, Bool, true, false, List, ◌++◌, Some, Result, Ok, Err, IfErr, refl, sym, ap, ◌∙◌, arith, inl, inr, ◌⊎◌, IsTrue}
use Rattle.amqp_base.specs.declared.error.Error.{Error}
use Rattle.amqp_base.specs.declared.error.Error.TheVariants.{Message, OutOfMemory}
use Rattle.amqp_base.specs.Describing.{is_described_of, describing_at, is_behind}
use Rattle.amqp_base.specs.Item.{Item, scalar, list, map, array, described, Descriptor}
use Rattle.amqp_base.specs.Refusals.{IsCustom, IsMessage, StandsFor}
use Rattle.amqp_base.specs.Wire.{Wire, lenient}
use Rattle.amqp_data.specs.Excuses.{Excused, no_memory}
use Rattle.amqp_data.proofs.FixedWidth.{custom_device}
use Rattle.amqp_data.proofs.Readings.{onward}
use Rattle.amqp_de.specs.Decoding.{Decoding, stands_under, as_ended}
use Rattle.amqp_de.specs.Describes.{Describes, DescribesNone, NoDescriptor, none_among}
use Rattle.amqp_de.specs.Law.{Missed, Named}
use Rattle.amqp_de.proofs.DescribedRead.{undescribed, undescribed_for}
use Rattle.amqp_de.proofs.PartsRead.{left_of, right_of}
use Rattle.amqp_de.proofs.VariantsRead.{missed_less}

-- an item behind one of them is described
pub is_one : (among : Descriptor → Bool) (takes : Item → Bool) (i : Item) → IsTrue (is_behind among takes i) → IsTrue (is_described_of takes i)
is_one among takes (described e v) t = right_of (among e) (takes v) t
is_one among takes (scalar v) t = t
is_one among takes (list is) t = t
is_one among takes (map ps) t = t
is_one among takes (array is) t = t

module _ (among : Descriptor → Bool) (buffers : Bool) (old : Decoding) where
  none_for : (new : Decoding) (err : Error) → NoDescriptor buffers old new err → Named (none_among among) true buffers old new err
  unfolding none_among
  none_for new err n = record { why = λ a s at h. tell s (undescribed_for buffers old new err n a s at h) }
    where
      tell : (s : List ℕ) → ((custom : Error) → StandsFor custom err → describing_at custom (stands_under old) s ≡ Err err) ⊎ Excused true buffers old.reading new.reading err → none_among among (stands_under old) s err ⊎ Excused true buffers old.reading new.reading err
      tell s (inl p) = inl (inl p)
      tell s (inr y) = inr y

  -- no descriptor stands there
  pub no_descriptor : (new : Decoding) (err : Error) → NoDescriptor buffers old new err → DescribesNone among buffers old new err
  no_descriptor new err n = record { missed = missed_less (is_one among (λ _. true)) (undescribed (λ _. true) buffers old new err n); named = none_for new err n }

  module _ (e : Descriptor) (mid : Decoding) (text : List ℕ) (err : Error) (q : among e ≡ false) (x : Describes e old mid) (c : IsCustom text err) where
    other_missed : Missed (is_behind among (λ _. true)) true buffers old (as_ended mid) err
    other_missed = record {
      why = λ a. why;
      spent = λ a. record { most = let b = x.refused_spent in omega (arith, b) };
      steady = onward x.step;
      device = λ q. absurd (custom_device text err c q);
      memory = λ q. refl;
    }
      where
        why : (i : Item) (t rest : List ℕ) → Wire lenient (stands_under old) t i → IsTrue (is_behind among (λ _. true) i) → old.reading.to_come ≡ Some (t ++ rest) → IsTrue old.reading.honest → Excused true buffers old.reading mid.reading err
        why (described f v) t rest w p at h =
            let o = x.only t rest f v w at in
            let g : IsTrue (among f) = left_of (among f) true p in
            absurd cc (sym (ap among o.0) ∙ g, q)
        why (scalar v) t rest w p at h = absurd cc
        why (list is) t rest w p at h = absurd cc
        why (map ps) t rest w p at h = absurd cc
        why (array is) t rest w p at h = absurd cc

    other_named : Named (none_among among) true buffers old (as_ended mid) err
    unfolding none_among
    other_named = record { why = λ a s at h. let k = x.exact s at in tell s k.0 k.2 err refl c }
      where
        tell : (s rest : List ℕ) → ((custom : Error) → describing_at custom (stands_under old) s ≡ Ok (record { descriptor = e; stands = stands_under mid }, rest)) → (z : Error) → z ≡ err → IsCustom text z
            → none_among among (stands_under old) s err ⊎ Excused true buffers old.reading mid.reading err
        tell s rest k (Message t) z i = inl (inr (record { found = record { descriptor = e; stands = stands_under mid }; rest = rest; header = k; behind = (q, of_message z) }))
          where
            of_message : Message t ≡ err → IsMessage err
            of_message g = rw (← g) tt
        tell s rest k OutOfMemory z i = inr (no_memory (sym z) refl)
        tell s rest k _ z i = absurd i

    -- another one stands there, which is a message
    pub other_descriptor : DescribesNone among buffers old (as_ended mid) err
    other_descriptor = record { missed = other_missed; named = other_named }

  -- whichever was answered, it is refused where it is none of them
  pub none_behind : {A : Type 0} (r : Result A Error) (e : Descriptor) (mid new : Decoding) (text : List ℕ) → Describes e old mid
      → IfErr r (λ err. (among e ≡ false) × IsCustom text err × (new ≡ as_ended mid)) → IfErr r (λ err. DescribesNone among buffers old new err)
  none_behind (Ok x) e mid new text d h = tt
  none_behind (Err err) e mid new text d h = rw h.2 (other_descriptor e mid text err h.0 d h.1)
