-- A described value is read: its descriptor, then the value behind it.
use Rattle.std.proofs.Common.{◌≡◌, ℕ, zero, suc, Bool, true, false, List, ◌++◌, Some, Err, Ok, refl, ◌∙◌, arith, inl, inr, ◌⊎◌, IsTrue}
use Rattle.amqp_base.specs.declared.error.Error.{Error}
use Rattle.amqp_base.specs.Describing.{is_described, is_described_of, means_described, describing_at, describing_behind, DescribedThen, described_refusal}
use Rattle.amqp_base.specs.Item.{Item, scalar, list, map, array, described, Descriptor}
use Rattle.amqp_base.specs.Parse.{byte_at, descriptor_data, descriptor_at}
use Rattle.amqp_base.specs.Refusals.{StandsFor}
use Rattle.amqp_base.specs.Refusing.{Refusing}
use Rattle.amqp_base.specs.Wire.{Constructor, bare, under, under_pair, Wire, lenient}
use Rattle.amqp_data.specs.Excuses.{Excused}
use Rattle.amqp_data.proofs.Readings.{advances_then, excused_before, excused_more, onward, takes_then}
use Rattle.amqp_de.specs.Decoding.{Decoding, stands_under}
use Rattle.amqp_de.specs.Describes.{Describes, NoDescriptor}
use Rattle.amqp_de.specs.Law.{Found, Missed, Named}
use Rattle.amqp_de.proofs.NamedElements.{Uniform, constant, bind, at_byte, of_descriptor, for_all}

pub described_found : (takes : Item → Bool) (means : Item → Type 0) (d : Descriptor) (old mid new : Decoding) → Describes d old mid → Found takes means mid new → Found (is_described_of takes) (means_described means d) old new
described_found takes means d old mid new x f = record {
  front = λ a.
      let o = f.front x.not_ended in
      record {
        item = described d o.item;
        text = x.text ++ o.text;
        spelled = x.whole o.text o.item o.spelled;
        taken = o.taken;
        value = (refl, o.value);
        step = takes_then old.reading mid.reading new.reading x.text o.text x.step o.step;
        not_ended = o.not_ended;
        inherited = o.inherited ∙ x.inherited;
        described = o.described;
        begun = o.begun ∙ x.counts o.item;
      };
  spent = λ a. record { most = let s = (f.spent x.not_ended).most in let b = x.spent in omega (arith, s, b) };
  steady = advances_then old.reading mid.reading new.reading (onward x.step) f.steady;
}

pub described_missed : (takes : Item → Bool) (grows buffers : Bool) (d : Descriptor) (old mid new : Decoding) (e : Error) → Describes d old mid → Missed takes grows buffers mid new e → Missed (is_described_of takes) true buffers old new e
described_missed takes grows buffers d old mid new e x m = record {
  why = λ a. why;
  spent = λ a. record { most = let s = (m.spent x.not_ended).most in let b = x.refused_spent in omega (arith, s, b) };
  steady = advances_then old.reading mid.reading new.reading (onward x.step) m.steady;
  device = λ q. let f = x.step.steady.faults in let g = m.device q in omega (arith, f, g);
  memory = λ q. refl;
}
  where
    why : (i : Item) (t rest : List ℕ) → Wire lenient (stands_under old) t i → IsTrue (is_described_of takes i) → old.reading.to_come ≡ Some (t ++ rest) → IsTrue old.reading.honest → Excused true buffers old.reading new.reading e
    why (described f v) t rest w q at h =
        let o = x.only t rest f v w at in
        excused_before old.reading mid.reading new.reading x.text e x.step (excused_more mid.reading new.reading e (λ _. refl) (m.why x.not_ended v o.1 rest o.2 q o.3 (x.step.steady.honest ∙ h)))
    why (scalar v) t rest w q at h = absurd cc
    why (list is) t rest w q at h = absurd cc
    why (map ps) t rest w q at h = absurd cc
    why (array is) t rest w q at h = absurd cc

any_described : (takes : Item → Bool) (i : Item) → IsTrue (is_described_of takes i) → IsTrue (is_described i)
any_described takes (described d v) t = refl
any_described takes (scalar v) t = t
any_described takes (list is) t = t
any_described takes (map ps) t = t
any_described takes (array is) t = t

-- no descriptor stood there
pub undescribed : (takes : Item → Bool) (buffers : Bool) (old new : Decoding) (e : Error) → NoDescriptor buffers old new e → Missed (is_described_of takes) true buffers old new e
undescribed takes buffers old new e n = record {
  why = λ a i t rest w q at h. n.missed.why a i t rest w (any_described takes i q) at h;
  spent = n.missed.spent;
  steady = n.missed.steady;
  device = n.missed.device;
  memory = n.missed.memory;
}

-- ---- refusals by name

pub of_describing : (c : Constructor) (s : List ℕ) → Uniform (λ custom. describing_at custom c s)
unfolding describing_at
of_describing bare s = bind (λ _. byte_at s) (λ custom b. describing_behind custom b.0 b.1) (constant _) (λ b. tell b.0 b.1)
  where
    tell : (n : ℕ) (t : List ℕ) → Uniform (λ custom. describing_behind custom n t)
    tell zero t = bind (λ custom. descriptor_at custom t) (λ _ d. Ok (record { descriptor = d.0; stands = bare }, d.1)) (at_byte descriptor_data of_descriptor (byte_at t)) (λ d. constant _)
    tell (suc n) t = constant _
of_describing (under e) s = constant _
of_describing (under_pair d e) s = constant _

-- so a refusal has one name, whatever the text of a message
pub undescribed_for : (buffers : Bool) (old new : Decoding) (e : Error) → NoDescriptor buffers old new e → old.ended ≡ false → (s : List ℕ) → old.reading.to_come ≡ Some s → IsTrue old.reading.honest
    → ((custom : Error) → StandsFor custom e → describing_at custom (stands_under old) s ≡ Err e) ⊎ Excused true buffers old.reading new.reading e
undescribed_for buffers old new e n a s at h = for_all (λ custom. describing_at custom (stands_under old) s) (of_describing (stands_under old) s) e (Excused true buffers old.reading new.reading e) (λ custom x. (n.rejects a custom x).why s at h)

pub undescribed_named : (refuses : Refusing) (buffers : Bool) (old new : Decoding) (e : Error) → NoDescriptor buffers old new e → Named (described_refusal refuses) true buffers old new e
unfolding described_refusal
undescribed_named refuses buffers old new e n = record { why = λ a s at h. tell s (undescribed_for buffers old new e n a s at h) }
  where
    tell : (s : List ℕ) → ((custom : Error) → StandsFor custom e → describing_at custom (stands_under old) s ≡ Err e) ⊎ Excused true buffers old.reading new.reading e
        → (((custom : Error) → StandsFor custom e → describing_at custom (stands_under old) s ≡ Err e) ⊎ DescribedThen (λ d rest. refuses d.stands rest e) (stands_under old) s) ⊎ Excused true buffers old.reading new.reading e
    tell s (inl p) = inl (inl p)
    tell s (inr y) = inr y

pub described_named : (refuses : Refusing) (grows buffers : Bool) (d : Descriptor) (old mid new : Decoding) (e : Error) → Describes d old mid → Named refuses grows buffers mid new e → Named (described_refusal refuses) true buffers old new e
unfolding described_refusal
described_named refuses grows buffers d old mid new e x n = record {
  why = λ a s at h.
      let k = x.exact s at in
      tell s k.0 k.2 (n.why x.not_ended k.0 k.1 (x.step.steady.honest ∙ h));
}
  where
    tell : (s rest : List ℕ) → ((custom : Error) → describing_at custom (stands_under old) s ≡ Ok (record { descriptor = d; stands = stands_under mid }, rest)) → refuses (stands_under mid) rest e ⊎ Excused grows buffers mid.reading new.reading e
        → (((custom : Error) → StandsFor custom e → describing_at custom (stands_under old) s ≡ Err e) ⊎ DescribedThen (λ f z. refuses f.stands z e) (stands_under old) s) ⊎ Excused true buffers old.reading new.reading e
    tell s rest k (inl p) = inl (inr (record { found = record { descriptor = d; stands = stands_under mid }; rest = rest; header = k; behind = p }))
    tell s rest k (inr y) = inr (excused_before old.reading mid.reading new.reading x.text e x.step (excused_more mid.reading new.reading e (λ _. refl) y))
