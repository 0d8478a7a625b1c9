-- From a descriptor and the value behind it to a described item that is written.
use Rattle.std.proofs.Common.{◌≡◌, ℕ, nat_lt, if◌then◌else◌, Bool, true, false, List, [], ◌∷◌, ◌++◌, length, Option, Some, None, Result, Ok, Err, refl, sym, ap, subst, ◌∙◌, arith, inl, inr, ◌⊎◌}
use Rattle.std.specs.declared.io.ErrorKind.TheVariants.{Other as IoOther}
use Rattle.amqp_base.specs.declared.error.Error.{Error}
use Rattle.amqp_base.specs.declared.error.Error.TheVariants.{Message, Io, InvalidFormatCode, InvalidValue, InvalidUtf8Encoding, SequenceLengthMismatch, InvalidLength, OutOfMemory}
use Rattle.amqp_base.specs.declared.format_code.EncodingCodes.{EncodingCodes}
use Rattle.amqp_base.specs.declared.shape.Setting.{Setting}
use Rattle.amqp_base.specs.declared.shape.Setting.TheVariants.{DescribedBasic}
use Rattle.amqp_base.specs.Refusals.{IsDevice}
use Rattle.amqp_base.specs.Faults.{IsFault}
use Rattle.amqp_base.specs.Item.{Descriptor, descriptor_item, Item, scalar, described}
use Rattle.amqp_base.specs.Wire.{Constructor, under, under_pair}
use Rattle.amqp_base.specs.Canon.{◌>>=◌, when, limit, kind_code, descriptor_text, same_descriptor, canon}
use Rattle.amqp_base.specs.Sizes.{Size, sizes}
use Rattle.amqp_types.specs.declared.described.Descriptor.{Descriptor as OwnDescriptor}
use Rattle.amqp_ser.specs.State.{State, Planned, Mark, unmarked, first, other}
use Rattle.amqp_write.specs.State.{constructor_in}
use Rattle.amqp_write.specs.declared.place.Constructor.TheVariants.{UnderPair}
use Rattle.amqp_write.specs.Texts.{unwritten, payload_length}
use Rattle.amqp_ser.specs.Law.{marked, why_unwritten, fits, is_next, text_for, found_after, plan_after, Goes, Wrote, Refused}
use Rattle.amqp_write.specs.Appending.{Pays}
use Rattle.amqp_ser.specs.Describing.{describing, why_undescribed, IsOwn, WroteBehind, by_descriptor, RefusesAbsent}
use Rattle.amqp_write.proofs.Steps.{kept_two, fits_nil}
use Rattle.amqp_write.proofs.Counting.{goes_more}
use Rattle.amqp_write.proofs.DescribedTexts.{alone_text, first_text, first_code, first_without, alone_undescribed, first_undescribed, first_twice, other_text, why_described, why_no_descriptor}
use Rattle.amqp_write.proofs.WhyElsewhere.{canon_why, why_name, IsName}

some_not : {A : Type 0} (x : A) → Some x ≡ None → ⊥
some_not x h = cc

some_one : {A : Type 0} (x y : A) → Some x ≡ Some y → x ≡ y
some_one x y h = cc

plan_none : (p : Option Planned) (l : List Size) (b : List ℕ) → p ≡ None → plan_after p l b ≡ None
plan_none p l b h = rw h refl

next_same : (p : Option Planned) (l : List Size) (b : List ℕ) → is_next (plan_after p [] b) l ≡ is_next p l
next_same None l b = refl
next_same (Some p) l b = refl

-- what stands under a setting of its own
pub wrote_set : (s w : State) (k : Setting) (i : Item) → Wrote (record s { setting = k }) i w → Wrote s i (record w { setting = s.setting })
unfolding fits
wrote_set s w k i h = record {
  kept = record { bytes = h.kept.bytes; faults = h.kept.faults; grows = h.kept.grows };
  took = λ a. let q = h.took a in record { bytes = q.bytes; text = q.text; goes = record { fits = q.goes.fits; appended = q.goes.appended; plan = q.goes.plan; measure = q.goes.measure; setting = refl }; mark = q.mark; found = q.found };
  answers = h.answers;
}

pub refused_set : (s w : State) (k : Setting) (i : Item) (e : Error) → Refused (record s { setting = k }) i e w → Refused s i e w
unfolding text_for fits
refused_set s w k i e h = record {
  kept = record { bytes = h.kept.bytes; faults = h.kept.faults; grows = h.kept.grows };
  device = h.device;
  cause = λ a. elim (h.cause a) [ inl n ↦ inl n | inr q ↦ inr (elim q [ inl io ↦ inl io | inr x ↦ inr (record { none = x.none; named = x.named }) ]) ];
}

-- what is told of the sizes is told of the plan alone
fits_plan : (s : State) (l : List Size) (n : ℕ) → fits s l n ≡ is_next s.plan l
unfolding fits
fits_plan s l n = refl

text_plan : (s : State) (i : Item) → text_for s i ≡ (marked s.mark i >>= λ b. when (is_next s.plan (sizes i)) b)
unfolding text_for fits
text_plan s i = refl

-- where a value has no text, nothing that has none without it has one
without : (o r : Option (List ℕ)) (t u : Bool) → (o ≡ None → r ≡ None) → t ≡ u → (o >>= λ b. when t b) ≡ None → (r >>= λ b. when u b) ≡ None
without None r t u h e n = rw (h refl) refl
without (Some b) r true u h e n = absurd (some_not b n)
without (Some b) None false u h e n = refl
without (Some b) (Some c) false u h e n = rw (sym e) refl

-- the descriptor, where it was written
front_of : (o : Option (List ℕ)) (b : List ℕ) → (o >>= λ a. Some (0x00 ∷ a)) ≡ Some b → (a : List ℕ) × (o ≡ Some a) × (0x00 ∷ a ≡ b)
front_of None b h = cc
front_of (Some a) b h = (a, refl, some_one _ _ h)

no_front : (o : Option (List ℕ)) (s : State) → ((o >>= λ a. Some (0x00 ∷ a)) >>= λ b. when (fits s [] (length b)) b) ≡ None → o ≡ None
no_front None s h = refl
no_front (Some a) s h = let no : Some (0x00 ∷ a) ≡ None = rw (fits_nil s (length (0x00 ∷ a))) at h in cc

-- an item with its own constructor, behind a descriptor
own_undescribed : (m : Mark) (d : Descriptor) (v : Item) → IsOwn m → descriptor_text d ≡ None → marked m (described d v) ≡ None
own_undescribed unmarked d v h n = alone_undescribed d v n
own_undescribed first d v h n = first_undescribed d v n
own_undescribed (other c) d v h n = absurd h

alone_without : (d : Descriptor) (v : Item) → marked unmarked v ≡ None → marked unmarked (described d v) ≡ None
alone_without d v h = alone_text d v ∙ go (descriptor_text d) (marked unmarked v) h
  where
    go : (t o : Option (List ℕ)) → o ≡ None → (t >>= λ a. o >>= λ b. Some (0x00 ∷ a ++ b)) ≡ None
    go None o h = refl
    go (Some a) o h = rw h refl

own_without : (m : Mark) (d : Descriptor) (v : Item) → IsOwn m → marked m v ≡ None → marked m (described d v) ≡ None
own_without unmarked d v h n = alone_without d v n
own_without first d v h n = first_without d v n
own_without (other c) d v h n = absurd h

pub behind_ok : {A : Type 0} (s m u w : State) (d : Descriptor) (v : Item) (why : Error) (x : A) → s.ended ≡ false → Pays (record s { mark = unmarked }) (describing d) s.found [] why (Ok x) m → u ≡ record m { setting = DescribedBasic; mark = s.mark } → Wrote u v w → WroteBehind s d v (record w { setting = s.setting })
unfolding fits
behind_ok s m u w d v why x answers p is h =
    let k = subst (λ z. Wrote z v w) is h in
    let q = k.took p.ok.5 in
    let f = front_of (descriptor_text d) p.ok.0 p.ok.1 in
    let o = record s { mark = unmarked } in
    let z = record w { setting = m.setting } in
    let two : Goes m q.bytes (sizes v) z = record { fits = q.goes.fits; appended = q.goes.appended; plan = q.goes.plan; measure = q.goes.measure; setting = refl } in
    let whole : Goes o (0x00 ∷ f.0 ++ q.bytes) (sizes v) z = subst (λ b. Goes o (b ++ q.bytes) (sizes v) z) (sym f.2) (goes_more o m z p.ok.0 q.bytes [] (sizes v) p.ok.2 two) in
    record {
      front = f.0;
      bytes = q.bytes;
      text = f.1;
      value = q.text;
      goes = record { fits = whole.fits; appended = whole.appended; plan = whole.plan; measure = whole.measure; setting = refl };
      kept = let both = kept_two o m z p.kept (record { bytes = k.kept.bytes; faults = k.kept.faults; grows = k.kept.grows }) in record { bytes = both.bytes; faults = both.faults; grows = both.grows };
      mark = q.mark;
      found = q.found ∙ ap (λ c. found_after s.mark (kind_code v) c) p.ok.4;
      answers = k.answers p.ok.5;
    }

pub behind_undescribed : {A : Type 0} (s m : State) (d : Descriptor) (v : Item) (e : Error) (r : Result A Error) → r ≡ Err e → IsOwn s.mark → Pays (record s { mark = unmarked }) (describing d) s.found [] (why_undescribed d) r m → Refused s (described d v) e m
unfolding text_for
behind_undescribed {A} s m d v e r is own p = go (subst (λ z. Pays (record s { mark = unmarked }) (describing d) s.found [] (why_undescribed d) z m) is p)
  where
    go : Pays {A = A} (record s { mark = unmarked }) (describing d) s.found [] (why_undescribed d) (Err e) m → Refused s (described d v) e m
    go p = record {
      kept = record { bytes = p.kept.bytes; faults = p.kept.faults; grows = p.kept.grows };
      device = p.device;
      cause = λ h. elim p.refused [ inl n ↦ inl n | inr q ↦ inr (elim q [ inl io ↦ inl io | inr w ↦ inr (let none = no_front (descriptor_text d) _ w.none in record { none = rw (own_undescribed s.mark d v own none) refl; named = λ plan. w.named plan ∙ sym (why_no_descriptor d v none) }) ]) ];
    }

pub behind_refused : {A : Type 0} (s m u w : State) (d : Descriptor) (v : Item) (why e : Error) (x : A) → s.ended ≡ false → IsOwn s.mark → Pays (record s { mark = unmarked }) (describing d) s.found [] why (Ok x) m → u ≡ record m { setting = DescribedBasic; mark = s.mark } → Refused u v e w → Refused s (described d v) e (record w { ended = true })
unfolding sizes
behind_refused s m u w d v why e x answers own p is h =
    let k = subst (λ z. Refused z v e w) is h in
    let f = front_of (descriptor_text d) p.ok.0 p.ok.1 in
    let both = kept_two (record s { mark = unmarked }) m w p.kept (record { bytes = k.kept.bytes; faults = k.kept.faults; grows = k.kept.grows }) in
    let next : is_next m.plan (sizes v) ≡ is_next s.plan (sizes v) = ap (λ z. is_next z (sizes v)) p.ok.2.plan ∙ next_same s.plan (sizes v) p.ok.0 in
    record {
      kept = record { bytes = both.bytes; faults = both.faults; grows = both.grows };
      device = λ n. omega (arith, p.kept.faults, k.device n);
      cause = λ _. elim (k.cause p.ok.5) [
        | inl n ↦ inl n
        | inr q ↦ inr (elim q [
          | inl io ↦ inl (io.0, omega (arith, p.kept.faults, io.1))
          | inr n ↦ inr (record {
            none = text_plan s (described d v) ∙ behind_none s.mark s.plan own next (sym (text_plan (record m { setting = DescribedBasic; mark = s.mark }) v) ∙ n.none);
            named = λ plan. n.named (p.ok.2.plan ∙ plan_none s.plan [] p.ok.0 plan) ∙ sym (why_described d v f.0 f.1);
          })
        ])
      ];
    }
  where
    behind_none : (k : Mark) (p : Option Planned) → IsOwn k → is_next m.plan (sizes v) ≡ is_next p (sizes v) → (marked k v >>= λ b. when (is_next m.plan (sizes v)) b) ≡ None → (marked k (described d v) >>= λ b. when (is_next p (sizes (described d v))) b) ≡ None
    behind_none k p o e n = without (marked k v) (marked k (described d v)) _ _ (λ z. own_without k d v o z) e n

-- outside arrays
pub alone_ok : (s t : State) (d : Descriptor) (v : Item) → s.mark ≡ unmarked → WroteBehind s d v t → Wrote s (described d v) t
unfolding sizes
alone_ok s t d v m w = record {
  kept = w.kept;
  took = λ _. record {
    bytes = 0x00 ∷ w.front ++ w.bytes;
    text = alone_at s.mark m w.value;
    goes = w.goes;
    mark = w.mark;
    found = w.found ∙ found_same s.mark (kind_code v) (kind_code (described d v)) s.found m;
  };
  answers = λ _. w.answers;
}
  where
    found_same : (k : Mark) (a b c : Option Constructor) → k ≡ unmarked → found_after k a c ≡ found_after k b c
    found_same k a b c h = rw h refl

    alone_at : (k : Mark) → k ≡ unmarked → marked k v ≡ Some w.bytes → marked k (described d v) ≡ Some (0x00 ∷ w.front ++ w.bytes)
    alone_at k h t = let t' = subst (λ z. marked z v ≡ Some w.bytes) h t in subst (λ z. marked z (described d v) ≡ Some (0x00 ∷ w.front ++ w.bytes)) (sym h) (alone_text d v ∙ rw (w.text, t') refl)

-- as a first element, whose code is kept with the descriptor
pub first_ok : (s u t : State) (d : Descriptor) (v : Item) (e : EncodingCodes) → s.mark ≡ first → WroteBehind s d v u → u.found ≡ Some (under e) → t ≡ record u { found = Some (under_pair d e) } → Wrote s (described d v) t
unfolding sizes
first_ok s u t d v e m w f is =
    let k : kind_code v ≡ Some (under e) = code_at s.mark m w.found ∙ f in
    subst (λ z. Wrote s (described d v) z) (sym is) (whole k)
  where
    code_at : (n : Mark) → n ≡ first → u.found ≡ found_after n (kind_code v) s.found → kind_code v ≡ u.found
    code_at n h c = let c' = subst (λ z. u.found ≡ found_after z (kind_code v) s.found) h c in sym c'

    text_at : (n : Mark) → kind_code v ≡ Some (under e) → n ≡ first → marked n v ≡ Some w.bytes → marked n (described d v) ≡ Some (0x00 ∷ w.front ++ w.bytes)
    text_at n k h x = let x' = subst (λ z. marked z v ≡ Some w.bytes) h x in subst (λ z. marked z (described d v) ≡ Some (0x00 ∷ w.front ++ w.bytes)) (sym h) (first_text d v e k ∙ rw (w.text, x') refl)

    found_at : (n : Mark) → kind_code v ≡ Some (under e) → n ≡ first → Some (under_pair d e) ≡ found_after n (kind_code (described d v)) s.found
    found_at n k h = rw h (sym (first_code d v e k))

    whole : kind_code v ≡ Some (under e) → Wrote s (described d v) (record u { found = Some (under_pair d e) })
    whole k = record {
      kept = record { bytes = w.kept.bytes; faults = w.kept.faults; grows = w.kept.grows };
      took = λ _. record {
        bytes = 0x00 ∷ w.front ++ w.bytes;
        text = text_at s.mark k m w.value;
        goes = record { fits = w.goes.fits; appended = w.goes.appended; plan = w.goes.plan; measure = w.goes.measure; setting = w.goes.setting };
        mark = w.mark;
        found = found_at s.mark k m;
      };
      answers = λ _. w.answers;
    }

-- the descriptor found no memory to be kept
pub first_no_memory : (s u t : State) (d : Descriptor) (v : Item) (e : Error) → WroteBehind s d v u → e ≡ OutOfMemory → t ≡ record u { ended = true } → Refused s (described d v) e t
first_no_memory s u t d v e w is at_t = subst (λ z. Refused s (described d v) e z) (sym at_t) (record {
  kept = record { bytes = w.kept.bytes; faults = w.kept.faults; grows = w.kept.grows };
  device = λ n. absurd (subst (λ z. IsDevice z) is n);
  cause = λ _. inl is;
})

-- a first element that is described twice
pub first_nowhere : (s u t : State) (d : Descriptor) (v : Item) (e : Error) → s.mark ≡ first → WroteBehind s d v u → ((c : EncodingCodes) → u.found ≡ Some (under c) → ⊥) → RefusesAbsent u (described d v) e t → Refused s (described d v) e t
unfolding text_for
first_nowhere s u t d v e m w f h =
    let n = none_at s.mark m w.found in
    let n' = subst (λ z. marked z (described d v) ≡ None) (sym w.mark) n in
    let r = h (rw n' refl) in
    let both = kept_two s u t w.kept r.kept in
    record {
      kept = both;
      device = λ x. omega (arith, w.kept.faults, r.device x);
      cause = λ _. elim (r.cause w.answers) [
        | inl x ↦ inl x
        | inr q ↦ inr (elim q [
          | inl io ↦ inl (io.0, omega (arith, w.kept.faults, io.1))
          | inr x ↦ inr (record { none = rw n refl; named = λ plan. x.named (w.goes.plan ∙ plan_none s.plan (sizes v) _ plan) })
        ])
      ];
    }
  where
    none_at : (k : Mark) → k ≡ first → u.found ≡ found_after k (kind_code v) s.found → marked k (described d v) ≡ None
    none_at k h c =
        let c' = subst (λ z. u.found ≡ found_after z (kind_code v) s.found) h c in
        subst (λ z. marked z (described d v) ≡ None) (sym h) (first_twice d v (λ x y. f x (c' ∙ y)))

-- an item that has no text there is written elsewhere, which names the refusal
pub nowhere_ok : (s u w t : State) (d : Descriptor) (v : Item) → u ≡ record s { mark = unmarked } → t ≡ record w { ended = true } → WroteBehind u d v w → RefusesAbsent s (described d v) InvalidValue t
unfolding marked canon
nowhere_ok s u w t d v is at_t h none =
    let k = subst (λ z. WroteBehind z d v w) is h in
    subst (λ z. Refused s (described d v) InvalidValue z) (sym at_t) (record {
      kept = record { bytes = k.kept.bytes; faults = k.kept.faults; grows = k.kept.grows };
      device = λ x. absurd x;
      cause = λ _. inr (inr (record { none = none; named = λ _. sym (canon_why (described d v) (0x00 ∷ k.front ++ k.bytes) (text k)) }));
    })
  where
    text : (k : WroteBehind (record s { mark = unmarked }) d v w) → canon (described d v) ≡ Some (0x00 ∷ k.front ++ k.bytes)
    text k = rw (k.text, k.value) refl

pub nowhere_refused : (s u t : State) (i : Item) (e : Error) → u ≡ record s { mark = unmarked } → s.ended ≡ false → Refused u i e t → RefusesAbsent s i e t
nowhere_refused s u t i e is answers h none =
    let k = subst (λ z. Refused z i e t) is h in
    record {
      kept = record { bytes = k.kept.bytes; faults = k.kept.faults; grows = k.kept.grows };
      device = k.device;
      cause = λ a. elim (k.cause a) [ inl n ↦ inl n | inr q ↦ inr (elim q [ inl io ↦ inl io | inr x ↦ inr (record { none = none; named = x.named }) ]) ];
    }

-- behind the array's own descriptor
pub again_ok : (s u w t : State) (d f : Descriptor) (c : EncodingCodes) (v : Item) → s.mark ≡ other (under_pair f c) → same_descriptor f d ≡ true → u ≡ record s { setting = DescribedBasic; mark = other (under c); found = None } → Wrote u v w → t ≡ record w { setting = s.setting; mark = s.mark; found = s.found } → Wrote s (described d v) t
unfolding sizes fits
again_ok s u w t d f c v m same is h at_t = subst (λ z. Wrote s (described d v) z) (sym at_t) (whole (subst (λ z. Wrote z v w) is h))
  where
    found_at : (k : Mark) (a b : Option Constructor) → k ≡ other (under_pair f c) → b ≡ found_after k a b
    found_at k a b h = rw h refl

    whole : Wrote (record s { setting = DescribedBasic; mark = other (under c); found = None }) v w → Wrote s (described d v) (record w { setting = s.setting; mark = s.mark; found = s.found })
    whole k = record {
      kept = record { bytes = k.kept.bytes; faults = k.kept.faults; grows = k.kept.grows };
      took = λ a. let q = k.took a in record {
        bytes = q.bytes;
        text = subst (λ z. marked z (described d v) ≡ Some q.bytes) (sym m) (other_text d f c v same ∙ q.text);
        goes = record { fits = q.goes.fits; appended = q.goes.appended; plan = q.goes.plan; measure = q.goes.measure; setting = refl };
        mark = refl;
        found = found_at s.mark _ _ m;
      };
      answers = k.answers;
    }

-- the name of a value's refusal, or its descriptor's
pub name_behind : (d : Descriptor) (v : Item) (e : Error) → (descriptor_text d ≡ None → why_undescribed d ≡ Io IoOther) → e ≡ why_unwritten v → by_descriptor d e ≡ why_unwritten (described d v)
unfolding why_unwritten canon
name_behind d v e long is = go (descriptor_text d) refl
  where
    named : (f : Error) → IsName f → f ≡ e → (descriptor_text d ≡ None → why_undescribed d ≡ Io IoOther) → (o : Option (List ℕ)) → descriptor_text d ≡ o → by_descriptor d f ≡ why_unwritten (described d v)
    named f (inl n) h long None t = rw n (sym (why_no_descriptor d v t))
    named f (inr n) h long None t = rw n (sym (why_no_descriptor d v t ∙ long t))
    named f (inl n) h long (Some a) t = rw n (canon_why (scalar (descriptor_item d)) a t) ∙ sym (why_described d v a t ∙ (sym is ∙ (sym h ∙ n)))
    named f (inr n) h long (Some a) t = rw n refl ∙ sym (why_described d v a t ∙ (sym is ∙ (sym h ∙ n)))

    go : (o : Option (List ℕ)) → descriptor_text d ≡ o → by_descriptor d e ≡ why_unwritten (described d v)
    go o t = named e (subst IsName (sym is) (why_name v)) refl long o t

no_memory_behind : (d : Descriptor) (e : Error) → e ≡ OutOfMemory → by_descriptor d e ≡ OutOfMemory
no_memory_behind d e h = rw h refl

fault_behind : (d : Descriptor) (e : Error) (k : _) → IsFault k e → e ≡ by_descriptor d e
fault_behind d (Io x) k h = refl
fault_behind d (Message m) k h = absurd h
fault_behind d InvalidFormatCode k h = absurd h
fault_behind d InvalidValue k h = absurd h
fault_behind d InvalidUtf8Encoding k h = absurd h
fault_behind d SequenceLengthMismatch k h = absurd h
fault_behind d InvalidLength k h = absurd h
fault_behind d OutOfMemory k h = absurd h

-- a device's kind stays one
device_behind : (d : Descriptor) (e : Error) → (why_undescribed d ≡ InvalidValue) ⊎ (why_undescribed d ≡ Io IoOther) → IsDevice (by_descriptor d e) → IsDevice e
device_behind d (Message m) w h = h
device_behind d (Io k) w h = h
device_behind d InvalidFormatCode w h = h
device_behind d InvalidValue (inl w) h = subst IsDevice w h
device_behind d InvalidValue (inr w) h = let n = subst IsDevice w h in absurd (n.1 refl)
device_behind d InvalidUtf8Encoding w h = h
device_behind d SequenceLengthMismatch w h = h
device_behind d InvalidLength w h = h
device_behind d OutOfMemory w h = h

length_name : (n : ℕ) → (unwritten n ≡ InvalidValue) ⊎ (unwritten n ≡ Io IoOther)
length_name n = go (nat_lt limit n)
  where
    go : (t : Bool) → ((if t then Io IoOther else InvalidValue) ≡ InvalidValue) ⊎ ((if t then Io IoOther else InvalidValue) ≡ Io IoOther)
    go true = inr refl
    go false = inl refl

pub again_refused : (s u w t : State) (d f : Descriptor) (c : EncodingCodes) (v : Item) (e : Error) → s.ended ≡ false → s.mark ≡ other (under_pair f c) → same_descriptor f d ≡ true → u ≡ record s { setting = DescribedBasic; mark = other (under c); found = None } → (descriptor_text d ≡ None → why_undescribed d ≡ Io IoOther) → Refused u v e w → t ≡ record w { ended = true } → Refused s (described d v) (by_descriptor d e) t
unfolding sizes
again_refused s u w t d f c v e answers m same is long h at_t = subst (λ z. Refused s (described d v) (by_descriptor d e) z) (sym at_t) (whole (subst (λ z. Refused z v e w) is h))
  where
    none_at : (k : Mark) → k ≡ other (under_pair f c) → (marked (other (under c)) v >>= λ b. when (is_next s.plan (sizes v)) b) ≡ None → (marked k (described d v) >>= λ b. when (is_next s.plan (sizes (described d v))) b) ≡ None
    none_at k h n = subst (λ z. (marked z (described d v) >>= λ b. when (is_next s.plan (sizes v)) b) ≡ None) (sym h) (rw (other_text d f c v same) n)

    whole : Refused (record s { setting = DescribedBasic; mark = other (under c); found = None }) v e w → Refused s (described d v) (by_descriptor d e) (record w { ended = true })
    whole k = record {
      kept = record { bytes = k.kept.bytes; faults = k.kept.faults; grows = k.kept.grows };
      device = λ n. k.device (device_behind d e (length_name (payload_length (descriptor_item d))) n);
      cause = λ a. elim (k.cause a) [
        | inl n ↦ inl (no_memory_behind d e n)
        | inr q ↦ inr (elim q [
          | inl io ↦ inl (subst (λ z. IsFault w.last_fault z) (fault_behind d e w.last_fault io.0) io.0, io.1)
          | inr n ↦ inr (record {
            none = text_plan s (described d v) ∙ none_at s.mark m (sym (text_plan (record s { setting = DescribedBasic; mark = other (under c); found = None }) v) ∙ n.none);
            named = λ plan. name_behind d v e long (n.named plan);
          })
        ])
      ];
    }

pub pair_not_under : (d : Option OwnDescriptor) (e c : EncodingCodes) → Some (constructor_in d (UnderPair e)) ≡ Some (under c) → ⊥
pair_not_under None e c h = cc
pair_not_under (Some d) e c h = cc
