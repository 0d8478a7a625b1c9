-- From what stands in front of a value, and the value behind it, to a described item that is written.
use Rattle.std.proofs.Common.{◌≡◌, if◌then◌else◌, Bool, true, false, List, Option, Some, None, Result, Ok, Err, refl, sym, ap, subst, ◌∙◌}
use Rattle.std.specs.declared.io.ErrorKind.TheVariants.{Other as IoOther}
use Rattle.amqp_base.specs.declared.error.Error.{Error}
use Rattle.amqp_base.specs.declared.error.Error.TheVariants.{Message, Io, InvalidFormatCode, InvalidValue, InvalidUtf8Encoding, SequenceLengthMismatch, InvalidLength, OutOfMemory}
use Rattle.amqp_base.specs.declared.format_code.EncodingCodes.{EncodingCodes}
use Rattle.amqp_base.specs.declared.shape.Setting.{Setting}
use Rattle.amqp_base.specs.Item.{Descriptor, Item, described}
use Rattle.amqp_base.specs.Wire.{Constructor, under, under_pair}
use Rattle.amqp_base.specs.Canon.{kind_code}
use Rattle.amqp_types.specs.Descriptors.{descriptor_of}
use Rattle.amqp_ser.specs.State.{State, Mark, unmarked, first}
use Rattle.amqp_ser.specs.Law.{marked, text_for, found_after, Wrote, Refused}
use Rattle.amqp_ser.specs.Compound.{back, Open, Holds, Complete, is_map, shape_code}
use Rattle.amqp_ser.specs.Staged.{ClosesBehind}
use Rattle.amqp_base.specs.Shapes.{whole}
use Rattle.amqp_base.specs.declared.shape.Shape.{Shape}
use Rattle.amqp_ser.specs.Describing.{why_undescribed, by_descriptor, RefusesAbsent, WroteBehind, IsOwn}
use Rattle.amqp_ser.specs.Front.{PutsFront, Stands, long_first, renamed, ClosesFront}
use Rattle.amqp_ser.specs.declared.front.Front.{Front}
use Rattle.amqp_ser.specs.declared.front.Front.TheVariants as at
use Rattle.amqp_ser.specs.declared.compound.Outer.{Outer}
use Rattle.amqp_ser.proofs.Describing.{behind_ok, behind_refused, alone_ok, first_ok, again_ok, again_refused, nowhere_ok, nowhere_refused, wrote_set, refused_set}

-- where nothing can stand
pub nowhere_stands : (s : State) (i : Item) (e : Error) (t : State) → marked s.mark i ≡ None → RefusesAbsent s i e t → Refused s i e t
unfolding text_for
nowhere_stands s i e t h r = r (rw h refl)

own_at : (m n : Mark) → m ≡ n → IsOwn n → IsOwn m
own_at m n e h = subst IsOwn (sym e) h

-- a refusal leaves a setting of no matter
refused_at : (s t : State) (k : Setting) (i : Item) (e : Error) → Refused s i e t → Refused s i e (record t { setting = k })
refused_at s t k i e h = record {
  kept = record { bytes = h.kept.bytes; faults = h.kept.faults; grows = h.kept.grows };
  device = h.device;
  cause = h.cause;
}

long_by : (d : Descriptor) (long : Bool) (e : Error) → why_undescribed d ≡ (if long then Io IoOther else InvalidValue) → by_descriptor d e ≡ (if long then long_first e else e)
long_by d true InvalidValue h = h
long_by d false InvalidValue h = h
long_by d true (Message m) h = refl
long_by d true (Io k) h = refl
long_by d true InvalidFormatCode h = refl
long_by d true InvalidUtf8Encoding h = refl
long_by d true SequenceLengthMismatch h = refl
long_by d true InvalidLength h = refl
long_by d true OutOfMemory h = refl
long_by d false (Message m) h = refl
long_by d false (Io k) h = refl
long_by d false InvalidFormatCode h = refl
long_by d false InvalidUtf8Encoding h = refl
long_by d false SequenceLengthMismatch h = refl
long_by d false InvalidLength h = refl
long_by d false OutOfMemory h = refl

renamed_again : (outer : Outer) (long : Bool) (e : Error) → renamed (at.Again outer long) e ≡ (if long then long_first e else e)
renamed_again outer true e = refl
renamed_again outer false e = refl

-- the value was refused, and so the whole
front_refused : (s u w : State) (d : Descriptor) (k : Setting) (v : Item) (e : Error) → s.ended ≡ false → IsOwn s.mark → PutsFront s d u → Refused (record u { setting = k }) v e w → Refused s (described d v) e (record w { ended = true })
front_refused s u w d k v e answers own p h = behind_refused s p.behind u w d v _ e tt answers own p.pays p.is (refused_set u w k v e h)

pub stands_refused : (s u w : State) (d : Descriptor) (f : Front) (k : Setting) (v : Item) (e : Error) → s.ended ≡ false → Stands s d f u → Refused (record u { setting = k }) v e w → Refused s (described d v) (renamed f e) (record w { ended = true })
stands_refused s u w d (at.Alone j) k v e answers h r = front_refused s u w d k v e answers (own_at s.mark unmarked h.0 tt) h.2 r
stands_refused s u w d (at.First j own) k v e answers h r = front_refused s u w d k v e answers (own_at s.mark first h.0 tt) h.3 r
stands_refused s u w d (at.Again outer long) k v e answers h r =
    subst (λ z. Refused s (described d v) z (record w { ended = true })) (long_by d long e h.name ∙ sym (renamed_again outer long e))
    (again_refused s u w _ d h.own h.code v e answers h.mark h.same h.is h.text (refused_set u w k v e r) refl)
stands_refused s u w d at.Nowhere k v e answers h r =
    nowhere_stands s (described d v) e _ (h.0 v) (nowhere_refused s (record s { mark = unmarked }) _ (described d v) e refl answers (front_refused (record s { mark = unmarked }) u w d k v e answers tt h.1 r))

-- the value was written behind it
front_wrote : (s u w : State) (d : Descriptor) (k : Setting) (v : Item) → s.ended ≡ false → PutsFront s d u → Wrote (record u { setting = k }) v w → WroteBehind s d v (record w { setting = s.setting })
front_wrote s u w d k v answers p h = behind_ok s p.behind u _ d v _ tt answers p.pays p.is (wrote_set u w k v h)

pub closes_ok : (s u w t : State) (d : Descriptor) (f : Front) (k : Setting) (v : Item) (x : Unit {0}) → s.ended ≡ false → Stands s d f u → Wrote (record u { setting = k }) v w → ClosesFront f w (Ok x) t → Wrote s (described d v) t
closes_ok s u w t d (at.Alone j) k v x answers h wrote is =
    subst (λ z. Wrote s (described d v) z) (ap (λ z. record w { setting = z }) (sym h.1) ∙ sym is) (alone_ok s _ d v h.0 (front_wrote s u w d k v answers h.2 wrote))
closes_ok s u w t d (at.First j own) k v x answers h wrote is =
    let b = front_wrote s u w d k v answers h.3 wrote in
    let m : w.mark ≡ first = b.mark ∙ h.0 in
    first_ok s _ t d v is.0 h.0 b is.1
    (is.2 ∙ (ap (λ z. record w { setting = z; mark = first; found = Some (under_pair (descriptor_of own) is.0) }) h.1
    ∙ (ap (λ z. record w { setting = s.setting; mark = z; found = Some (under_pair (descriptor_of own) is.0) }) (sym m)
    ∙ ap (λ z. record w { setting = s.setting; found = Some (under_pair z is.0) }) h.2)))
closes_ok s u w t d (at.Again outer long) k v x answers h wrote is =
    again_ok s u _ t d h.own h.code v h.mark h.same h.is (wrote_set u w k v wrote) (is ∙ ap (λ b. back b w) h.outer)
closes_ok s u w t d at.Nowhere k v x answers h wrote is = absurd is

some_code : (x : Option Constructor) (c : EncodingCodes) → x ≡ Some (under c) → ((e : EncodingCodes) → x ≡ Some (under e) → ⊥) → ⊥
some_code x c h none = none c h

pub closes_err : (s u w t : State) (d : Descriptor) (f : Front) (k : Setting) (v : Item) (e : Error) (c : EncodingCodes) → s.ended ≡ false → kind_code v ≡ Some (under c) → Stands s d f u → Wrote (record u { setting = k }) v w → ClosesFront f w (Err e) t → Refused s (described d v) e t
closes_err s u w t d (at.Alone j) k v e c answers code h wrote is = absurd is
closes_err s u w t d (at.First j own) k v e c answers code h wrote is =
    let b = front_wrote s u w d k v answers h.3 wrote in
    absurd (some_code w.found c (b.found ∙ (ap (λ z. found_after z (kind_code v) s.found) h.0 ∙ code)) is)
closes_err s u w t d (at.Again outer long) k v e c answers code h wrote is = absurd is
closes_err s u w t d at.Nowhere k v e c answers code h wrote is =
    let b = front_wrote (record s { mark = unmarked }) u w d k v answers h.1 wrote in
    let t' = record w { setting = s.setting; ended = true } in
    subst (λ z. Refused s (described d v) z t) (sym is.0) (subst (λ z. Refused s (described d v) InvalidValue z) (sym is.1)
    (refused_at s t' w.setting (described d v) InvalidValue (nowhere_stands s (described d v) InvalidValue t' (h.0 v) (nowhere_ok s _ _ t' d v refl refl b))))

-- ---- a compound behind a descriptor

compound_code : (shape : Shape) (xs : List Item) → kind_code (whole shape xs) ≡ Some (under (shape_code shape))
unfolding whole kind_code
compound_code Shape.List xs = refl
compound_code Shape.Array xs = refl
compound_code (Shape.Tuple n) xs = refl
compound_code Shape.Map xs = refl
compound_code Shape.Fields xs = refl

pub closes_behind : (f : Front) (q : Bool → Open) (w t : State) (r : Result (Unit {0}) Error)
    → ((pairs : Bool) (s : State) (shape : Shape) (xs : List Item) → Holds s shape xs (q pairs) → Complete pairs xs → Wrote s (whole shape xs) w) → ClosesFront f w r t → ClosesBehind f q r t
closes_behind f q w t (Ok x) ok c = record {
  ok = λ s u d k shape xs answers stands holds complete. closes_ok s u w t d f k (whole shape xs) x answers stands (ok (is_map shape) _ shape xs holds complete) c;
  err = tt;
}
closes_behind f q w t (Err e) ok c = record {
  ok = tt;
  err = λ s u d k shape xs answers stands holds complete. closes_err s u w t d f k (whole shape xs) e (shape_code shape) answers (compound_code shape xs) stands (ok (is_map shape) _ shape xs holds complete) c;
}

pub closes_refused : (f : Front) (q : Bool → Open) (w : State) (e : Error)
    → ((pairs : Bool) (s : State) (shape : Shape) (xs : List Item) → Holds s shape xs (q pairs) → Complete pairs xs → Refused s (whole shape xs) e w) → ClosesBehind f q (Err (renamed f e)) (record w { ended = true })
closes_refused f q w e err = record {
  ok = tt;
  err = λ s u d k shape xs answers stands holds complete. stands_refused s u w d f k (whole shape xs) e answers stands (err (is_map shape) _ shape xs holds complete);
}
