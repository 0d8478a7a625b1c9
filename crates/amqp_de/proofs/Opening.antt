-- Opening an item with parts.
use Rattle.std.proofs.Common.{◌≡◌, ℕ, ◌+◌, ◌*◌, ◌<◌, ◌≤◌, min, Bool, List, ◌++◌, length, Option, Some, Ok, Err, refl, sym, ap, subst, ◌∙◌, arith, inl, inr, ◌⊎◌, append_assoc, true, false}
use Rattle.std.proofs.lemmas.List.{length-append}
use Rattle.amqp_base.specs.declared.error.Error.{Error}
use Rattle.amqp_base.specs.declared.format_code.EncodingCodes.{EncodingCodes}
use Rattle.amqp_base.specs.Item.{Item, scalar, list, map, array, described, Items}
use Rattle.amqp_base.specs.Wire.{Constructor, bare, under, under_pair, Wire, lenient}
use Rattle.amqp_base.specs.Refusals.{IsDevice}
use Rattle.amqp_read.specs.Reading.{Reading}
use Rattle.amqp_de.specs.Decoding.{Decoding, stands_under}
use Rattle.amqp_data.specs.Excuses.{Excused}
use Rattle.amqp_de.specs.Law.{free}
use Rattle.amqp_base.specs.Parse.{Parsed, byte_under, behind_byte, item_at, seq_data}
use Rattle.amqp_base.specs.declared.error.Error.TheVariants.{InvalidFormatCode}
use Rattle.amqp_de.specs.Steps.{Begins, BeginsNot, IsDescribed}
use Rattle.amqp_data.specs.Steps.{Rejects, ParsesAs}
use Rattle.amqp_de.specs.Look.{looked_at}
use Rattle.amqp_de.specs.Access.{Listing, Opens, OpensNot, OpensHeading}
use Rattle.amqp_data.specs.Parts.{HasParts, HasPairs, shared_by, cost, OpensData, limit_at}
use Rattle.amqp_data.proofs.Readings.{advances_then, onward, takes_then, excused_before, excused_more, rejects_more}
use Rattle.amqp_de.proofs.Answered.{byte_stands, not_refused}
use Rattle.amqp_data.proofs.Data.{behind_code}

pub list_plain : (i : Item) (is : Items) → HasParts i is → IsDescribed i → ⊥
list_plain (list is) js p d = d
list_plain (array is) js p d = p
list_plain (scalar v) js p d = p
list_plain (map ps) js p d = p
list_plain (described d v) js p q = p

pub map_plain : (i : Item) (is : Items) → HasPairs i is → IsDescribed i → ⊥
map_plain (list is) js p d = p
map_plain (array is) js p d = p
map_plain (scalar v) js p d = p
map_plain (map ps) js p d = d
map_plain (described d v) js p q = p

own_room : (c : Constructor) (n m : ℕ) → 1 ≤ free c + n → looked_at c ≤ n + m
own_room bare n m h = omega (arith, h)
own_room (under e) n m h = omega arith
own_room (under_pair d e) n m h = omega arith

nothing_left : (c : Constructor) (n : ℕ) → n ≡ 0 → cost c n ≡ 0
nothing_left bare n h = refl
nothing_left (under f) n h = h
nothing_left (under_pair x f) n h = omega (arith, h)

-- the state of an access whose data follow
abbrev pub listing_of : Decoding → Reading → Constructor → ℕ → ℕ → Option ℕ → Listing
listing_of mid r c begun left limit = record {
  state = record { reading = r; ended = false; inherited = c; described = mid.described; begun = begun };
  left = left;
  outer = mid.inherited;
  limit = limit;
}

pub opens : (Has : Item → Items → Type 0) → ((i : Item) (is : Items) → Has i is → IsDescribed i → ⊥) → (old mid : Decoding) (r : Reading) (x : ℕ) (c : Constructor) (begun left : ℕ) (limit : Option ℕ) → begun ≡ mid.begun + shared_by c → old.ended ≡ false → Begins old mid x → OpensData Has x mid.reading r c left limit → Opens Has old (listing_of mid r c begun left limit)
opens Has plain old mid r x c begun left limit n-is a b d = record {
  text = b.text ++ d.text;
  step = takes_then old.reading mid.reading r b.text d.text b.step d.step;
  whole = λ t is p n fits.
      let w = d.whole t is p n fits in
      (w.0, rw (append_assoc b.text d.text t) (b.whole d.code (d.text ++ t) w.0 d.code_is w.1), w.2, rw (b.counts d.code w.0 d.code_is) (omega (arith, n-is, b.begun, w.3)));
  only = λ t rest i is p w at.
      let o = b.only t rest i (plain i is p) w at in
      let same : o.0 ≡ d.code = some_is (sym o.2 ∙ d.code_is) in
      d.only o.1 rest i is p (subst (λ (z : EncodingCodes). Wire lenient (under z) o.1 i) same o.3) o.4;
  own = rw (length-append b.text d.text) (own_room (stands_under old) (length b.text) (length d.text) b.room);
  before = a;
  outer = b.inherited;
  described = b.described;
  not_ended = refl;
  starts = d.starts;
  spent = spent d.paid;
}
  where
    some_is : {e f : EncodingCodes} → Some e ≡ Some f → e ≡ f
    some_is h = cc

    spent : (left ≡ 0) ⊎ (shared_by c + cost c left + 3 ≤ 16384 * length d.text)
        → begun + 16384 * old.reading.taken + cost c left + min 2 (2 * left) ≤ old.begun + 16384 * r.taken + free (stands_under old)
    spent (inl z) = omega (arith, n-is, b.begun, b.room, b.step.taken, d.step.taken, d.shares z, nothing_left c left z, z)
    spent (inr p) = omega (arith, n-is, b.begun, b.room, b.step.taken, d.step.taken, p)

parsed : {A : Type 0} (parse : EncodingCodes → List ℕ → Parsed A) (c : Constructor) (s : List ℕ) (b : ℕ) (rest : List ℕ) (z : Parsed A) → byte_under c s ≡ Ok (b, rest) → behind_byte parse b rest ≡ z → item_at parse c s ≡ z
parsed parse c s b rest z p q = rw p q

no_byte : {A : Type 0} (parse : EncodingCodes → List ℕ → Parsed A) (c : Constructor) (s : List ℕ) (e : Error) → byte_under c s ≡ Err e → item_at parse c s ≡ Err e
no_byte parse c s e p = rw p refl

refused_byte : {A : Type 0} {buffers : Bool} (parse : EncodingCodes → List ℕ → Parsed A) (old new : Decoding) (e : Error) → BeginsNot buffers old new e → Rejects buffers buffers (item_at parse (stands_under old)) old.reading new.reading e
refused_byte {buffers = buffers} parse old new e n = record { why = λ s at h. tell s (n.rejects.why s at h); steady = n.rejects.steady; device = n.rejects.device; memory = n.rejects.memory }
  where
    tell : (s : List ℕ) → (byte_under (stands_under old) s ≡ Err e) ⊎ Excused buffers buffers old.reading new.reading e → (item_at parse (stands_under old) s ≡ Err e) ⊎ Excused buffers buffers old.reading new.reading e
    tell s (inl p) = inl (no_byte parse (stands_under old) s e p)
    tell s (inr y) = inr y

pub opens_no_item : {A : Type 0} (Has : Item → Items → Type 0) → ((i : Item) (is : Items) → Has i is → IsDescribed i → ⊥) → (parse : EncodingCodes → List ℕ → Parsed A) (buffers : Bool) (old new : Decoding) (e : Error) → old.ended ≡ false → BeginsNot buffers old new e → OpensNot Has parse buffers buffers old new e
opens_no_item Has plain parse buffers old new e a n = record {
  if_ended = λ c. absurd cc (a, c);
  rejects = λ _. refused_byte parse old new e n;
  why = λ t rest i is p w at h _.
      let s = byte_stands (stands_under old) t rest i (plain i is p) w in
      not_refused old.reading new.reading _ s.0 e s.1 (n.rejects.why (t ++ rest) at h);
  steady = n.rejects.steady;
  device = n.rejects.device;
  memory = n.rejects.memory;
  ended = n.ended;
  few = λ _. n.few;
}

-- the state where the data were refused
abbrev pub refused_data : Decoding → Reading → Decoding
refused_data mid r = record { reading = r; ended = mid.ended; inherited = mid.inherited; described = mid.described; begun = mid.begun }

pub opens_no_data : {A : Type 0} {grows : Bool} (Has : Item → Items → Type 0) → ((i : Item) (is : Items) → Has i is → IsDescribed i → ⊥) → (parse : EncodingCodes → List ℕ → Parsed A)
    → ((e : EncodingCodes) (t rest : List ℕ) (i : Item) (is : Items) → Has i is → Wire lenient (under e) t i → (x : A × List ℕ) × (parse e (t ++ rest) ≡ Ok x))
    → (buffers : Bool) (old mid : Decoding) (r : Reading) (x : ℕ) (e : Error) → old.ended ≡ false → Begins old mid x → Rejects grows buffers (behind_byte parse x) mid.reading r e → OpensNot Has parse grows buffers old (refused_data mid r) e
opens_no_data {grows = grows} Has plain parse parses buffers old mid r x e a b n = record {
  if_ended = λ c. absurd cc (a, c);
  rejects = λ _. record {
    why = λ s at h. let o = b.exact s at in tell s o.0 o.2 (n.why o.0 o.1 (b.step.steady.honest ∙ h));
    steady = advances_then old.reading mid.reading r (onward b.step) n.steady;
    device = device;
    memory = n.memory;
  };
  why = λ t rest i is p w at h _.
      let o = b.only t rest i (plain i is p) w at in
      let q = parses o.0 o.1 rest i is p o.3 in
      excused_before old.reading mid.reading r b.text e b.step (not_refused mid.reading r _ q.0 e (behind_code parse x o.0 (o.1 ++ rest) o.2 ∙ q.1) (n.why (o.1 ++ rest) o.4 (b.step.steady.honest ∙ h)));
  steady = advances_then old.reading mid.reading r (onward b.step) n.steady;
  device = device;
  memory = n.memory;
  ended = b.ended;
  few = λ _. b.begun;
}
  where
    device : IsDevice e → old.reading.faults < r.faults
    device d = let f = b.step.steady.faults in let g = n.device d in omega (arith, f, g)

    tell : (s rest : List ℕ) → byte_under (stands_under old) s ≡ Ok (x, rest) → (behind_byte parse x rest ≡ Err e) ⊎ Excused grows buffers mid.reading r e → (item_at parse (stands_under old) s ≡ Err e) ⊎ Excused grows buffers old.reading r e
    tell s rest o (inl p) = inl (parsed parse (stands_under old) s x rest (Err e) o p)
    tell s rest o (inr y) = inr (excused_before old.reading mid.reading r b.text e b.step y)

-- where more may be refused for want of memory
pub opens_not_more : {A : Type 0} {Has : Item → Items → Type 0} (parse : EncodingCodes → List ℕ → Parsed A) (buffers : Bool) (old last : Decoding) (e : Error) → OpensNot Has parse buffers buffers old last e → OpensNot Has parse true buffers old last e
opens_not_more parse buffers old last e o = record {
  if_ended = o.if_ended;
  rejects = λ a. rejects_more (item_at parse (stands_under old)) old.reading last.reading e (λ _. refl) (o.rejects a);
  why = λ t rest i is p w at h a. excused_more old.reading last.reading e (λ _. refl) (o.why t rest i is p w at h a);
  steady = o.steady;
  device = o.device;
  memory = λ _. refl;
  ended = o.ended;
  few = o.few;
}

-- the state of an access, once its parts' constructor stands
abbrev pub opened_state : Decoding → Reading → Constructor → Decoding
opened_state mid r c = record { reading = r; ended = false; inherited = c; described = mid.described; begun = mid.begun + shared_by c }

abbrev pub opened_list : Decoding → Constructor → ℕ → Option ℕ → Listing
opened_list now outer left limit = record { state = now; left = left; outer = outer; limit = limit }

pub opens_under : (Has : Item → Items → Type 0) → ((i : Item) (is : Items) → Has i is → IsDescribed i → ⊥) → (old mid now : Decoding) (r : Reading) (x : ℕ) (c outer : Constructor) (left : ℕ) (limit : Option ℕ) → old.ended ≡ false → Begins old mid x → OpensData Has x mid.reading r c left limit
    → now ≡ opened_state mid r c → outer ≡ mid.inherited → Opens Has old (opened_list now outer left limit)
opens_under Has plain old mid now r x c outer left limit a b d n o = rw (n, o) (opens Has plain old mid r x c (mid.begun + shared_by c) left limit refl a b d)

-- what stands in front of elements, behind the byte of their item's code
pub heading_under : (is_array : Bool) (old mid now : Decoding) (r : Reading) (x : ℕ) (c outer : Constructor) (left : ℕ) (limit room : Option ℕ) → Begins old mid x
    → ((custom : Error) → ParsesAs (behind_byte (seq_data custom) x) mid.reading r (record { of_array = is_array; count = left; stands = c; room = room })) → limit ≡ limit_at r.taken room
    → now ≡ opened_state mid r c → OpensHeading is_array old (opened_list now outer left limit)
heading_under is_array old mid now r x c outer left limit room b d l n = rw n record {
  room = room;
  limit = l;
  exact = λ s at.
      let o = b.exact s at in
      let p = (d InvalidFormatCode).exact o.0 o.1 in (
        p.0,
        p.1,
        λ custom.
            let q = (d custom).exact o.0 o.1 in
            let same : q.0 ≡ p.0 = some_bytes (sym q.1 ∙ p.1) in
            parsed (seq_data custom) (stands_under old) s x o.0 (Ok (record { of_array = is_array; count = left; stands = c; room = room }, p.0)) o.2 (q.2 ∙ ap (λ (y : List ℕ). Ok (record { of_array = is_array; count = left; stands = c; room = room }, y)) same),
      );
}
  where
    some_bytes : {a b : List ℕ} → Some a ≡ Some b → a ≡ b
    some_bytes h = cc
