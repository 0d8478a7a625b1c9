-- The fields of a struct, and the next value that is read for one of them.
use Rattle.std.proofs.Common.{◌≡◌, ℕ, Bool, true, false, ◌&&◌, List, Option, Some, None, refl, subst}
use Rattle.std.specs.Str.{bytes_eq}
use Rattle.amqp_base.specs.declared.error.Error.{Error}
use Rattle.amqp_base.specs.Item.{Item, Items, none, more, Pairs}
use Rattle.amqp_base.specs.Fields.{all_meanings}
use Rattle.amqp_base.specs.NamedFields.{value_of, without, taken_value, takes_named}
use Rattle.amqp_base.specs.Refusals.{IsCustom}
use Rattle.amqp_de.specs.Decoding.{Decoding}
use Rattle.amqp_de.specs.Access.{Listing, Part}
use Rattle.amqp_de.specs.ReadParts.{Progress, MoreRead, and_last}
use Rattle.amqp_de.specs.ReadPairs.{OutOfTurn, ValueNext}
use Rattle.amqp_de.specs.ReadFields.{Slots, no_slots, slot, awaits, HaveValues, under_name, FieldRead, NoField, unknown, refused, RowRead}
use Rattle.amqp_de.proofs.PartsRead.{left_of, right_of, join_last, join_none}
use Rattle.amqp_data.proofs.FixedWidth.{custom_device}

swap : (a b c : Bool) → (a && (b && c)) ≡ (b && (a && c))
swap true b c = refl
swap false true c = refl
swap false false c = refl

and_false : (a : Bool) → (a && false) ≡ false
and_false true = refl
and_false false = refl

value_own : (own name : List ℕ) (v : Item) (ps : Pairs) → bytes_eq own name ≡ true → value_of own (under_name name v ps) ≡ Some v
value_own own name v ps h = rw h refl

value_other : (own name : List ℕ) (v : Item) (ps : Pairs) → bytes_eq own name ≡ false → value_of own (under_name name v ps) ≡ value_of own ps
value_other own name v ps h = rw h refl

without_own : (own name : List ℕ) (v : Item) (ps : Pairs) → bytes_eq own name ≡ true → without own (under_name name v ps) ≡ ps
without_own own name v ps h = rw h refl

without_other : (own name : List ℕ) (v : Item) (ps : Pairs) → bytes_eq own name ≡ false → without own (under_name name v ps) ≡ under_name name v (without own ps)
without_other own name v ps h = rw h refl

-- a part, whatever it means
abbrev any_part : {takes : Item → Bool} {means : Item → Type 0} {old new : Listing} → Part takes means old new → Part takes (λ i. Unit {0}) old new
any_part p = record {
  front = record {
    item = p.front.item;
    text = p.front.text;
    spelled = p.front.spelled;
    taken = p.front.taken;
    value = tt;
    step = p.front.step;
    not_ended = p.front.not_ended;
    inherited = p.front.inherited;
    described = p.front.described;
    begun = p.front.begun;
  };
  within = p.within;
  spent = p.spent;
  left = p.left;
  outer = p.outer;
  limit = p.limit;
}

-- no field has this name
pub no_field : (name text : List ℕ) (buffers : Bool) (l : Listing) (e : Error) → IsCustom text e → NoField name no_slots buffers l l e
no_field name text buffers l e c = unknown refl (custom_device text e c) (λ v ps. refl)

-- nothing is awaited
pub row_done : (old : Decoding) (all rest : List (Item → Bool)) (parts : Items) (l : Listing) → Progress old all rest parts l → RowRead old all rest parts no_slots no_slots l
unfolding all_meanings
row_done old all rest parts l p = record { items = none; progress = rw (join_none parts) p; full = refl; meant = λ vs h. (h, tt) }

module _ {T V : Type 0} (own : List ℕ) (takes : Item → Bool) (means : Item → T → Type 0) where
  -- the value of the first field was read
  pub own_read : (value : Option T) (x : T) (s : Slots V) (name : List ℕ) (old new : Listing) → awaits own value name ≡ true → Part takes (λ i. means i x) old new → FieldRead name (slot own takes means value s) (slot own takes means (Some x) s) old new
  own_read (Some y) x s name old new h p = absurd cc
  own_read None x s name old new h p = record {
    kind = takes;
    part = any_part p;
    picked = λ v ps. rw (value_own own name v ps h, without_own own name v ps h) refl;
    meant = λ vs q. (q.1, λ ps m. (rw (value_own own name p.front.item ps h) (subst (means p.front.item) q.0 p.front.value), rw (without_own own name p.front.item ps h) m));
  }

  -- the value of a field behind it was read
  pub behind_read : (value : Option T) (s t : Slots V) (name : List ℕ) (old new : Listing) → awaits own value name ≡ false → FieldRead name s t old new → FieldRead name (slot own takes means value s) (slot own takes means value t) old new
  behind_read (Some y) s t name old new h f = record {
    kind = f.kind;
    part = f.part;
    picked = f.picked;
    meant = λ vs q. let m = f.meant vs.1 q.1 in ((q.0, m.0), m.1);
  }
  behind_read None s t name old new h f = record {
    kind = f.kind;
    part = f.part;
    picked = λ v ps. rw (value_other own name v ps h, without_other own name v ps h, f.picked v (without own ps)) (swap (taken_value takes (value_of own ps)) (f.kind v) (takes_named t.names t.kinds (without own ps)));
    meant = λ vs q. let m = f.meant vs.1 q in (m.0, λ ps r. (rw (value_other own name f.part.front.item ps h) r.0, rw (without_other own name f.part.front.item ps h) (m.1 (without own ps) r.1)));
  }

  -- it was refused
  pub own_refused : (value : Option T) (s : Slots V) (name : List ℕ) (grows buffers : Bool) (old new : Listing) (e : Error) → awaits own value name ≡ true → OutOfTurn ValueNext takes grows buffers old new e → NoField name (slot own takes means value s) buffers old new e
  own_refused (Some y) s name grows buffers old new e h n = absurd cc
  own_refused None s name grows buffers old new e h n = refused takes grows n (λ v ps t. left_of (takes v) _ (rw (value_own own name v ps h) at t))

  pub behind_refused : (value : Option T) (s : Slots V) (name : List ℕ) (buffers : Bool) (old new : Listing) (e : Error) → awaits own value name ≡ false → NoField name s buffers old new e → NoField name (slot own takes means value s) buffers old new e
  behind_refused (Some y) s name buffers old new e h (unknown a b c) = unknown a b c
  behind_refused (Some y) s name buffers old new e h (refused kind grows n u) = refused kind grows n u
  behind_refused None s name buffers old new e h (unknown a b c) = unknown a b (λ v ps. rw (value_other own name v ps h, without_other own name v ps h, c v (without own ps)) (and_false (taken_value takes (value_of own ps))))
  behind_refused None s name buffers old new e h (refused kind grows n u) = refused kind grows n (λ v ps t. u v (without own ps) (right_of (taken_value takes (value_of own ps)) _ (rw (value_other own name v ps h, without_other own name v ps h) at t)))

  -- the first field had its value before
  pub row_had : (y : T) (s t : Slots V) (old : Decoding) (all rest : List (Item → Bool)) (parts : Items) (l : Listing) → RowRead old all rest parts s t l → RowRead old all rest parts (slot own takes means (Some y) s) (slot own takes means (Some y) t) l
  row_had y s t old all rest parts l r = record {
    items = r.items;
    progress = r.progress;
    full = r.full;
    meant = λ vs q. let m = r.meant vs.1 q.1 in ((q.0, m.0), m.1);
  }

  -- its value and those behind it were read
  pub row_more : (x : T) (s t : Slots V) (old : Decoding) (all rest behind : List (Item → Bool)) (parts : Items) (mid l : Listing) → (m : MoreRead old all behind parts (λ i. means i x) mid) → RowRead old all rest (and_last parts m.item) s t l → RowRead old all rest parts (slot own takes means None s) (slot own takes means (Some x) t) l
  unfolding all_meanings
  row_more x s t old all rest behind parts mid l m r = record {
    items = more m.item r.items;
    progress = rw (← join_last parts r.items m.item) r.progress;
    full = r.full;
    meant = λ vs q. let n = r.meant vs.1 q.1 in (n.0, (subst (means m.item) q.0 m.meant, n.1));
  }

  pub values_some : (x : T) (s : Slots V) (ws : V) → HaveValues s ws → (vs : T × V) → Some (x, ws) ≡ Some vs → HaveValues (slot own takes means (Some x) s) vs
  values_some x s ws h vs e = let p : (x, ws) ≡ vs = cc in subst (λ (z : T × V). HaveValues (slot own takes means (Some x) s) z) p record { holds = (refl, h.holds); full = h.full; meant = h.meant }
