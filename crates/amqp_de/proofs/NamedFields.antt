-- Refusals by name, of structs whose fields have names.
use Rattle.std.proofs.Common.{◌≡◌, ℕ, zero, suc, ◌<◌, ◌%◌, Bool, true, false, IsTrue, List, [], ◌∷◌, ◌++◌, length, Option, Some, None, Ok, Err, refl, ap, ◌∙◌, arith, inl, inr, ◌⊎◌, String, string_bytes}
use Rattle.std.specs.Global.{Global}
use Rattle.amqp_base.specs.declared.error.Error.{Error}
use Rattle.amqp_base.specs.declared.error.Error.TheVariants.{Message, OutOfMemory}
use Rattle.amqp_base.specs.declared.format_code.EncodingCodes.{EncodingCodes}
use Rattle.amqp_base.specs.Codes.{Kind, row}
use Rattle.amqp_base.specs.Item.{Item, scalar, string, no_pairs}
use Rattle.amqp_base.specs.Wire.{bare, Wire, lenient}
use Rattle.amqp_base.specs.Refusals.{IsCustom}
use Rattle.amqp_base.specs.Parse.{map_data, code_at}
use Rattle.amqp_base.specs.Refusing.{Refusing, PartsRefusing, FrontThen, scalar_refusal, and_before, awaited_count, awaited_behind, taken_under, refused_under, value_refusal, fields_refusal, opened_refusal, row_refusal, struct_refusal, no_code, of_map, of_list}
use Rattle.amqp_base.specs.NamedFields.{takes_named}
use Rattle.amqp_base.specs.Typing.{is_of}
use Rattle.amqp_read.specs.Reading.{Takes}
use Rattle.amqp_de.specs.Decoding.{Decoding, stands_under}
use Rattle.amqp_data.specs.Excuses.{Excused}
use Rattle.amqp_de.specs.Law.{Named}
use Rattle.amqp_de.specs.Look.{Looks, LooksNot}
use Rattle.amqp_de.specs.Access.{Listing, OpensExactly, Part}
use Rattle.amqp_de.specs.ReadPairs.{KeyNext, ValueNext, TurnNamed}
use Rattle.amqp_de.specs.ReadFields.{Slots, slot, awaits, all_read, FieldPicked, FieldNamed}
use Rattle.amqp_de.proofs.Naming.{named_behind, named_more}
use Rattle.amqp_de.proofs.NamedParts.{Reaches, reaches_on, part_told, refused_behind, no_room_as}
use Rattle.amqp_data.proofs.Readings.{excused_more}

-- a part of another type, whatever it means
pub part_as : {takes other : Item → Bool} {means : Item → Type 0} {old new : Listing} → ((i : Item) → IsTrue (takes i) → IsTrue (other i)) → Part takes means old new → Part other (λ i. Unit {0}) old new
part_as h p = record {
  front = record {
    item = p.front.item;
    text = p.front.text;
    spelled = p.front.spelled;
    taken = h p.front.item p.front.taken;
    value = tt;
    step = p.front.step;
    not_ended = p.front.not_ended;
    inherited = p.front.inherited;
    described = p.front.described;
    begun = p.front.begun;
  };
  within = p.within;
  spent = p.spent;
  left = p.left;
  outer = p.outer;
  limit = p.limit;
}

-- ---- one field

module _ {T V : Type 0} (own : List ℕ) (takes : Item → Bool) (means : Item → T → Type 0) where
  pub own_picked : {ts : List (Item → Bool)} (value : Option T) (x : T) (s : Slots V) (name : List ℕ) (old new : Listing) → awaits own value name ≡ true → Part takes (λ i. means i x) old new → FieldPicked name (slot own takes means value s) (slot own takes means (Some x) s) (takes ∷ ts) old new
  own_picked (Some y) x s name old new h p = absurd cc
  own_picked None x s name old new h p = record { behind = rw h refl; names = refl; part = part_as (λ i t. rw h t) p }

  pub behind_picked : {ts : List (Item → Bool)} (value : Option T) (s t : Slots V) (name : List ℕ) (old new : Listing) → awaits own value name ≡ false → FieldPicked name s t ts old new → FieldPicked name (slot own takes means value s) (slot own takes means value t) (takes ∷ ts) old new
  behind_picked (Some y) s t name old new h f = record { behind = ap (and_before false) f.behind; names = ap (λ (ns : List (List ℕ)). own ∷ ns) f.names; part = part_as (λ i k. k) f.part }
  behind_picked None s t name old new h f = record { behind = rw h (ap (and_before true) f.behind); names = ap (λ (ns : List (List ℕ)). own ∷ ns) f.names; part = part_as (λ i k. rw h k) f.part }

  pub own_named : {r : Refusing} {rs : List {1} Refusing} {grows : Bool} (value : Option T) (s : Slots V) (name : List ℕ) (buffers : Bool) (old new : Listing) (e : Error) → awaits own value name ≡ true → TurnNamed ValueNext takes r grows buffers old new e → FieldNamed name (slot own takes means value s) (r ∷ rs) buffers old new e
  own_named (Some y) s name buffers old new e h n = absurd cc
  own_named {r} {rs} {grows} None s name buffers old new e h n = record { why = λ t l a z at f. tell z (part_told old new new.state e (λ rest. r bare rest e) l a refl (λ rest p. p) (n.part t) z at f) }
    where
      tell : (z : List ℕ) → r bare z e ⊎ Excused grows buffers old.state.reading new.state.reading e
          → value_refusal (awaited_behind name (own ∷ s.all_names) (true ∷ s.awaited)) (refused_under name (own ∷ s.all_names) (true ∷ s.awaited) (r ∷ rs) z e) (λ bs. ⊥) e ⊎ Excused true buffers old.state.reading new.state.reading e
      tell z (inl p) = inl (rw h (inl p))
      tell z (inr y) = inr (excused_more old.state.reading new.state.reading e (λ _. refl) y)

-- what is refused behind a field that isn't meant
past : (b : Bool) (o : Option (List Bool)) (p q : Type 0) (e : Error) → (p → q) → value_refusal o p (λ bs. ⊥) e → value_refusal (and_before b o) q (λ bs. ⊥) e
past b None p q e f v = v
past b (Some bs) p q e f (inl v) = inl (f v)
past b (Some bs) p q e f (inr v) = absurd v

module _ {T V : Type 0} (own : List ℕ) (takes : Item → Bool) (means : Item → T → Type 0) where
  pub behind_named : {r : Refusing} {rs : List {1} Refusing} (value : Option T) (s : Slots V) (name : List ℕ) (buffers : Bool) (old new : Listing) (e : Error) → awaits own value name ≡ false → FieldNamed name s rs buffers old new e → FieldNamed name (slot own takes means value s) (r ∷ rs) buffers old new e
  behind_named {r} {rs} (Some y) s name buffers old new e h n = record { why = λ t l a z at f. tell z (n.why t l a z at f) }
    where
      tell : (z : List ℕ) → value_refusal (awaited_behind name s.all_names s.awaited) (refused_under name s.all_names s.awaited rs z e) (λ bs. ⊥) e ⊎ Excused true buffers old.state.reading new.state.reading e
          → value_refusal (awaited_behind name (own ∷ s.all_names) (false ∷ s.awaited)) (refused_under name (own ∷ s.all_names) (false ∷ s.awaited) (r ∷ rs) z e) (λ bs. ⊥) e ⊎ Excused true buffers old.state.reading new.state.reading e
      tell z (inl p) = inl (past false (awaited_behind name s.all_names s.awaited) _ _ e (λ q. q) p)
      tell z (inr y) = inr y
  behind_named {r} {rs} None s name buffers old new e h n = record { why = λ t l a z at f. tell z (n.why t l a z at f) }
    where
      tell : (z : List ℕ) → value_refusal (awaited_behind name s.all_names s.awaited) (refused_under name s.all_names s.awaited rs z e) (λ bs. ⊥) e ⊎ Excused true buffers old.state.reading new.state.reading e
          → value_refusal (awaited_behind name (own ∷ s.all_names) (true ∷ s.awaited)) (refused_under name (own ∷ s.all_names) (true ∷ s.awaited) (r ∷ rs) z e) (λ bs. ⊥) e ⊎ Excused true buffers old.state.reading new.state.reading e
      tell z (inl p) = inl (rw h (past true (awaited_behind name s.all_names s.awaited) _ _ e (λ q. q) p))
      tell z (inr y) = inr y

-- ---- the map

module _ (names : List (List ℕ)) (takes : List (Item → Bool)) (refuses : List {1} Refusing) where
  -- behind a name
  abbrev pub behind_name : List ℕ → List Bool → PartsRefusing
  behind_name name awaited zero s e = ⊥
  behind_name name awaited (suc n) s e = value_refusal (awaited_behind name names awaited) (refused_under name names awaited refuses s e) (λ bs. FrontThen bare (taken_under name names awaited takes) (λ y. fields_refusal names takes refuses bs n y e) s) e

  name_then : (name : List ℕ) (awaited : List Bool) (n : ℕ) (text rest : List ℕ) (e : Error) → Wire lenient bare text (scalar (string name)) → behind_name name awaited n rest e → fields_refusal names takes refuses awaited (suc n) (text ++ rest) e
  name_then name awaited zero text rest e w p = absurd p
  name_then name awaited (suc n) text rest e w p = inr (record { name = name; text = text; rest = rest; spelled = w; split = refl; behind = p })

  -- a name was read
  pub reaches_name : (whole : PartsRefusing) (awaited : List Bool) (key : String Global) (from now next : Listing) → Reaches whole (fields_refusal names takes refuses awaited) from now → Part (is_of Kind.string) (λ i. i ≡ scalar (string (string_bytes key))) now next → Reaches whole (behind_name (string_bytes key) awaited) from next
  reaches_name whole awaited key from now next r p = reaches_on whole (fields_refusal names takes refuses awaited) (behind_name (string_bytes key) awaited) from now next r p (λ w rest e q. name_then (string_bytes key) awaited next.left p.front.text rest e (rw p.front.value at w) q)

  -- and its value
  pub reaches_value : {V : Type 0} (whole : PartsRefusing) (name : List ℕ) (s t : Slots V) (from now next : Listing) → s.all_names ≡ names → Reaches whole (behind_name name s.awaited) from now → FieldPicked name s t takes now next → Reaches whole (fields_refusal names takes refuses t.awaited) from next
  reaches_value whole name s t from now next k r f = reaches_on whole (behind_name name s.awaited) (fields_refusal names takes refuses t.awaited) from now next r f.part (λ w rest e q. rw (← k, f.behind) (inr (record {
    item = f.part.front.item;
    text = f.part.front.text;
    rest = rest;
    spelled = w;
    taken = f.part.front.taken;
    split = refl;
    behind = rw k q;
  })))

  -- a name was refused here
  name_here : (awaited : List Bool) (n : ℕ) (s : List ℕ) (e : Error) → 0 < n → n % 2 ≡ 0 → scalar_refusal Kind.string bare s e → fields_refusal names takes refuses awaited n s e
  name_here awaited zero s e l m p = absurd (omega (arith, l))
  name_here awaited (suc zero) s e l m p = absurd (omega (arith, m))
  name_here awaited (suc (suc n)) s e l m p = inl p

  module _ (buffers : Bool) (old last : Decoding) (e : Error) {from : Listing} (x : OpensExactly map_data old from) where
    pub key_named : {text : List ℕ} {grows : Bool} (awaited first : List Bool) (now next : Listing) → Takes old.reading now.state.reading text → Reaches (fields_refusal names takes refuses first) (fields_refusal names takes refuses awaited) from now → now.state.ended ≡ false → KeyNext now → 0 < now.left
        → last.reading ≡ next.state.reading → TurnNamed KeyNext (is_of Kind.string) (scalar_refusal Kind.string) grows buffers now next e → Named (opened_refusal map_data (fields_refusal names takes refuses first)) true buffers old last e
    key_named awaited first now next step r a turn some same n =
        refused_behind map_data (fields_refusal names takes refuses first) true buffers old last e from now (λ _. refl) x step r
        (part_told now next last e (λ rest. fields_refusal names takes refuses awaited now.left rest e) r.plain a same (λ rest p. name_here awaited now.left rest e some turn p) (n.part turn))

    -- a value was refused, or its name
    pub value_named : {V : Type 0} {text : List ℕ} (name : List ℕ) (first : List Bool) (fields : Slots V) (now next : Listing) → fields.all_names ≡ names → Takes old.reading now.state.reading text → Reaches (fields_refusal names takes refuses first) (behind_name name fields.awaited) from now → now.state.ended ≡ false → ValueNext now
        → last.reading ≡ next.state.reading → FieldNamed name fields refuses buffers now next e → Named (opened_refusal map_data (fields_refusal names takes refuses first)) true buffers old last e
    value_named name first fields now next k step r a turn same n =
        refused_behind map_data (fields_refusal names takes refuses first) true buffers old last e from now (λ m. m) x step r (λ rest at h. tell rest (n.why turn r.plain a rest at h))
      where
        weaken : (o : Option (List Bool)) (p : Type 0) (later : List Bool → Type 0) → value_refusal o p (λ bs. ⊥) e → value_refusal o p later e
        weaken None p later v = v
        weaken (Some bs) p later (inl v) = inl v
        weaken (Some bs) p later (inr v) = absurd v

        value_here : (n : ℕ) (rest : List ℕ) → n % 2 ≡ 1 → value_refusal (awaited_behind name names fields.awaited) (refused_under name names fields.awaited refuses rest e) (λ bs. ⊥) e → behind_name name fields.awaited n rest e
        value_here zero rest m v = absurd (omega (arith, m))
        value_here (suc n) rest m v = weaken (awaited_behind name names fields.awaited) _ _ v

        tell : (rest : List ℕ) → value_refusal (awaited_behind name fields.all_names fields.awaited) (refused_under name fields.all_names fields.awaited refuses rest e) (λ bs. ⊥) e ⊎ Excused true buffers now.state.reading next.state.reading e
            → behind_name name fields.awaited now.left rest e ⊎ Excused true buffers now.state.reading last.reading e
        tell rest (inl v) = inl (value_here now.left rest turn (rw k at v))
        tell rest (inr y) = inr (rw same y)

-- none is left, and a field is missing
none_named : (ns : List (List ℕ)) (ts : List (Item → Bool)) → length ns ≡ 0 → length ts ≡ 0 → takes_named ns ts no_pairs ≡ true
none_named [] [] a b = refl
none_named [] (t ∷ ts) a b = absurd (omega (arith, b))
none_named (n ∷ ns) ts a b = absurd (omega (arith, a))

some_awaited : {V : Type 0} (s : Slots V) → all_read s ≡ false → awaited_count s.awaited ≡ 0 → ⊥
some_awaited s h z = let t = none_named s.names s.kinds (s.counted_names ∙ z) (s.counted ∙ z) in cc

pub missing_named : {V : Type 0} {text : List ℕ} (names : List (List ℕ)) (takes : List (Item → Bool)) (refuses : List {1} Refusing) (buffers : Bool) (old last : Decoding) (why : List ℕ) (e : Error) {from : Listing} → OpensExactly map_data old from
    → (first : List Bool) (fields : Slots V) (now : Listing) → Takes old.reading now.state.reading text → Reaches (fields_refusal names takes refuses first) (fields_refusal names takes refuses fields.awaited) from now → now.left ≡ 0 → all_read fields ≡ false → IsCustom why e
    → Named (opened_refusal map_data (fields_refusal names takes refuses first)) true buffers old last e
missing_named names takes refuses buffers old last why (Message m) {from} x first fields now step r z few c =
    refused_behind map_data (fields_refusal names takes refuses first) true buffers old last (Message m) from now (λ m. m) x step r (λ rest at h. inl (rw z (some_awaited fields few, tt)))
missing_named names takes refuses buffers old last why OutOfMemory x first fields now step r z few c = no_room_as _ buffers old last
missing_named names takes refuses buffers old last why e x first fields now step r z few c = absurd c

-- ---- the forms of a struct

module _ {V : Type 0} (s : Slots V) (takes : List (Item → Bool)) (refuses : List {1} Refusing) (buffers : Bool) (old new : Decoding) (e : Error) where
  pub code_named : LooksNot buffers old new e → Named (struct_refusal s.awaited s.all_names takes refuses) true buffers old new e
  code_named n = record { why = λ a z at h. tell z ((n.rejects a).why z at h) }
    where
      tell : (z : List ℕ) → (code_at (stands_under old) z ≡ Err e) ⊎ Excused buffers buffers old.reading new.reading e → struct_refusal s.awaited s.all_names takes refuses (stands_under old) z e ⊎ Excused true buffers old.reading new.reading e
      tell z (inl p) = inl (no_code p)
      tell z (inr y) = inr (excused_more old.reading new.reading e (λ _. refl) y)

  pub map_named : (mid : Decoding) (x : EncodingCodes) → (row x).kind ≡ Kind.map → Looks old mid x → Named (opened_refusal map_data (fields_refusal s.all_names takes refuses s.awaited)) true buffers mid new e → Named (struct_refusal s.awaited s.all_names takes refuses) true buffers old new e
  map_named mid x k l n =
      let m = named_behind (opened_refusal map_data (fields_refusal s.all_names takes refuses s.awaited)) true buffers old mid new x e l n in
      record { why = λ a z at h. let c = l.exact z at in tell z c.0 c.1 (m.why a z at h) }
    where
      tell : (z rest : List ℕ) → code_at (stands_under old) z ≡ Ok (x, rest) → opened_refusal map_data (fields_refusal s.all_names takes refuses s.awaited) (stands_under old) z e ⊎ Excused true buffers old.reading new.reading e
          → struct_refusal s.awaited s.all_names takes refuses (stands_under old) z e ⊎ Excused true buffers old.reading new.reading e
      tell z rest c (inl p) = inl (of_map x rest c k p)
      tell z rest c (inr y) = inr y

  pub list_named : {grows : Bool} (mid : Decoding) (x : EncodingCodes) → ((row x).kind ≡ Kind.map → ⊥) → Looks old mid x → Named (row_refusal s.awaited takes refuses) grows buffers mid new e → Named (struct_refusal s.awaited s.all_names takes refuses) true buffers old new e
  list_named mid x k l n =
      let m = named_behind (row_refusal s.awaited takes refuses) true buffers old mid new x e l (named_more (λ _. refl) n) in
      record { why = λ a z at h. let c = l.exact z at in tell z c.0 c.1 (m.why a z at h) }
    where
      tell : (z rest : List ℕ) → code_at (stands_under old) z ≡ Ok (x, rest) → row_refusal s.awaited takes refuses (stands_under old) z e ⊎ Excused true buffers old.reading new.reading e
          → struct_refusal s.awaited s.all_names takes refuses (stands_under old) z e ⊎ Excused true buffers old.reading new.reading e
      tell z rest c (inl p) = inl (of_list x rest c k p)
      tell z rest c (inr y) = inr y
