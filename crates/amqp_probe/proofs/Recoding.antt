-- What is read and written again.
use Rattle.std.proofs.Common.{◌≡◌, ◌≢◌, ℕ, ◌≤◌, String, Bool, true, false, ◌||◌, List, [], ◌∷◌, ◌++◌, length, take, drop, map, fold, string_bytes, Option, Some, None, Result, Ok, Err, refl, sym, ap, subst, ◌∙◌, arith, inl, inr, ◌⊎◌}
use Rattle.std.proofs.lemmas.List.{length-append, take_at, take-append-drop}
use Rattle.std.proofs.lemmas.Option.{same_Some}
use Rattle.std.specs.Prelude.{IfOk}
use Rattle.std.specs.Io.KnownBytes.{Consumes}
use Rattle.std.specs.Global.{Global}
use Rattle.std.specs.Str.{bytes_eq}
use Rattle.indexmap.specs.IndexMap.{insert_entry}
use Rattle.amqp_base.specs.declared.error.Error.{Error}
use Rattle.amqp_base.specs.declared.error.Error.TheVariants.{OutOfMemory}
use Rattle.amqp_base.specs.Item.{null, uint, string, Item, scalar, list, map as map_item, array, described, Items, none, more, items_of, Pairs, no_pairs, pair}
use Rattle.amqp_base.specs.Wire.{lenient, bare, Front}
use Rattle.amqp_base.specs.Canon.{canon}
use Rattle.amqp_ser.specs.Texts.{HasNoText}
use Rattle.amqp_base.specs.Fields.{all_meanings, means_fields}
use Rattle.amqp_base.specs.Options.{means_option, option_item}
use Rattle.amqp_base.specs.Refusing.{Refusing}
use Rattle.amqp_base.specs.Typing.{is_null, all_mean, means_seq, means_array}
use Rattle.amqp_base.specs.declared.shape.Setting.{Setting}
use Rattle.amqp_base.specs.Maps.{all_pairs_mean, means_map, pair_items}
use Rattle.amqp_base.specs.Shapes.{whole, pairs_of}
use Rattle.amqp_base.specs.declared.shape.Shape.{Shape}
use Rattle.amqp_base.proofs.OneFront.{same_wire}
use Rattle.amqp_read.specs.Reading.{Reading}
use Rattle.amqp_de.specs.Decoding.{Decoding}
use Rattle.amqp_de.specs.Law.{Found, Missed, Named}
use Rattle.amqp_data.specs.Excuses.{Excused, no_memory, faulted, uncounted}
use Rattle.amqp_probe.specs.Codec.{Decoded, Recodes, Recoded, TakesNone, IsRefused, takes, refuses, kept, kept_all, as_list, as_array, put_pair, put_pairs}
use Rattle.amqp_probe.specs.declared.kind.Kind.{Kind}
use Rattle.amqp_probe.specs.declared.kind.Kind.TheVariants.{MapStringU32}
use Rattle.amqp_probe.specs.declared.codec.Outcome.{Outcome}
use Rattle.amqp_probe.specs.declared.codec.Outcome.TheVariants.{Value, Refused}

same_item : (s : List ℕ) (i j : Item) (m n : ℕ) → Front lenient bare s i m → Front lenient bare s j n → i ≡ j
same_item s i j m n f g = (same_wire f.spelled g.spelled (drop m s) (drop n s) (take-append-drop m s ∙ sym (take-append-drop n s))).1

consumed : (k l : Option (List ℕ)) (s x : List ℕ) → k ≡ Some s → Consumes k l x → (rest : List ℕ) × (s ≡ x ++ rest)
consumed None l s x e c = absurd cc
consumed (Some t) None s x e c = absurd c
consumed (Some t) (Some u) s x e c = (u, sym (same_Some t s e) ∙ c)

-- a deserializer over these bytes
abbrev pub fresh : List ℕ → Decoding
fresh s = record { reading = record { to_come = Some s; taken = 0; received = []; faults = 0; last_fault = None; honest = true; origin = [] }; ended = false; inherited = bare; described = false; begun = 0 }

-- a value was read; it consumed so many bytes
pub read_value : {T : Type 0} (taken_by : Item → Bool) (means : Item → T → Type 0) (written : T → Item) (s : List ℕ) (v : T) (so : Item → Type 0) (old new : Decoding) → old ≡ fresh s → Found taken_by (λ i. means i v) old new → so (written v)
    → Recodes taken_by means written s so new.reading.taken × (new.reading.taken ≤ length s)
read_value taken_by means written s v so old new e f c =
    let g : Found taken_by (λ i. means i v) (fresh s) new = rw e at f in
    let h = g.front refl in
    let k = consumed (Some s) new.reading.to_come s h.text refl h.step.to_come in
    let n : new.reading.taken ≡ length h.text = omega (arith, h.step.taken) in
    let front : take (length h.text) s ≡ h.text = rw k.1 (take_at h.text k.0 (length h.text) refl) in
    let within : length h.text ≤ length s = rw k.1 (omega (arith, length-append h.text k.0)) in (
      record {
        value = v;
        item = h.item;
        front = rw n (record { within = within; spelled = rw front h.spelled });
        taken = h.taken;
        meant = h.value;
        text = c;
      },
      omega (arith, n, within),
    )

excused : (grows : Bool) (old new : Reading) (e : Error) → Excused grows false old new e → e ≡ OutOfMemory
excused grows old new e (no_memory p q) = p
excused grows old new e (faulted i p q) = absurd cc
excused grows old new e (uncounted p q o) = absurd cc

-- no value was read, and not for want of memory
pub read_none : (taken_by : Item → Bool) (grows : Bool) (s : List ℕ) (e : Error) (old new : Decoding) → old ≡ fresh s → e ≢ OutOfMemory → Missed taken_by (grows || false) false old new e → TakesNone taken_by s
read_none taken_by grows s e old new q d m i n f t =
    let k : Missed taken_by (grows || false) false (fresh s) new e = rw q at m in
    d (excused (grows || false) _ _ e (k.why refl i (take n s) (drop n s) f.spelled t (ap Some (sym (take-append-drop n s))) refl))

-- and it is refused as the bytes call for
pub read_refused : (refused_by : Refusing) (grows : Bool) (s : List ℕ) (e : Error) (old new : Decoding) → old ≡ fresh s → e ≢ OutOfMemory → Named refused_by (grows || false) false old new e → refused_by bare s e
read_refused refused_by grows s e old new q d m =
    let k : Named refused_by (grows || false) false (fresh s) new e = rw q at m in
    tell (k.why refl s refl refl)
  where
    tell : refused_by bare s e ⊎ Excused (grows || false) false (fresh s).reading new.reading e → refused_by bare s e
    tell (inl p) = p
    tell (inr x) = absurd (d (excused (grows || false) _ _ e x))

-- ---- for a type whose values are written as the items that mean them, or as what is kept of them

pub decoded_as : {T : Type 0} (kind : Kind) (means : Item → T → Type 0) (written : T → Item) (s : List ℕ) (o : Outcome) → ((i : Item) (v : T) → means i v → written v ≡ kept kind i) → Recoded (takes kind) (refuses kind) means written s o → Decoded kind s o
decoded_as kind means written s (Value canonical rest) w (n, r, left) = record {
  item = r.item;
  consumed = n;
  front = r.front;
  taken = r.taken;
  text = ap canon (sym (w r.item r.value r.meant)) ∙ r.text;
  left = left;
}
decoded_as kind means written s (Refused e) w (d, inl f) = (d, λ canonical rest h. f.0 h.item h.consumed h.front h.taken, inl f.1)
decoded_as kind means written s (Refused e) w (d, inr (n, r)) = (
  d,
  λ canonical rest h.
      let same = same_item s h.item r.item h.consumed n h.front r.front in
      let none_is : canon (kept kind h.item) ≡ None = ap canon (ap (kept kind) same ∙ sym (w r.item r.value r.meant)) ∙ r.text.none in
      absurd cc (none_is, h.text),
  inr (record {
    item = r.item;
    consumed = n;
    front = r.front;
    taken = r.taken;
    none = subst (λ i. HasNoText i e) (w r.item r.value r.meant) r.text;
  }),
)

-- elements are written as what is kept of the items that mean them, where each is
items_kept : {V : Type 0} {means : Item → V → Type 0} {written : V → Item} (keep : Item → Item) → ((i : Item) (v : V) → means i v → written v ≡ keep i)
    → (is : Items) (vs : List V) → all_mean means is vs → items_of (map written vs) ≡ kept_all keep is
items_kept keep w none [] m = refl
items_kept keep w none (v ∷ vs) m = absurd m
items_kept keep w (more i is) [] m = absurd m
items_kept keep w (more i is) (v ∷ vs) m = let a = w i v m.0 in let b = items_kept keep w is vs m.1 in cc

-- so is a list
pub list_kept : {V : Type 0} {means : Item → V → Type 0} {written : V → Item} (keep : Item → Item) → ((i : Item) (v : V) → means i v → written v ≡ keep i)
    → (i : Item) (vs : List V) → means_seq means i vs → whole Shape.List (map written vs) ≡ as_list keep i
unfolding whole
list_kept keep w (list is) vs m = ap list (items_kept keep w is vs m)
list_kept keep w (array is) vs m = ap list (items_kept keep w is vs m)
list_kept keep w (scalar v) vs m = absurd m
list_kept keep w (map_item ps) vs m = absurd m
list_kept keep w (described d v) vs m = absurd m

-- and an array
pub array_kept : {V : Type 0} {means : Item → V → Type 0} {written : V → Item} (keep : Item → Item) → ((i : Item) (v : V) → means i v → written v ≡ keep i)
    → (i : Item) (vs : List V) → means_array means i vs → whole Shape.Array (map written vs) ≡ as_array keep i
unfolding whole
array_kept keep w (array is) vs m = ap array (items_kept keep w is vs m)
array_kept keep w (list is) vs m = ap array (items_kept keep w (more (list is) none) vs m)
array_kept keep w (scalar s) vs m = ap array (items_kept keep w (more (scalar s) none) vs m)
array_kept keep w (map_item ps) vs m = ap array (items_kept keep w (more (map_item ps) none) vs m)
array_kept keep w (described d i) vs m = ap array (items_kept keep w (more (described d i) none) vs m)

-- null is written for what is missing
null_of : (i : Item) → is_null i ≡ true → scalar null ≡ i
null_of (scalar null) e = refl
null_of (scalar v) e = absurd cc
null_of (list is) e = absurd cc
null_of (map_item ps) e = absurd cc
null_of (array is) e = absurd cc
null_of (described d v) e = absurd cc

pub option_kept : {V : Type 0} {means : Item → V → Type 0} {s : Setting} (written : V → Setting → Item) → ((i : Item) (v : V) → means i v → written v s ≡ i)
    → (i : Item) (o : Option V) → means_option means i o → option_item written o s ≡ i
option_kept written w i None m = null_of i m
option_kept written w i (Some v) m = w i v m.1

-- a tuple of two is written as the list that means it, where its parts are
pub pair_kept : {P Q : Item → Type 0} {a b : Item} → ((i : Item) → P i → a ≡ i) → ((i : Item) → Q i → b ≡ i)
    → (i : Item) → means_fields (P ∷ Q ∷ []) i → whole (Shape.Tuple 2) (a ∷ b ∷ []) ≡ i
unfolding whole means_fields all_meanings
pair_kept p q (list none) m = absurd m
pair_kept p q (list (more i none)) m = absurd m.1
pair_kept p q (list (more i (more j none))) m = let x = p i m.0 in let y = q j m.1.0 in cc
pair_kept p q (list (more i (more j (more k is)))) m = absurd m.1.1
pair_kept p q (scalar v) m = absurd m
pair_kept p q (map_item ps) m = absurd m
pair_kept p q (array is) m = absurd m
pair_kept p q (described d v) m = absurd m

-- ---- a map is written as what is kept of the map that means it

abbrev text_of_key : String Global → Item
text_of_key k = scalar (string (string_bytes k))

abbrev number_of : ℕ → Item
number_of n = scalar (uint n)

abbrev entry_pairs : List (String Global × ℕ) → Pairs
entry_pairs [] = no_pairs
entry_pairs (e ∷ es) = pair (text_of_key e.0) (number_of e.1) (entry_pairs es)

module _ (eq : String Global → String Global → Bool) (as_bytes : (a b : String Global) → eq a b ≡ bytes_eq (string_bytes a) (string_bytes b)) where
  by_key : (e : String Global × ℕ) (es : List (String Global × ℕ)) (k : String Global) (v : ℕ) → entry_pairs (insert_entry eq es k v) ≡ put_pair (entry_pairs es) (text_of_key k) (number_of v) → (b : Bool) → bytes_eq (string_bytes k) (string_bytes e.0) ≡ b
      → entry_pairs (insert_entry eq (e ∷ es) k v) ≡ put_pair (entry_pairs (e ∷ es)) (text_of_key k) (number_of v)
  by_key e es k v behind true h = rw (as_bytes k e.0, h) refl
  by_key e es k v behind false h = rw (as_bytes k e.0, h, behind) refl

  put_one : (es : List (String Global × ℕ)) (k : String Global) (v : ℕ) → entry_pairs (insert_entry eq es k v) ≡ put_pair (entry_pairs es) (text_of_key k) (number_of v)
  put_one [] k v = refl
  put_one (e ∷ es) k v = by_key e es k v (put_one es k v) (bytes_eq (string_bytes k) (string_bytes e.0)) refl

  put_many : (ps : Pairs) (rows es : List (String Global × ℕ)) → all_pairs_mean (λ i k. i ≡ text_of_key k) (λ i (n : ℕ). i ≡ number_of n) ps rows → entry_pairs (fold (λ (done : List (String Global × ℕ)) (r : String Global × ℕ). insert_entry eq done r.0 r.1) es rows) ≡ put_pairs (entry_pairs es) ps
  put_many no_pairs [] es m = refl
  put_many no_pairs (r ∷ rows) es m = absurd m
  put_many (pair k v ps) [] es m = absurd m
  put_many (pair k v ps) (r ∷ rows) es m = rw (m.0, m.1.0) (put_many ps rows (insert_entry eq es r.0 r.1) m.1.1 ∙ ap (λ (z : Pairs). put_pairs z ps) (put_one es r.0 r.1))

  entry_items : (es : List (String Global × ℕ)) → pairs_of (pair_items text_of_key number_of es) ≡ entry_pairs es
  entry_items [] = refl
  entry_items (e ∷ es) = ap (pair (text_of_key e.0) (number_of e.1)) (entry_items es)

  pub map_kept : (i : Item) (es : List (String Global × ℕ)) → means_map (λ i k. i ≡ text_of_key k) (λ i (n : ℕ). i ≡ number_of n) (insert_entry eq) i es → whole Shape.Map (pair_items text_of_key number_of es) ≡ kept MapStringU32 i
  unfolding whole
  map_kept (map_item ps) es m = ap map_item (entry_items es ∙ (ap entry_pairs m.placed ∙ put_many ps m.rows [] m.mean))
  map_kept (list is) es m = absurd m
  map_kept (scalar v) es m = absurd m
  map_kept (array is) es m = absurd m
  map_kept (described d v) es m = absurd m

pub decoded_ok : {T : Type 0} (kind : Kind) (means : Item → T → Type 0) (written : T → Item) (s : List ℕ) (r : Result Outcome Error) → ((i : Item) (v : T) → means i v → written v ≡ kept kind i)
    → IfOk r (λ o. Recoded (takes kind) (refuses kind) means written s o) → IfOk r (λ o. Decoded kind s o)
decoded_ok kind means written s (Ok o) w d = decoded_as kind means written s o w d
decoded_ok kind means written s (Err e) w d = tt

-- a refusal where nothing was read, or what was read has no text
pub none_recoded : {T : Type 0} (taken_by : Item → Bool) (refused_by : Refusing) (means : Item → T → Type 0) (written : T → Item) (grows : Bool) (s : List ℕ) (e : Error) (r : Result Outcome Error) (old new : Decoding) → old ≡ fresh s → Missed taken_by (grows || false) false old new e → Named refused_by (grows || false) false old new e
    → IfOk r (λ o. IsRefused e o) → IfOk r (λ o. Recoded taken_by refused_by means written s o)
none_recoded taken_by refused_by means written grows s e (Ok (Value c n)) old new q m h k = absurd k
none_recoded taken_by refused_by means written grows s e (Ok (Refused f)) old new q m h k = rw k.0 (k.1, inl (read_none taken_by grows s e old new q k.1 m, read_refused refused_by grows s e old new q k.1 h))
none_recoded taken_by refused_by means written grows s e (Err f) old new q m h k = tt

pub textless : {T : Type 0} (taken_by : Item → Bool) (refused_by : Refusing) (means : Item → T → Type 0) (written : T → Item) (s : List ℕ) (v : T) (e : Error) (r : Result Outcome Error) (old new : Decoding) → old ≡ fresh s → Found taken_by (λ i. means i v) old new
    → (e ≡ OutOfMemory) ⊎ HasNoText (written v) e → IfOk r (λ o. IsRefused e o) → IfOk r (λ o. Recoded taken_by refused_by means written s o)
textless taken_by refused_by means written s v e (Ok (Value c n)) old new q f w k = absurd k
textless taken_by refused_by means written s v e (Ok (Refused g)) old new q f (inl p) k = absurd (k.1 p)
textless taken_by refused_by means written s v e (Ok (Refused g)) old new q f (inr p) k = (rw k.0 k.1, inr (new.reading.taken, (read_value taken_by means written s v (λ i. HasNoText i g) old new q f (rw k.0 p)).0))
textless taken_by refused_by means written s v e (Err g) old new q f w k = tt
