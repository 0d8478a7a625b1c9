-- Reading an enum's variants.
use Rattle.std.proofs.Common.{◌≡◌, ℕ, suc, Bool, true, IsTrue, List, ◌++◌, Option, Some, None, Ok, Err, refl, sym, ap, ◌∙◌, arith, inl, inr, ◌⊎◌}
use Rattle.std.proofs.lemmas.Bool.{ne_eqb}
use Rattle.amqp_base.specs.declared.error.Error.{Error}
use Rattle.amqp_base.specs.declared.error.Error.TheVariants.{InvalidLength, OutOfMemory}
use Rattle.amqp_base.specs.declared.format_code.EncodingCodes.{EncodingCodes}
use Rattle.amqp_base.specs.declared.format_code.EncodingCodes.TheVariants.{List0}
use Rattle.amqp_base.specs.Codes as codes
use Rattle.amqp_base.specs.Codes.{Kind}
use Rattle.amqp_base.specs.Enums.{Variants, Payload, variant, is_key, means_variant}
use Rattle.amqp_base.specs.Canon.{kind_of}
use Rattle.amqp_base.specs.Item.{Item, Scalar, null, scalar, list, map, array, described, Items, none, more, count, in_turn}
use Rattle.amqp_base.specs.Parse.{Parsed, code_at, list_data, map_data}
use Rattle.amqp_base.specs.Refusals.{IsDevice}
use Rattle.amqp_base.specs.Refusing.{Refusing, PartsRefusing, opened_refusal}
use Rattle.amqp_base.specs.VariantItems.{Key, key_of, by_key, takes_two, means_two, takes_enum, means_enum, is_first, key_refusal, pair_refusal, alone_refusal, not_two, enum_refusal, no_variant_refusal, no_item, of_map, of_list, of_described, of_key}
use Rattle.amqp_base.specs.Wire.{Constructor, bare, Wire, lenient}
use Rattle.amqp_data.specs.Excuses.{Excused, no_memory}
use Rattle.amqp_data.specs.Parts.{HasParts, HasPairs}
use Rattle.amqp_data.proofs.Readings.{behind, excused_more}
use Rattle.amqp_de.specs.Access.{Listing, Opens, OpensExactly, Part, Plain, AllRead}
use Rattle.amqp_de.specs.Decoding.{Decoding, stands_under, as_ended}
use Rattle.amqp_de.specs.DescribedEnums.{none_behind, takes_by_descriptor}
use Rattle.amqp_de.specs.Law.{Front, Found, Missed, Named}
use Rattle.amqp_de.specs.Look.{item_kind, Looks, LooksNot}
use Rattle.amqp_de.specs.ReadParts.{PartsRead}
use Rattle.amqp_de.specs.ReadVariants.{Alone, NotAlone, HeldRead, HeldRefused, HeldNamed, PayloadRefused, takes_alone, means_alone, takes_in_map, means_in_map, takes_in_list, means_in_list, AloneRead, MapRead, ListRead, VariantRead, VariantRefused, VariantNamed, PairRead, PairRefused, no_key_read, none_held}
use Rattle.amqp_de.proofs.Answered.{spent_refused}
use Rattle.amqp_de.proofs.LookedFirst.{found_behind, missed_of_kind, missed_unseen}
use Rattle.amqp_de.proofs.Naming.{named_behind, part_named}
use Rattle.amqp_de.proofs.NamedParts.{reaches_start, reaches_on, part_told, refused_behind, taken_since}
use Rattle.amqp_de.proofs.PartsRead as read
use Rattle.amqp_de.proofs.PartsRead.{found_only}
use Rattle.amqp_de.proofs.Weaker.{found_as}

-- ---- laws that say less

-- fewer items are taken
pub missed_less : {takes some : Item → Bool} {grows buffers : Bool} {old new : Decoding} {e : Error} → ((i : Item) → IsTrue (some i) → IsTrue (takes i)) → Missed takes grows buffers old new e → Missed some grows buffers old new e
missed_less h m = record { why = λ a i text rest w t at f. m.why a i text rest w (h i t) at f; spent = m.spent; steady = m.steady; device = m.device; memory = m.memory }

-- more refusals are made
pub named_wider : {refuses wider : Refusing} {grows buffers : Bool} {old new : Decoding} {e : Error} → ((c : Constructor) (s : List ℕ) → refuses c s e → wider c s e) → Named refuses grows buffers old new e → Named wider grows buffers old new e
named_wider {refuses} {wider} {grows} {buffers} {old} {new} {e} h n = record { why = λ a s at f. tell s (n.why a s at f) }
  where
    tell : (s : List ℕ) → refuses (stands_under old) s e ⊎ Excused grows buffers old.reading new.reading e → wider (stands_under old) s e ⊎ Excused grows buffers old.reading new.reading e
    tell s (inl p) = inl (h (stands_under old) s p)
    tell s (inr y) = inr y

-- a variant's own refusal
pub first_refused : {T S : Type 0} (name : List ℕ) (p : Payload T) (rest : Variants S) (k : Key) (old new : Decoding) (buffers : Bool) (e : Error) → is_first name k ≡ true → PayloadRefused p buffers old new e → HeldRefused (variant name p rest) k buffers old new e
first_refused name p rest k old new buffers e h m = missed_less (λ i t. rw h at t) m

-- ---- a key alone

some_key : (o : Option Key) (f : Key → Bool) → IsTrue (by_key o f) → IsTrue (by_key o (λ k. true))
some_key None f h = h
some_key (Some k) f h = refl

module _ {S : Type 0} (row : Variants S) (buffers : Bool) (old new : Decoding) where
  pub alone_read : (k : Key) (s : S) → Found is_key (λ i. key_of i ≡ Some k) old new → Alone row k s → AloneRead row s old new
  alone_read k s f a = found_as is_key (takes_alone row.takes) (λ i. key_of i ≡ Some k) (means_alone (λ key o. row.means key o s)) old new (λ i t m. (rw m a.taken, rw m a.meant)) f

  pub key_refused : (e : Error) → Missed is_key true buffers old new e → Missed (takes_alone row.takes) true buffers old new e
  key_refused e m = missed_less (λ i t. some_key (key_of i) (λ k. row.takes k None) t) m

  pub alone_refused : (k : Key) (e : Error) → Found is_key (λ i. key_of i ≡ Some k) old new → NotAlone row k e → Missed (takes_alone row.takes) true buffers old new e
  alone_refused k e f n = record {
    why = λ a i text rest w t at h.
        let o = found_only is_key (λ j. key_of j ≡ Some k) old new (f.front a) i text rest w at in
        let q : IsTrue (row.takes k None) = rw o.0 at t in
        let z = n.absent in
        absurd cc (sym z ∙ q);
    spent = λ a. spent_refused old new (f.spent a);
    steady = f.steady;
    device = λ d. absurd (n.calm d);
    memory = λ m. refl;
  }

  pub key_named : (e : Error) → Named key_refusal true buffers old new e → Named (alone_refusal row.refuses_alone) true buffers old new e
  key_named e n = named_wider (λ c s q. inl q) n

  pub alone_named : (k : Key) (e : Error) → Found is_key (λ i. key_of i ≡ Some k) old new → NotAlone row k e → Named (alone_refusal row.refuses_alone) true buffers old new e
  alone_named k e f n = record {
    why = λ a s at h.
        let o = f.front a in
        let b = behind old.reading new.reading s o.text o.step at in
        tell s o b.0 b.2 n.why;
  }
    where
      tell : (s : List ℕ) → (o : Front is_key (λ i. key_of i ≡ Some k) old new) (rest : List ℕ) → s ≡ o.text ++ rest → row.refuses_alone k e ⊎ (e ≡ OutOfMemory) → alone_refusal row.refuses_alone (stands_under old) s e ⊎ Excused true buffers old.reading new.reading e
      tell s o rest split (inl q) = inl (inr (record { item = o.item; text = o.text; rest = rest; spelled = o.spelled; key = k; is_key = o.value; split = split; behind = q }))
      tell s o rest split (inr m) = inr (no_memory m refl)

-- ---- a pair

-- of what is taken, two parts are the key and what is held
two_key : (takes : Key → Option Item → Bool) (j : Item) (js : Items) → IsTrue (takes_two takes (more j js)) → IsTrue (is_key j)
two_key takes j (more v none) t = some_key (key_of j) (λ k. takes k (Some v)) t
two_key takes j none t = absurd cc
two_key takes j (more v (more w js)) t = absurd cc

two_held : (takes : Key → Option Item → Bool) (k j : Item) (key : Key) (js : Items) → key_of k ≡ Some key → IsTrue (takes_two takes (more k (more j js))) → IsTrue (takes key (Some j))
two_held takes k j key none h t = rw h at t
two_held takes k j key (more v js) h t = absurd cc

two_counted : (takes : Key → Option Item → Bool) (is : Items) → IsTrue (takes_two takes is) → count is ≡ 2
two_counted takes (more k (more v none)) t = refl
two_counted takes none t = absurd cc
two_counted takes (more k none) t = absurd cc
two_counted takes (more k (more v (more w is))) t = absurd cc

module _ {S : Type 0} (row : Variants S) {Has : Item → Items → Type 0} (old : Decoding) (from : Listing) (o : Opens Has old from) (takes : Item → Bool) where
  -- both were read
  pub pair_found : (means : Item → Type 0) (s : S) (last : Decoding) → ((i : Item) (k v : Item) → Has i (more k (more v none)) → IsTrue (takes_two row.takes (more k (more v none))) → means_two (λ key h. row.means key h s) (more k (more v none)) → IsTrue (takes i) × means i)
      → PairRead row s from last → Found takes means old last
  pair_found means s last whole r = read.parts_found old from (more k (more v none)) r.now o reads takes means (λ i h. whole i k v h taken meant) last r.left r.is
    where
      k : Item
      k = r.key_read.front.item

      v : Item
      v = r.held_read.front.item

      reads : PartsRead from (more k (more v none)) r.now
      reads = read.parts_more from (more k none) r.between r.now (read.parts_more from none from r.between (read.parts_begun old from o) r.key_read) r.held_read

      taken : IsTrue (takes_two row.takes (more k (more v none)))
      taken = rw r.key_read.front.value r.held_read.front.taken

      meant : means_two (λ key h. row.means key h s) (more k (more v none))
      meant = rw r.key_read.front.value r.held_read.front.value

  module _ (sorts : (i : Item) → IsTrue (takes i) → (is : Items) × Has i is × IsTrue (takes_two row.takes is)) where
    -- one of them was refused
    pub pair_missed : (buffers : Bool) (last : Decoding) (e : Error) → PairRefused row buffers from last e → Missed takes true buffers old last e
    pair_missed buffers last e (no_key_read next n m l) = read.part_missed old from none from o (read.parts_begun old from o) takes (λ is. IsTrue (takes_two row.takes is)) sorts is_key (λ j js t. two_key row.takes j js t) true buffers next last e n l
    pair_missed buffers last e (none_held key between next p n m l) =
        read.part_missed old from (more p.front.item none) between o (read.parts_more from none from between (read.parts_begun old from o) p) takes (λ is. IsTrue (takes_two row.takes is)) sorts (λ i. row.takes key (Some i)) (λ j js t. two_held row.takes p.front.item j key js p.front.value t) true buffers next last e n l

    -- they aren't two
    pub others_missed : (buffers : Bool) (last : Decoding) (e : Error) → (IsDevice e → ⊥) → (from.left ≡ 2 → ⊥) → last ≡ as_ended from.state → Missed takes true buffers old last e
    others_missed buffers last e calm n l = read.not_taken old from none from o (read.parts_begun old from o) takes (λ is. IsTrue (takes_two row.takes is)) sorts true buffers last e calm (λ _. refl) (ap (λ (d : Decoding). d.reading) l) (ap (λ (d : Decoding). d.begun) l) (λ js c t. n (sym c ∙ two_counted row.takes js t))

-- ---- refusals by name

module _ {S : Type 0} (row : Variants S) (parse : EncodingCodes → List ℕ → Parsed ℕ) (other : Error) (buffers : Bool) {Has : Item → Items → Type 0} (old last : Decoding) (from : Listing) (o : Opens Has old from) (x : OpensExactly parse old from) (plain : Plain from) where
  -- what the variant of a key makes of what stands behind it
  abbrev Behind : Key → PartsRefusing
  Behind key n s e = row.refuses key bare s e

  -- of two parts the key was refused
  key_here : (n : ℕ) (rest : List ℕ) (e : Error) → n ≡ 2 → key_refusal bare rest e → pair_refusal other row.refuses n rest e
  key_here n rest e h q = rw h (inl q)

  key_then : (key : Key) (k : Item) (n : ℕ) (text rest : List ℕ) (e : Error) → n ≡ 2 → key_of k ≡ Some key → Wire lenient bare text k → row.refuses key bare rest e → pair_refusal other row.refuses n (text ++ rest) e
  key_then key k n text rest e h q w p = rw h (inr (record { item = k; text = text; rest = rest; spelled = w; key = key; is_key = q; split = refl; behind = p }))

  pub pair_named : (e : Error) → from.left ≡ 2 → PairRefused row buffers from last e → Named (opened_refusal parse (pair_refusal other row.refuses)) true buffers old last e
  pair_named e two (no_key_read next n m l) =
      refused_behind parse (pair_refusal other row.refuses) true buffers old last e from from (λ h. h) x o.step (reaches_start (pair_refusal other row.refuses) from plain)
      (part_told from next last e (λ rest. pair_refusal other row.refuses from.left rest e) plain o.not_ended (ap (λ (d : Decoding). d.reading) l) (λ rest q. key_here from.left rest e two q) m)
  pair_named e two (none_held key between next p n m l) =
      let reads = read.parts_more from none from between (read.parts_begun old from o) p in
      let r = reaches_on (pair_refusal other row.refuses) (pair_refusal other row.refuses) (Behind key) from from between (reaches_start (pair_refusal other row.refuses) from plain) p (λ w rest f q. key_then key p.front.item (suc between.left) p.front.text rest f (sym p.left ∙ two) p.front.value w q) in
      refused_behind parse (pair_refusal other row.refuses) true buffers old last e from between (λ h. h) x (taken_since o reads) r
      (part_told between next last e (λ rest. row.refuses key bare rest e) r.plain reads.not_ended (ap (λ (d : Decoding). d.reading) l) (λ rest q. q) m)

  pub others_named : (from.left ≡ 2 → ⊥) → last.reading ≡ from.state.reading → Named (opened_refusal parse (pair_refusal other row.refuses)) true buffers old last other
  others_named n same = refused_behind parse (pair_refusal other row.refuses) true buffers old last other from from (λ h. h) x o.step (reaches_start (pair_refusal other row.refuses) from plain) (λ rest at h. inl (rw (ne_eqb from.left 2 n) refl))

-- ---- what was opened has a key, and what its variant holds

module _ {S : Type 0} (row : Variants S) (from between : Listing) (two : from.left ≡ 2) (plain : Plain from) (key : Key) (p : Part is_key (λ i. key_of i ≡ Some key) from between) where
  pub pair_read : (s : S) (held last : Decoding) (done : Listing) → HeldRead row key s between.state held → done ≡ record between { state = held; left = 0 } → AllRead done last → PairRead row s from last
  pair_read s held last done f same a = record {
    key = key;
    between = between;
    now = record between { state = held; left = 0 };
    key_read = p;
    held_read = record {
      front = f.front p.front.not_ended;
      within = rw (p.limit, plain.limit) tt;
      spent = f.spent p.front.not_ended;
      left = omega (arith, two, p.left);
      outer = refl;
      limit = refl;
    };
    left = refl;
    is = rw same at a.is;
  }

  pub pair_held_not : (buffers : Bool) (held last : Decoding) (e : Error) → HeldRefused row key buffers between.state held e → HeldNamed row key buffers between.state held e → last ≡ as_ended held → PairRefused row buffers from last e
  pair_held_not buffers held last e m n l = none_held key between next p record {
    if_ended = λ a. absurd cc (a, p.front.not_ended);
    ended = refl;
    steady = m.steady;
    device = m.device;
    memory = m.memory;
    spent = λ a. record { most = (m.spent a).most };
    some_left = λ a. omega (arith, two, p.left);
    why = λ i text rest w t at fits h a. m.why a i text rest w t at h;
  } (part_named (row.refuses key) true buffers between next held e n refl) l
    where
      next : Listing
      next = record between { state = as_ended held }

-- what is refused of other lists is no device's fault
pub not_device : (x : EncodingCodes) → IsDevice (not_two x) → ⊥
not_device List0 d = d
not_device _ d = d

-- a value without parts is no map and no list
scalar_no_map : (v : Scalar) → Kind.map ≡ kind_of v → ⊥
scalar_no_map null h = absurd cc
scalar_no_map _ h = absurd cc

scalar_no_list : (v : Scalar) → Kind.list ≡ kind_of v → ⊥
scalar_no_list null h = absurd cc
scalar_no_list _ h = absurd cc

scalar_not_described : (v : Scalar) → Kind.described ≡ kind_of v → ⊥
scalar_not_described null h = absurd cc
scalar_not_described _ h = absurd cc

-- ---- the three forms

module _ {S : Type 0} (row : Variants S) where
  pub map_parts : (i : Item) → IsTrue (takes_in_map row.takes i) → (is : Items) × HasPairs i is × IsTrue (takes_two row.takes is)
  map_parts (map ps) t = (in_turn ps, refl, t)
  map_parts (list is) t = absurd cc
  map_parts (array is) t = absurd cc
  map_parts (scalar v) t = absurd cc
  map_parts (described d v) t = absurd cc

  pub list_parts : (i : Item) → IsTrue (takes_in_list row.takes i) → (is : Items) × HasParts i is × IsTrue (takes_two row.takes is)
  list_parts (list is) t = (is, refl, t)
  list_parts (map ps) t = absurd cc
  list_parts (array is) t = absurd cc
  list_parts (scalar v) t = absurd cc
  list_parts (described d v) t = absurd cc

  module _ (s : S) where
    pub map_whole : (i k v : Item) → HasPairs i (more k (more v none)) → IsTrue (takes_two row.takes (more k (more v none))) → means_two (λ key h. row.means key h s) (more k (more v none)) → IsTrue (takes_in_map row.takes i) × means_in_map (λ key h. row.means key h s) i
    map_whole (map ps) k v h t m = (rw h t, rw h m)
    map_whole (list is) k v h t m = absurd h
    map_whole (array is) k v h t m = absurd h
    map_whole (scalar x) k v h t m = absurd h
    map_whole (described d x) k v h t m = absurd h

    pub list_whole : (i k v : Item) → HasParts i (more k (more v none)) → IsTrue (takes_two row.takes (more k (more v none))) → means_two (λ key h. row.means key h s) (more k (more v none)) → IsTrue (takes_in_list row.takes i) × means_in_list (λ key h. row.means key h s) i
    list_whole (list is) k v h t m = (rw h t, rw h m)
    list_whole (map ps) k v h t m = absurd h
    list_whole (array is) k v h t m = absurd h
    list_whole (scalar x) k v h t m = absurd h
    list_whole (described d x) k v h t m = absurd h

    alone_whole : (i : Item) → IsTrue (takes_alone row.takes i) → means_alone (λ key h. row.means key h s) i → IsTrue (takes_enum row.takes i) × means_variant row s i
    unfolding takes_enum means_variant means_enum
    alone_whole (scalar x) t m = (t, m)
    alone_whole (list is) t m = absurd cc
    alone_whole (map ps) t m = absurd cc
    alone_whole (array is) t m = absurd cc
    alone_whole (described d x) t m = absurd cc

    in_map_whole : (i : Item) → IsTrue (takes_in_map row.takes i) → means_in_map (λ key h. row.means key h s) i → IsTrue (takes_enum row.takes i) × means_variant row s i
    unfolding takes_enum means_variant means_enum
    in_map_whole (map ps) t m = (t, m)
    in_map_whole (scalar x) t m = absurd cc
    in_map_whole (list is) t m = absurd cc
    in_map_whole (array is) t m = absurd cc
    in_map_whole (described d x) t m = absurd cc

    in_list_whole : (i : Item) → IsTrue (takes_in_list row.takes i) → means_in_list (λ key h. row.means key h s) i → IsTrue (takes_enum row.takes i) × means_variant row s i
    unfolding takes_enum means_variant means_enum
    in_list_whole (list is) t m = (t, m)
    in_list_whole (scalar x) t m = absurd cc
    in_list_whole (map ps) t m = absurd cc
    in_list_whole (array is) t m = absurd cc
    in_list_whole (described d x) t m = absurd cc

  enum_alone : (k : Kind) (i : Item) → (k ≡ Kind.map → ⊥) → (k ≡ Kind.list → ⊥) → k ≡ item_kind i → IsTrue (takes_enum row.takes i) → IsTrue (takes_alone row.takes i)
  unfolding takes_enum
  enum_alone k (scalar x) a b h t = t
  enum_alone k (map ps) a b h t = absurd (a h)
  enum_alone k (list is) a b h t = absurd (b h)
  enum_alone k (array is) a b h t = absurd cc
  enum_alone k (described d x) a b h t = absurd cc

  enum_in_map : (k : Kind) (i : Item) → k ≡ Kind.map → k ≡ item_kind i → IsTrue (takes_enum row.takes i) → IsTrue (takes_in_map row.takes i)
  unfolding takes_enum
  enum_in_map k (map ps) a h t = t
  enum_in_map k (scalar x) a h t = absurd (scalar_no_map x (sym a ∙ h))
  enum_in_map k (list is) a h t = let q : Kind.map ≡ Kind.list = sym a ∙ h in absurd cc q
  enum_in_map k (array is) a h t = absurd cc
  enum_in_map k (described d x) a h t = absurd cc

  enum_in_list : (k : Kind) (i : Item) → k ≡ Kind.list → k ≡ item_kind i → IsTrue (takes_enum row.takes i) → IsTrue (takes_in_list row.takes i)
  unfolding takes_enum
  enum_in_list k (list is) a h t = t
  enum_in_list k (scalar x) a h t = absurd (scalar_no_list x (sym a ∙ h))
  enum_in_list k (map ps) a h t = let q : Kind.list ≡ Kind.map = sym a ∙ h in absurd cc q
  enum_in_list k (array is) a h t = absurd cc
  enum_in_list k (described d x) a h t = absurd cc

  enum_behind : (k : Kind) (i : Item) → k ≡ Kind.described → k ≡ item_kind i → IsTrue (takes_enum row.takes i) → IsTrue (takes_by_descriptor none_behind.takes i)
  unfolding takes_enum
  enum_behind k (described d x) a h t = absurd cc
  enum_behind k (scalar x) a h t = absurd (scalar_not_described x (sym a ∙ h))
  enum_behind k (list is) a h t = let q : Kind.described ≡ Kind.list = sym a ∙ h in absurd cc q
  enum_behind k (map ps) a h t = let q : Kind.described ≡ Kind.map = sym a ∙ h in absurd cc q
  enum_behind k (array is) a h t = absurd cc

  -- an enum that was looked at first
  module _ (buffers : Bool) (old mid new : Decoding) (x : EncodingCodes) (l : Looks old mid x) where
    pub found_alone : (s : S) → AloneRead row s mid new → VariantRead row s old new
    found_alone s f = found_behind _ _ old mid new x l (found_as (takes_alone row.takes) (takes_enum row.takes) (means_alone (λ k o. row.means k o s)) (means_variant row s) mid new (alone_whole s) f)

    pub found_in_map : (s : S) → MapRead row s mid new → VariantRead row s old new
    found_in_map s f = found_behind _ _ old mid new x l (found_as (takes_in_map row.takes) (takes_enum row.takes) (means_in_map (λ k o. row.means k o s)) (means_variant row s) mid new (in_map_whole s) f)

    pub found_in_list : (s : S) → ListRead row s mid new → VariantRead row s old new
    found_in_list s f = found_behind _ _ old mid new x l (found_as (takes_in_list row.takes) (takes_enum row.takes) (means_in_list (λ k o. row.means k o s)) (means_variant row s) mid new (in_list_whole s) f)

    module _ (e : Error) where
      pub missed_alone : ((codes.row x).kind ≡ Kind.map → ⊥) → ((codes.row x).kind ≡ Kind.list → ⊥) → Missed (takes_alone row.takes) true buffers mid new e → VariantRefused row buffers old new e
      missed_alone a b m = missed_of_kind (takes_alone row.takes) (takes_enum row.takes) true true buffers old mid new x e (λ h. h) (λ i h t. enum_alone (codes.row x).kind i a b h t) l m

      pub missed_in_map : (codes.row x).kind ≡ Kind.map → Missed (takes_in_map row.takes) true buffers mid new e → VariantRefused row buffers old new e
      missed_in_map a m = missed_of_kind (takes_in_map row.takes) (takes_enum row.takes) true true buffers old mid new x e (λ h. h) (λ i h t. enum_in_map (codes.row x).kind i a h t) l m

      pub missed_behind : (codes.row x).kind ≡ Kind.described → Missed (takes_by_descriptor none_behind.takes) true buffers mid new e → VariantRefused row buffers old new e
      missed_behind a m = missed_of_kind (takes_by_descriptor none_behind.takes) (takes_enum row.takes) true true buffers old mid new x e (λ h. h) (λ i h t. enum_behind (codes.row x).kind i a h t) l m

      pub missed_in_list : (codes.row x).kind ≡ Kind.list → Missed (takes_in_list row.takes) true buffers mid new e → VariantRefused row buffers old new e
      missed_in_list a m = missed_of_kind (takes_in_list row.takes) (takes_enum row.takes) true true buffers old mid new x e (λ h. h) (λ i h t. enum_in_list (codes.row x).kind i a h t) l m

      -- refusals by name
      looked : (refuses : Refusing) → ((c : Constructor) (s rest : List ℕ) → code_at c s ≡ Ok (x, rest) → refuses c s e → enum_refusal row.refuses_alone row.refuses c s e) → Named refuses true buffers mid new e → VariantNamed row buffers old new e
      looked refuses wider n =
          let m = named_behind refuses true buffers old mid new x e l n in
          record { why = λ a s at h. let c = l.exact s at in tell s c.0 c.1 (m.why a s at h) }
        where
          tell : (s rest : List ℕ) → code_at (stands_under old) s ≡ Ok (x, rest) → refuses (stands_under old) s e ⊎ Excused true buffers old.reading new.reading e → enum_refusal row.refuses_alone row.refuses (stands_under old) s e ⊎ Excused true buffers old.reading new.reading e
          tell s rest c (inl p) = inl (wider (stands_under old) s rest c p)
          tell s rest c (inr y) = inr y

      pub named_alone : ((codes.row x).kind ≡ Kind.map → ⊥) → ((codes.row x).kind ≡ Kind.list → ⊥) → ((codes.row x).kind ≡ Kind.described → ⊥) → Named (alone_refusal row.refuses_alone) true buffers mid new e → VariantNamed row buffers old new e
      named_alone a b d n = looked (alone_refusal row.refuses_alone) (λ c s rest h p. of_key x rest h a b d p) n

      pub named_in_map : (codes.row x).kind ≡ Kind.map → Named (opened_refusal map_data (pair_refusal InvalidLength row.refuses)) true buffers mid new e → VariantNamed row buffers old new e
      named_in_map a n = looked (opened_refusal map_data (pair_refusal InvalidLength row.refuses)) (λ c s rest h p. of_map x rest h a p) n

      pub named_behind_none : (codes.row x).kind ≡ Kind.described → Named no_variant_refusal true buffers mid new e → VariantNamed row buffers old new e
      named_behind_none a n = looked no_variant_refusal (λ c s rest h p. of_described x rest h a p) n

      pub named_in_list : (codes.row x).kind ≡ Kind.list → Named (opened_refusal list_data (pair_refusal (not_two x) row.refuses)) true buffers mid new e → VariantNamed row buffers old new e
      named_in_list a n = looked (opened_refusal list_data (pair_refusal (not_two x) row.refuses)) (λ c s rest h p. of_list x rest h a p) n

  pub missed_item : (buffers : Bool) (old new : Decoding) (e : Error) → LooksNot buffers old new e → VariantRefused row buffers old new e
  missed_item buffers old new e n = missed_unseen (takes_enum row.takes) true buffers old new e (λ b. refl) n

  pub named_item : (buffers : Bool) (old new : Decoding) (e : Error) → LooksNot buffers old new e → VariantNamed row buffers old new e
  named_item buffers old new e n = record { why = λ a s at h. tell s ((n.rejects a).why s at h) }
    where
      tell : (s : List ℕ) → (code_at (stands_under old) s ≡ Err e) ⊎ Excused buffers buffers old.reading new.reading e → enum_refusal row.refuses_alone row.refuses (stands_under old) s e ⊎ Excused true buffers old.reading new.reading e
      tell s (inl p) = inl (no_item p)
      tell s (inr y) = inr (excused_more old.reading new.reading e (λ _. refl) y)
