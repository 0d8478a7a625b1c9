-- Reading a struct: the pairs of a map, each as the field under its name.
use Rattle.std.proofs.Common.{◌≡◌, ℕ, Bool, true, false, List, [], ◌∷◌, refl, sym, ap, subst, ◌∙◌, arith, IsTrue, String, string_bytes}
use Rattle.std.specs.Global.{Global}
use Rattle.amqp_base.specs.declared.error.Error.{Error}
use Rattle.amqp_base.specs.Codes.{Kind}
use Rattle.amqp_base.specs.Item.{Item, scalar, string, list, map, array, described, Items, none, more, count, Pairs, no_pairs, pair, in_turn}
use Rattle.amqp_base.specs.NamedFields.{is_named, value_of, without, taken_value, takes_named, takes_map, means_named, means_map}
use Rattle.amqp_base.specs.ReadBack.{of_own_kind}
use Rattle.amqp_base.specs.Refusals.{IsDevice}
use Rattle.amqp_base.specs.Typing.{is_of}
use Rattle.amqp_de.specs.Decoding.{Decoding, as_ended}
use Rattle.amqp_de.specs.Law.{Found, Missed}
use Rattle.amqp_de.specs.Access.{Listing, Opens, OpensNot, Part, behind_end}
use Rattle.amqp_data.specs.Parts.{HasPairs}
use Rattle.amqp_base.specs.Parse.{map_data}
use Rattle.amqp_de.specs.ReadParts.{PartsRead, and_last, joined}
use Rattle.amqp_de.specs.ReadPairs.{KeyNext, ValueNext, OutOfTurn, and_pair, PairsRead}
use Rattle.amqp_de.specs.ReadFields.{Slots, all_read, HaveValues, under_name, FieldRead, NoField, unknown, refused}
use Rattle.amqp_de.proofs.PartsRead as read
use Rattle.amqp_de.proofs.PartsRead.{left_of, right_of, missed_more}
use Rattle.amqp_de.proofs.Turns.{and_pairs, pairs_last, pairs_none, pair_turn, one_turn, key_and_value, own_value}

-- ---- names

named_string : (n : List ℕ) (j : Item) → is_named n j ≡ true → IsTrue (is_of Kind.string j)
named_string n (scalar (string b)) h = of_own_kind (string b)
named_string n _ h = absurd cc

by_name : (n : List ℕ) (ns : List (List ℕ)) (ts : List (Item → Bool)) (j v : Item) (rs : Pairs) (b : Bool) → is_named n j ≡ b → IsTrue (takes_named ns ts (without n (pair j v rs))) → (IsTrue (takes_named ns ts (pair j v (without n rs))) → IsTrue (is_of Kind.string j)) → IsTrue (is_of Kind.string j)
by_name n ns ts j v rs true e u others = named_string n j e
by_name n ns ts j v rs false e u others = others (rw e at u)

-- the keys of a struct are strings
key_string : (ns : List (List ℕ)) (ts : List (Item → Bool)) (j v : Item) (rs : Pairs) → IsTrue (takes_named ns ts (pair j v rs)) → IsTrue (is_of Kind.string j)
key_string [] [] j v rs h = absurd cc
key_string [] (t ∷ ts) j v rs h = absurd cc
key_string (n ∷ ns) [] j v rs h = absurd cc
key_string (n ∷ ns) (t ∷ ts) j v rs h = by_name n ns ts j v rs (is_named n j) refl (right_of (taken_value t (value_of n (pair j v rs))) _ h) (λ w. key_string ns ts j v (without n rs) w)

-- ---- what was read

-- Since `old` a map was opened, and some of its pairs were read as fields of a struct: so a map of the fields that were
-- awaited at first is those pairs and a map of those that are awaited now.
pub record StructRead {V : Type 0} (old : Decoding) (all s : Slots V) (now : Listing) : Type 0 where
  pub from : Listing
  pub pairs : Pairs
  pub opened : Opens HasPairs old from
  pub reads : PartsRead from (in_turn pairs) now
  pub turn : KeyNext now
  pub picked : (ps : Pairs) → takes_named all.names all.kinds (and_pairs pairs ps) ≡ takes_named s.names s.kinds ps
  pub meant : (vs : V) → s.holds vs → all.holds vs × ((ps : Pairs) → means_named s.names (s.meanings vs) ps → means_named all.names (all.meanings vs) (and_pairs pairs ps))

-- and the name of a field behind them
pub record NameRead {V : Type 0} (old : Decoding) (all s : Slots V) (name : List ℕ) (now : Listing) : Type 0 where
  pub from : Listing
  pub pairs : Pairs
  pub opened : Opens HasPairs old from
  pub reads : PartsRead from (and_last (in_turn pairs) (scalar (string name))) now
  pub turn : ValueNext now
  pub picked : (ps : Pairs) → takes_named all.names all.kinds (and_pairs pairs ps) ≡ takes_named s.names s.kinds ps
  pub meant : (vs : V) → s.holds vs → all.holds vs × ((ps : Pairs) → means_named s.names (s.meanings vs) ps → means_named all.names (all.meanings vs) (and_pairs pairs ps))

pub struct_start : {V : Type 0} (old : Decoding) (all : Slots V) (key value : Item → Bool) (now : Listing) → PairsRead old key value no_pairs now → StructRead old all all now
struct_start old all key value now s = record {
  from = s.from;
  pairs = no_pairs;
  opened = s.opened;
  reads = s.reads;
  turn = s.turn;
  picked = λ ps. refl;
  meant = λ vs h. (h, λ ps m. m);
}

module _ {V : Type 0} (old : Decoding) (all s : Slots V) (now : Listing) where
  pub name_read : (r : StructRead old all s now) (key : String Global) (next : Listing) → (p : Part (is_of Kind.string) (λ i. i ≡ scalar (string (string_bytes key))) now next) → NameRead old all s (string_bytes key) next
  name_read r key next p = record {
    from = r.from;
    pairs = r.pairs;
    opened = r.opened;
    reads = rw (← p.front.value) (read.parts_more r.from (in_turn r.pairs) now next r.reads p);
    turn = let t = r.turn in omega (arith, t, p.left);
    picked = r.picked;
    meant = r.meant;
  }

  pub field_read : (name : List ℕ) (t : Slots V) (next : Listing) → NameRead old all s name now → FieldRead name s t now next → StructRead old all t next
  field_read name t next r f = record {
    from = r.from;
    pairs = and_pair r.pairs key item;
    opened = r.opened;
    reads = rw (pair_turn r.pairs key item) (read.parts_more r.from (and_last (in_turn r.pairs) key) now next r.reads f.part);
    turn = let k = r.turn in omega (arith, k, f.part.left);
    picked = λ ps. ap (takes_named all.names all.kinds) (pairs_last r.pairs key item ps) ∙ (r.picked (under_name name item ps) ∙ (f.picked item ps ∙ rw f.part.front.taken refl));
    meant = λ vs h.
        let m = f.meant vs h in
        let n = r.meant vs m.0 in
        (n.0, λ ps q. subst (means_named all.names (all.meanings vs)) (sym (pairs_last r.pairs key item ps)) (n.1 (under_name name item ps) (m.1 ps q)));
  }
    where
      item : Item
      item = f.part.front.item

      key : Item
      key = scalar (string name)

-- ---- the law

module _ (ns : List (List ℕ)) (ts : List (Item → Bool)) where
  -- parts that are the keys and values of a map of these fields
  abbrev Taken : Items → Type 0
  Taken is = (ps : Pairs) × (in_turn ps ≡ is) × IsTrue (takes_named ns ts ps)

  sorts : (i : Item) → IsTrue (takes_map ns ts i) → (is : Items) × HasPairs i is × Taken is
  unfolding takes_map
  sorts (map ps) t = (in_turn ps, refl, (ps, refl, t))
  sorts (list is) t = absurd cc
  sorts (array is) t = absurd cc
  sorts (scalar v) t = absurd cc
  sorts (described d v) t = absurd cc

  pub map_unopened : {grows buffers : Bool} {old last : Decoding} {e : Error} → OpensNot HasPairs map_data grows buffers old last e → Missed (takes_map ns ts) grows buffers old last e
  map_unopened o = read.unopened (takes_map ns ts) Taken sorts o

  pairs_item : (pairs : Pairs) (P : Pairs → Type 0) → IsTrue (takes_named ns ts pairs) → P pairs → (i : Item) → HasPairs i (in_turn pairs) → IsTrue (takes_map ns ts i) × ((ps : Pairs) × (i ≡ map ps) × P ps)
  unfolding takes_map
  pairs_item pairs P t q (map ps) p = let e = one_turn ps pairs p in (rw e t, (pairs, ap map e, q))
  pairs_item pairs P t q (list is) p = absurd p
  pairs_item pairs P t q (array is) p = absurd p
  pairs_item pairs P t q (scalar v) p = absurd p
  pairs_item pairs P t q (described d v) p = absurd p

means_pairs : (ns : List (List ℕ)) (ms : List {1} (Item → Type 0)) (i : Item) (ps : Pairs) → i ≡ map ps → means_named ns ms ps → means_map ns ms i
unfolding means_map
means_pairs ns ms i ps e m = rw e m

module _ {V : Type 0} (old : Decoding) (all s : Slots V) (now : Listing) where
  -- a key was refused
  pub key_missed : StructRead old all s now → (next : Listing) (grows buffers : Bool) (e : Error) → OutOfTurn KeyNext (is_of Kind.string) grows buffers now next e → Missed (takes_map all.names all.kinds) grows buffers old next.state e
  key_missed r next grows buffers e n = read.part_missed old r.from (in_turn r.pairs) now r.opened r.reads (takes_map all.names all.kinds) (Taken all.names all.kinds) (sorts all.names all.kinds) (is_of Kind.string) heads grows buffers next next.state e (n.refused r.turn) refl
    where
      heads : (j : Item) (js : Items) → Taken all.names all.kinds (joined (in_turn r.pairs) (more j js)) → IsTrue (is_of Kind.string j)
      heads j js t =
          let k = key_and_value r.pairs t.0 j js t.1 in
          let u : IsTrue (takes_named all.names all.kinds (and_pairs r.pairs (pair j k.0 k.1))) = rw k.2 at t.2 in
          key_string s.names s.kinds j k.0 k.1 (sym (r.picked (pair j k.0 k.1)) ∙ u)

  -- a field was refused
  pub field_missed : (name : List ℕ) → NameRead old all s name now → (next : Listing) (buffers : Bool) (e : Error) → NoField name s buffers now next e → Missed (takes_map all.names all.kinds) true buffers old next.state e
  field_missed name r next buffers e (refused kind grows n u) = missed_more (λ _. refl) (read.part_missed old r.from (and_last (in_turn r.pairs) (scalar (string name))) now r.opened r.reads (takes_map all.names all.kinds) (Taken all.names all.kinds) (sorts all.names all.kinds) kind heads grows buffers next next.state e (n.refused r.turn) refl)
    where
      heads : (j : Item) (js : Items) → Taken all.names all.kinds (joined (and_last (in_turn r.pairs) (scalar (string name))) (more j js)) → IsTrue (kind j)
      heads j js t =
          let k = own_value r.pairs t.0 (scalar (string name)) j js t.1 in
          let v : IsTrue (takes_named all.names all.kinds (and_pairs r.pairs (under_name name j k.0))) = rw k.1 at t.2 in
          u j k.0 (sym (r.picked (under_name name j k.0)) ∙ v)
  field_missed name r next buffers e (unknown same calm absent) = rw same (read.not_taken old r.from (and_last (in_turn r.pairs) (scalar (string name))) now r.opened r.reads (takes_map all.names all.kinds) (Taken all.names all.kinds) (sorts all.names all.kinds) true buffers now.state e calm (λ _. refl) refl refl nobody)
    where
      nobody : (js : Items) → count js ≡ now.left → Taken all.names all.kinds (joined (and_last (in_turn r.pairs) (scalar (string name))) js) → ⊥
      nobody none c t = let k = r.turn in absurd (omega (arith, c, k))
      nobody (more j js) c t =
          let k = own_value r.pairs t.0 (scalar (string name)) j js t.1 in
          let v : IsTrue (takes_named all.names all.kinds (and_pairs r.pairs (under_name name j k.0))) = rw k.1 at t.2 in
          let a = absent j k.0 in
          let b = r.picked (under_name name j k.0) in
          cc

  -- a field is missing
  pub missing : StructRead old all s now → now.left ≡ 0 → all_read s ≡ false → (buffers : Bool) (last : Decoding) (e : Error) → (IsDevice e → ⊥) → last ≡ as_ended now.state → Missed (takes_map all.names all.kinds) true buffers old last e
  missing r z few buffers last e calm l = read.not_taken old r.from (in_turn r.pairs) now r.opened r.reads (takes_map all.names all.kinds) (Taken all.names all.kinds) (sorts all.names all.kinds) true buffers last e calm (λ _. refl) (ap (λ (d : Decoding). d.reading) l) (ap (λ (d : Decoding). d.begun) l) nobody
    where
      nobody : (js : Items) → count js ≡ now.left → Taken all.names all.kinds (joined (in_turn r.pairs) js) → ⊥
      nobody none c t =
          let k : t.0 ≡ r.pairs = one_turn t.0 r.pairs (t.1 ∙ read.join_none (in_turn r.pairs)) in
          let v : IsTrue (takes_named all.names all.kinds (and_pairs r.pairs no_pairs)) = rw (pairs_none r.pairs, ← k) t.2 in
          let b = r.picked no_pairs in
          cc
      nobody (more j js) c t = absurd (omega (arith, c, z))

  -- everything was read
  pub struct_found : StructRead old all s now → (vs : V) → HaveValues s vs → (last : Decoding) → now.left ≡ 0 → last ≡ behind_end now → Found (takes_map all.names all.kinds) (λ i. means_map all.names (all.meanings vs) i) old last
  struct_found r vs h last z l = read.parts_found old r.from (in_turn r.pairs) now r.opened r.reads (takes_map all.names all.kinds) (λ i. means_map all.names (all.meanings vs) i) meant last z l
    where
      full : IsTrue (takes_named all.names all.kinds r.pairs)
      full = ap (takes_named all.names all.kinds) (sym (pairs_none r.pairs)) ∙ (r.picked no_pairs ∙ h.full)

      values : means_named all.names (all.meanings vs) r.pairs
      values = subst (means_named all.names (all.meanings vs)) (pairs_none r.pairs) ((r.meant vs h.holds).1 no_pairs h.meant)

      meant : (i : Item) → HasPairs i (in_turn r.pairs) → IsTrue (takes_map all.names all.kinds i) × means_map all.names (all.meanings vs) i
      meant i p = let q = pairs_item all.names all.kinds r.pairs (means_named all.names (all.meanings vs)) full values i p in (q.0, means_pairs all.names (all.meanings vs) i q.1.0 q.1.1 q.1.2)
