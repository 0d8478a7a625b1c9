-- Reading a map, key by key and value by value.
use Rattle.std.proofs.Common.{◌≡◌, ◌%◌, Bool, true, ◌&&◌, List, [], ◌∷◌, ◌++◌, Result, Ok, Err, IfOk, IfErr, refl, sym, ap, ◌∙◌, arith, IsTrue}
use Rattle.std.proofs.lemmas.List.Sums.{fold-append}
use Rattle.amqp_base.specs.declared.error.Error.{Error}
use Rattle.amqp_base.specs.declared.error.Error.TheVariants.{OutOfMemory}
use Rattle.amqp_base.specs.Item.{Item, scalar, list, map, array, described, Items, more, Pairs, no_pairs, pair, in_turn}
use Rattle.amqp_base.specs.Maps.{all_pairs_taken, is_map_of, all_pairs_mean, MeansPairs, means_map}
use Rattle.amqp_de.specs.Decoding.{Decoding, as_ended}
use Rattle.amqp_de.specs.Law.{Found, Missed}
use Rattle.amqp_base.specs.Parse.{map_data}
use Rattle.amqp_de.specs.Access.{Listing, Opens, OpensNot, Part, NoPart, AllRead, behind_end}
use Rattle.amqp_data.specs.Parts.{HasPairs}
use Rattle.amqp_de.specs.ReadParts.{and_last, joined}
use Rattle.amqp_de.specs.ReadPairs.{KeyNext, ValueNext, OutOfTurn, NextPair, NoEntry, no_key, no_value, and_pair, PairsRead, KeyRead, MorePair, NoMap}
use Rattle.amqp_de.proofs.Weaker.{found_as}
use Rattle.amqp_de.proofs.Turns.{and_pairs, pair_turn, one_turn, key_and_value, own_value}
use Rattle.amqp_de.proofs.PartsRead as read
use Rattle.amqp_de.proofs.PartsRead.{both, left_of, right_of, missed_more}

module _ (key value : Item → Bool) where
  taken_pair : (ps : Pairs) (k v : Item) → IsTrue (all_pairs_taken key value ps) → IsTrue (key k) → IsTrue (value v) → IsTrue (all_pairs_taken key value (and_pair ps k v))
  taken_pair no_pairs k v t p q = both _ _ (both _ _ p q) refl
  taken_pair (pair i j ps) k v t p q = both _ _ (left_of _ _ t) (taken_pair ps k v (right_of (key i && value j) _ t) p q)

  -- parts that are the keys and values of a map that is taken
  abbrev Taken : Items → Type 0
  Taken is = (ps : Pairs) × (in_turn ps ≡ is) × IsTrue (all_pairs_taken key value ps)

  sorts : (i : Item) → IsTrue (is_map_of key value i) → (is : Items) × HasPairs i is × Taken is
  sorts (map ps) t = (in_turn ps, refl, (ps, refl, t))
  sorts (list is) t = absurd cc
  sorts (array is) t = absurd cc
  sorts (scalar v) t = absurd cc
  sorts (described d v) t = absurd cc

  taken_behind : (qs : Pairs) (j v : Item) (ps : Pairs) → IsTrue (all_pairs_taken key value (and_pairs qs (pair j v ps))) → IsTrue (key j) × IsTrue (value v)
  taken_behind no_pairs j v ps t = let p = left_of (key j && value v) _ t in (left_of (key j) (value v) p, right_of (key j) (value v) p)
  taken_behind (pair k l qs) j v ps t = taken_behind qs j v ps (right_of (key k && value l) _ t)

  -- what stands behind pairs is a key
  key_behind : (qs ps : Pairs) (j : Item) (js : Items) → in_turn ps ≡ joined (in_turn qs) (more j js) → IsTrue (all_pairs_taken key value ps) → IsTrue (key j)
  key_behind qs ps j js e t = let k = key_and_value qs ps j js e in (taken_behind qs j k.0 k.1 (rw k.2 at t)).0

  -- what stands behind pairs and a key is a value
  value_behind : (qs ps : Pairs) (i j : Item) (js : Items) → in_turn ps ≡ joined (and_last (in_turn qs) i) (more j js) → IsTrue (all_pairs_taken key value ps) → IsTrue (value j)
  value_behind qs ps i j js e t = let k = own_value qs ps i j js e in (taken_behind qs i j k.0 (rw k.1 at t)).1

  -- an item of these pairs is taken
  pairs_item : (pairs : Pairs) → IsTrue (all_pairs_taken key value pairs) → (i : Item) → HasPairs i (in_turn pairs) → IsTrue (is_map_of key value i) × (i ≡ map pairs)
  pairs_item pairs t (map ps) p = let e = one_turn ps pairs p in (rw e t, ap map e)
  pairs_item pairs t (list is) p = absurd p
  pairs_item pairs t (array is) p = absurd p
  pairs_item pairs t (scalar v) p = absurd p
  pairs_item pairs t (described d v) p = absurd p

  -- ---- the steps

  pub pairs_start : (old : Decoding) (l : Listing) → Opens HasPairs old l → l.left % 2 ≡ 0 → PairsRead old key value no_pairs l
  pairs_start old l o even = record { from = l; opened = o; reads = read.parts_begun old l o; taken = refl; turn = even }

  pub map_unopened : {grows buffers : Bool} {old last : Decoding} {e : Error} → OpensNot HasPairs map_data grows buffers old last e → Missed (is_map_of key value) grows buffers old last e
  map_unopened o = read.unopened (is_map_of key value) Taken sorts o

  pub key_more : (old : Decoding) (pairs : Pairs) (now next : Listing) (s : PairsRead old key value pairs now) {means : Item → Type 0} → (p : Part key means now next) → KeyRead old key value pairs p.front.item next
  key_more old pairs now next s p = record {
    from = s.from;
    opened = s.opened;
    reads = read.parts_more s.from (in_turn pairs) now next s.reads p;
    taken = s.taken;
    key_taken = p.front.taken;
    turn = let t = s.turn in omega (arith, t, p.left);
  }

  pub value_more : (old : Decoding) (pairs : Pairs) (last : Item) (now next : Listing) (s : KeyRead old key value pairs last now) {means : Item → Type 0} → (p : Part value means now next) → PairsRead old key value (and_pair pairs last p.front.item) next
  value_more old pairs last now next s p = record {
    from = s.from;
    opened = s.opened;
    reads = rw (pair_turn pairs last p.front.item) (read.parts_more s.from (and_last (in_turn pairs) last) now next s.reads p);
    taken = taken_pair pairs last p.front.item s.taken s.key_taken p.front.taken;
    turn = let t = s.turn in omega (arith, t, p.left);
  }

  pub key_missed : (old : Decoding) (pairs : Pairs) (now next : Listing) (s : PairsRead old key value pairs now) (grows buffers : Bool) (e : Error) → OutOfTurn KeyNext key grows buffers now next e → Missed (is_map_of key value) grows buffers old next.state e
  key_missed old pairs now next s grows buffers e n = read.part_missed old s.from (in_turn pairs) now s.opened s.reads (is_map_of key value) Taken sorts key (λ j js t. key_behind pairs t.0 j js t.1 t.2) grows buffers next next.state e (n.refused s.turn) refl

  pub value_missed : (old : Decoding) (pairs : Pairs) (last : Item) (now next : Listing) (s : KeyRead old key value pairs last now) (grows buffers : Bool) (e : Error) → OutOfTurn ValueNext value grows buffers now next e → Missed (is_map_of key value) grows buffers old next.state e
  value_missed old pairs last now next s grows buffers e n = read.part_missed old s.from (and_last (in_turn pairs) last) now s.opened s.reads (is_map_of key value) Taken sorts value (λ j js t. value_behind pairs t.0 last j js t.1 t.2) grows buffers next next.state e (n.refused s.turn) refl

  -- no memory was there for a pair
  pub insert_missed : (old : Decoding) (pairs : Pairs) (now : Listing) → PairsRead old key value pairs now → (buffers : Bool) (last : Decoding) → last ≡ as_ended now.state → Missed (is_map_of key value) true buffers old last OutOfMemory
  insert_missed old pairs now s buffers last l = read.no_room old s.from (in_turn pairs) now s.opened s.reads (is_map_of key value) buffers last l

  -- everything was read
  pub pairs_found : (old : Decoding) (pairs : Pairs) (now : Listing) → PairsRead old key value pairs now → (last : Decoding) → now.left ≡ 0 → last ≡ behind_end now → Found (is_map_of key value) (λ i. i ≡ map pairs) old last
  pairs_found old pairs now s last z l = read.parts_found old s.from (in_turn pairs) now s.opened s.reads (is_map_of key value) (λ i. i ≡ map pairs) (pairs_item pairs s.taken) last z l

-- ---- the calls

pub pairs_opened : {A : Type 0} (old : Decoding) (r : Result A Error) (l : A → Listing) → IfOk r (λ o. Opens HasPairs old (l o)) → IfOk r (λ o. (l o).left % 2 ≡ 0) → IfOk r (λ o. (key value : Item → Bool) → PairsRead old key value no_pairs (l o))
pairs_opened old (Ok o) l p q = λ key value. pairs_start key value old (l o) p q
pairs_opened old (Err e) l p q = p

pub no_map : {A : Type 0} (buffers : Bool) (old last : Decoding) (r : Result A Error) → IfErr r (λ e. OpensNot HasPairs map_data buffers buffers old last e) → IfErr r (λ e. NoMap buffers old last e)
no_map buffers old last (Ok v) o = o
no_map buffers old last (Err e) o = record { not_opened = o; missed = λ key value. map_unopened key value o }

-- in turn, but refused
pub part_refused : (Turn : Listing → Type 0) (takes : Item → Bool) (grows buffers : Bool) (old new : Listing) (e : Error) → Turn old → NoPart takes grows buffers old new e → OutOfTurn Turn takes grows buffers old new e
part_refused Turn takes grows buffers old new e t n = record { if_ended = n.if_ended; other = λ no. absurd (no t); refused = λ _. n; ended = n.ended }

-- ---- what callers say of an access

module _ {old : Decoding} {key value : Item → Bool} {pairs : Pairs} {now : Listing} where
  -- a pair is the next two parts
  pub pair_read : {K V : Type 0} {km : Item → K → Type 0} {vm : Item → V → Type 0} {kg vg buffers : Bool} {next : Listing} {k : K} {v : V} → PairsRead old key value pairs now → NextPair key value km vm kg vg buffers now k v next
      → MorePair old key value pairs (λ i. km i k) (λ i. vm i v) next
  pair_read {next = next} s n =
      let p = n.key_read.0 in
      let q = n.value_read.0 in
      let a = key_more key value old pairs now n.between s p in
      record {
        key_item = p.front.item;
        value_item = q.front.item;
        key_meant = p.front.value;
        value_meant = q.front.value;
        more = value_more key value old pairs p.front.item n.between next a q;
      }

  -- one is refused
  pub pair_refused : {K : Type 0} {km : Item → K → Type 0} {kg vg buffers : Bool} {next : Listing} {e : Error} → PairsRead old key value pairs now → NoEntry key value km kg vg buffers now next e → Missed (is_map_of key value) true buffers old next.state e
  pair_refused {next = next} {e = e} s (no_key n) = missed_more (λ _. refl) (key_missed key value old pairs now next s _ _ e n)
  pair_refused {next = next} {e = e} s (no_value k mid p n) = missed_more (λ _. refl) (value_missed key value old pairs p.0.front.item mid next (key_more key value old pairs now mid s p.0) _ _ e n)

  -- none is left, and the end was answered
  pub pairs_end : {last : Decoding} {next : Listing} → PairsRead old key value pairs now → next ≡ now → AllRead next last → Found (is_map_of key value) (λ i. i ≡ map pairs) old last
  pairs_end {last = last} s same n = pairs_found key value old pairs now s last (rw same at n.left) (rw same at n.is)

-- ---- what the pairs mean

mean_pair : {K V : Type 0} (key : Item → K → Type 0) (value : Item → V → Type 0) (ps : Pairs) (rows : List (K × V)) (k v : Item) (x : K) (y : V) → all_pairs_mean key value ps rows → key k x → value v y → all_pairs_mean key value (and_pair ps k v) (rows ++ (x, y) ∷ [])
mean_pair key value no_pairs [] k v x y m p q = (p, (q, tt))
mean_pair key value no_pairs (r ∷ rows) k v x y m p q = absurd m
mean_pair key value (pair i j ps) [] k v x y m p q = absurd m
mean_pair key value (pair i j ps) (r ∷ rows) k v x y m p q = (m.0, (m.1.0, mean_pair key value ps rows k v x y m.1.1 p q))

module _ {K V : Type 0} (key : Item → K → Type 0) (value : Item → V → Type 0) (put : List (K × V) → K → V → List (K × V)) where
  pub means_none : MeansPairs key value put no_pairs []
  means_none = record { rows = []; mean = tt; placed = refl }

  pub means_more : (ps : Pairs) (entries : List (K × V)) (k v : Item) (x : K) (y : V) → MeansPairs key value put ps entries → key k x → value v y → MeansPairs key value put (and_pair ps k v) (put entries x y)
  means_more ps entries k v x y m p q = record {
    rows = m.rows ++ (x, y) ∷ [];
    mean = mean_pair key value ps m.rows k v x y m.mean p q;
    placed = ap (λ (z : List (K × V)). put z x y) m.placed ∙ sym (fold-append (λ (done : List (K × V)) (r : K × V). put done r.0 r.1) [] m.rows ((x, y) ∷ []));
  }

  -- Since `old` a map was opened, and the pairs that were read of it give these entries, put one after the other.
  pub record EntriesSoFar (old : Decoding) (key_taken value_taken : Item → Bool) (entries : List (K × V)) (now : Listing) : Type 0 where
    pub pairs : Pairs
    pub reads : PairsRead old key_taken value_taken pairs now
    pub meant : MeansPairs key value put pairs entries

  pub entries_start : (old : Decoding) (kt vt : Item → Bool) (entries : List (K × V)) (now : Listing) → PairsRead old kt vt no_pairs now → entries ≡ [] → EntriesSoFar old kt vt entries now
  entries_start old kt vt entries now s e = rw e record { pairs = no_pairs; reads = s; meant = means_none }

  pub entries_step : (old : Decoding) (kt vt : Item → Bool) (entries after : List (K × V)) (now next : Listing) (x : K) (y : V) (s : EntriesSoFar old kt vt entries now) → MorePair old kt vt s.pairs (λ i. key i x) (λ i. value i y) next → after ≡ put entries x y → EntriesSoFar old kt vt after next
  entries_step old kt vt entries after now next x y s m e = rw e record {
    pairs = and_pair s.pairs m.key_item m.value_item;
    reads = m.more;
    meant = means_more s.pairs entries m.key_item m.value_item x y s.meant m.key_meant m.value_meant;
  }

  -- the map that was read means its entries
  pub entries_found : (takes : Item → Bool) (ps : Pairs) (entries : List (K × V)) (old new : Decoding) → Found takes (λ i. i ≡ map ps) old new → MeansPairs key value put ps entries → Found takes (λ i. means_map key value put i entries) old new
  entries_found takes ps entries old new f m = found_as takes takes (λ i. i ≡ map ps) (λ i. means_map key value put i entries) old new (λ i t h. (t, rw h m)) f
