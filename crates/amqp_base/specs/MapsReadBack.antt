-- A map's own item is read as that map.
use Rattle.std.specs.Prelude.{◌≡◌, Bool, false, ◌&&◌, IsTrue, List, [], ◌∷◌, ◌++◌, fold, All}
use Rattle.std.proofs.Common.{refl, sym, ap, ◌∙◌, append_assoc, append-nil}
use Rattle.std.proofs.lemmas.List.Elements.{All-head, All-tail}
use Rattle.std.specs.BTreeMap.{insert_entry}
use Rattle.std.specs.Cmp.{IsTotalOrder}
use Rattle.std.specs.List.{AllByRecursion}
use Rattle.std.specs.List.Sorted.{IsStrictlySortedBy}
use Rattle.std.specs.Map.{keys_of}
use Rattle.std.specs.Ordering.{match_ordering, ordering_reverse}
use Rattle.std.specs.declared.cmp.Ordering.{Ordering}
use Rattle.std.specs.declared.cmp.Ordering.TheVariants.{Less, Greater}
use Rattle.amqp_base.specs.Item.{Item}
use Rattle.amqp_base.specs.Maps.{pair_items, all_pairs_taken, is_map_of, all_pairs_mean, put_in_turn, means_map, SoundEntries}
use Rattle.amqp_base.specs.ReadBack.{both}
use Rattle.amqp_base.specs.Shapes.{pairs_of, whole}
use Rattle.amqp_base.specs.Typing.{is_null}
use Rattle.amqp_base.specs.declared.shape.Shape.{Shape}

-- ---- keys and values that are read back

module _ {K V : Type 0} (key_item : K → Item) (value_item : V → Item) {key_sound : K → Type 0} {value_sound : V → Type 0} where
  pairs_taken_back : (takes_key takes_value : Item → Bool) → ((k : K) → key_sound k → IsTrue (takes_key (key_item k))) → ((v : V) → value_sound v → IsTrue (takes_value (value_item v)))
      → (es : List (K × V)) → All (λ e. key_sound e.0 × value_sound e.1) es → IsTrue (all_pairs_taken takes_key takes_value (pairs_of (pair_items key_item value_item es)))
  pairs_taken_back takes_key takes_value key value [] s = refl
  pairs_taken_back takes_key takes_value key value (e ∷ es) s =
      let one = All-head (λ e. key_sound e.0 × value_sound e.1) e es s in
      let rest = pairs_taken_back takes_key takes_value key value es (All-tail (λ e. key_sound e.0 × value_sound e.1) e es s) in
      both (takes_key (key_item e.0) && takes_value (value_item e.1)) (all_pairs_taken takes_key takes_value (pairs_of (pair_items key_item value_item es)))
      (both (takes_key (key_item e.0)) (takes_value (value_item e.1)) (key e.0 one.0) (value e.1 one.1)) rest

  pairs_read_back : (means_key : Item → K → Type 0) (means_value : Item → V → Type 0) → ((k : K) → key_sound k → means_key (key_item k) k) → ((v : V) → value_sound v → means_value (value_item v) v)
      → (es : List (K × V)) → All (λ e. key_sound e.0 × value_sound e.1) es → all_pairs_mean means_key means_value (pairs_of (pair_items key_item value_item es)) es
  pairs_read_back means_key means_value key value [] s = tt
  pairs_read_back means_key means_value key value (e ∷ es) s =
      let one = All-head (λ e. key_sound e.0 × value_sound e.1) e es s in
      (key e.0 one.0, (value e.1 one.1, pairs_read_back means_key means_value key value es (All-tail (λ e. key_sound e.0 × value_sound e.1) e es s)))

  -- the item is taken
  pub map_taken_back : (takes_key takes_value : Item → Bool) → ((k : K) → key_sound k → IsTrue (takes_key (key_item k))) → ((v : V) → value_sound v → IsTrue (takes_value (value_item v)))
      → (distinct : List K → Type 0) (es : List (K × V)) → SoundEntries distinct key_sound value_sound es → IsTrue (is_map_of takes_key takes_value (whole Shape.Map (pair_items key_item value_item es)))
  unfolding whole
  map_taken_back takes_key takes_value key value distinct es s = pairs_taken_back takes_key takes_value key value es s.sound

  -- and means the entries, where putting them in turn gives them
  pub map_read_back : (means_key : Item → K → Type 0) (means_value : Item → V → Type 0) → ((k : K) → key_sound k → means_key (key_item k) k) → ((v : V) → value_sound v → means_value (value_item v) v)
      → (put : List (K × V) → K → V → List (K × V)) (distinct : List K → Type 0) → ((es : List (K × V)) → distinct (keys_of es) → put_in_turn put es ≡ es)
      → (es : List (K × V)) → SoundEntries distinct key_sound value_sound es → means_map means_key means_value put (whole Shape.Map (pair_items key_item value_item es)) es
  unfolding whole
  map_read_back means_key means_value key value put distinct again es s = record {
    rows = es;
    mean = pairs_read_back means_key means_value key value es s.sound;
    placed = sym (again es s.differ);
  }

-- a map isn't null
pub map_not_null : (is : List Item) → is_null (whole Shape.Map is) ≡ false
unfolding whole
map_not_null is = refl

-- ---- pairs that each go last

-- each of the pairs goes behind those before it
abbrev pub EachBehind : {K V : Type 0} → (K → K → Type 0) → List (K × V) → Type 0
EachBehind behind [] = Unit {0}
EachBehind behind (r ∷ rows) = AllByRecursion (λ q. behind q.0 r.0) rows × EachBehind behind rows

module _ {K V : Type 0} (behind : K → K → Type 0) where
  more_behind : (q r : K × V) (done : List (K × V)) → behind q.0 r.0 → AllByRecursion (λ e. behind q.0 e.0) done → AllByRecursion (λ e. behind q.0 e.0) (done ++ r ∷ [])
  more_behind q r [] last h = (last, tt)
  more_behind q r (e ∷ done) last h = (h.0, more_behind q r done last h.1)

  all_behind : (r : K × V) (done rows : List (K × V)) → AllByRecursion (λ q. behind q.0 r.0) rows → AllByRecursion (λ q. AllByRecursion (λ e. behind q.0 e.0) done) rows
      → AllByRecursion (λ q. AllByRecursion (λ e. behind q.0 e.0) (done ++ r ∷ [])) rows
  all_behind r done [] last h = tt
  all_behind r done (q ∷ rows) last h = (more_behind q r done last.0 h.0, all_behind r done rows last.1 h.1)

  none_yet : (rows : List (K × V)) → AllByRecursion (λ q. AllByRecursion (λ (e : K × V). behind q.0 e.0) []) rows
  none_yet [] = tt
  none_yet (q ∷ rows) = (tt, none_yet rows)

  module _ (put : List (K × V) → K → V → List (K × V)) (goes_last : (done : List (K × V)) (k : K) (v : V) → AllByRecursion (λ e. behind k e.0) done → put done k v ≡ done ++ (k, v) ∷ []) where
    put_behind : (rows done : List (K × V)) → EachBehind behind rows → AllByRecursion (λ q. AllByRecursion (λ e. behind q.0 e.0) done) rows → fold (λ d r. put d r.0 r.1) done rows ≡ done ++ rows
    put_behind [] done each h = sym (append-nil done)
    put_behind (r ∷ rows) done each h =
        ap (λ d. fold (λ d r. put d r.0 r.1) d rows) (goes_last done r.0 r.1 h.0)
        ∙ (put_behind rows (done ++ r ∷ []) each.1 (all_behind r done rows each.0 h.1) ∙ append_assoc done (r ∷ []) rows)

    -- putting them in turn gives them
    pub put_again : (rows : List (K × V)) → EachBehind behind rows → put_in_turn put rows ≡ rows
    put_again rows each = put_behind rows [] each (none_yet rows)

-- ---- ascending keys

module _ {K V : Type 0} (cmp : K → K → Ordering) (order : IsTotalOrder cmp) where
  above_is_last : (done : List (K × V)) (k : K) (v : V) → AllByRecursion (λ e. cmp k e.0 ≡ Greater) done → insert_entry cmp done k v ≡ done ++ (k, v) ∷ []
  above_is_last [] k v h = refl
  above_is_last (e ∷ done) k v h = ap (λ r. match_ordering r ((k, v) ∷ e ∷ done) ((e.0, v) ∷ done) (e ∷ insert_entry cmp done k v)) h.0 ∙ ap (λ t. e ∷ t) (above_is_last done k v h.1)

  above : (r : K × V) (rows : List (K × V)) → AllByRecursion (λ y. cmp r.0 y ≡ Less) (keys_of rows) → AllByRecursion (λ q. cmp q.0 r.0 ≡ Greater) rows
  above r [] h = tt
  above r (q ∷ rows) h = (order.antisymm q.0 r.0 ∙ ap ordering_reverse h.0, above r rows h.1)

  each_above : (rows : List (K × V)) → IsStrictlySortedBy cmp (keys_of rows) → EachBehind (λ q r. cmp q r ≡ Greater) rows
  unfolding IsStrictlySortedBy
  each_above [] h = tt
  each_above (r ∷ rows) h = (above r rows h.0, each_above rows h.1)

  pub ascending_again : (es : List (K × V)) → IsStrictlySortedBy cmp (keys_of es) → put_in_turn (insert_entry cmp) es ≡ es
  ascending_again es h = put_again (λ q r. cmp q r ≡ Greater) (insert_entry cmp) above_is_last es (each_above es h)
