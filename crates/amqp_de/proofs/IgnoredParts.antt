-- Parts of an item that are passed over, one after the other.
use Rattle.std.proofs.Common.{◌≡◌, Bool, true, ◌&&◌, IsTrue, refl}
use Rattle.amqp_base.specs.declared.error.Error.{Error}
use Rattle.amqp_base.specs.Item.{Item, scalar, list, map, array, described, Items, none, Pairs, no_pairs, pair, in_turn}
use Rattle.amqp_base.specs.Maps.{all_pairs_taken, is_map_of}
use Rattle.amqp_base.specs.Parse.{map_data}
use Rattle.amqp_base.specs.Refusing.{Refusing, PartsRefusing, turn_refusal, seq_refusal, map_refusal}
use Rattle.amqp_base.specs.Typing.{all_taken, is_seq_of}
use Rattle.amqp_data.specs.Parts.{HasElements, HasPairs}
use Rattle.amqp_de.specs.Access.{Listing, Opens, OpensExactly, Plain, behind_end}
use Rattle.amqp_de.specs.Decoding.{Decoding}
use Rattle.amqp_de.specs.Ignored.{anything, Passed, none_passed, one_passed, PassedNot}
use Rattle.amqp_de.specs.Law.{Found, Missed, Named}
use Rattle.amqp_de.specs.Openings.{OpensEither}
use Rattle.amqp_de.specs.ReadParts.{PartsRead, and_last}
use Rattle.amqp_de.proofs.NamedElements.{Reach, reach_start, reach_step, reach_named}
use Rattle.amqp_de.proofs.NamedPairs.{reaches_turn, part_of_map}
use Rattle.amqp_de.proofs.NamedParts.{Reaches, reaches_start}
use Rattle.amqp_de.proofs.PartsRead as read
use Rattle.amqp_de.proofs.PartsRead.{both, left_of, right_of}
use Rattle.amqp_de.proofs.Sequence.{taken_last, taken_behind, parts_of}

-- parts that were read, and are taken
pub record Went (takes : Item → Bool) (refuses : Refusing) (from now : Listing) : Type 0 where
  pub parts : Items
  pub reads : PartsRead from parts now
  pub taken : IsTrue (all_taken takes parts)
  pub reach : Reach takes refuses from now

module _ (takes : Item → Bool) (refuses : Refusing) {Has : Item → Items → Type 0} (old : Decoding) (from : Listing) (o : Opens Has old from) where
  pub went : (now : Listing) → Passed takes from now → Went takes refuses from now
  went now none_passed = record { parts = none; reads = read.parts_begun old from o; taken = refl; reach = reach_start takes refuses from }
  went now (one_passed mid next s p) =
      let r = went mid s in
      record {
        parts = and_last r.parts p.front.item;
        reads = read.parts_more from r.parts mid next r.reads p;
        taken = taken_last takes r.parts p.front.item r.taken p.front.taken;
        reach = reach_step takes refuses from mid next r.reads r.reach p;
      }

-- ---- a list or an array

elements_taken : (takes : Item → Bool) (is : Items) → IsTrue (all_taken takes is) → (i : Item) → HasElements i is → IsTrue (is_seq_of takes i) × anything i
elements_taken takes js t (list is) p = (rw p t, tt)
elements_taken takes js t (array is) p = (rw p t, tt)
elements_taken takes js t (scalar v) p = absurd p
elements_taken takes js t (map ps) p = absurd p
elements_taken takes js t (described d v) p = absurd p

module _ (takes : Item → Bool) (refuses : Refusing) (buffers : Bool) (old : Decoding) (from : Listing) (o : OpensEither old from) where
  pub elements_found : (now : Listing) (last : Decoding) → Passed takes from now → now.left ≡ 0 → last ≡ behind_end now → Found (is_seq_of takes) anything old last
  elements_found now last s z l = let w = went takes refuses old from o.1.opens now s in read.parts_found old from w.parts now o.1.opens w.reads (is_seq_of takes) anything (elements_taken takes w.parts w.taken) last z l

  pub elements_missed : (last : Listing) (e : Error) → PassedNot takes refuses buffers from last e → Missed (is_seq_of takes) true buffers old last.state e
  elements_missed last e n =
      let w = went takes refuses old from o.1.opens n.now n.passed in
      read.part_missed old from w.parts n.now o.1.opens w.reads (is_seq_of takes) (λ is. IsTrue (all_taken takes is)) (parts_of takes) takes (taken_behind takes w.parts) true buffers last last.state e n.refused refl

  pub elements_named : (last : Listing) (e : Error) → PassedNot takes refuses buffers from last e → Named (seq_refusal takes refuses) true buffers old last.state e
  elements_named last e n =
      let w = went takes refuses old from o.1.opens n.now n.passed in
      reach_named takes refuses buffers old last.state e from n.now last o w.reads w.reach (n.refused.some_left w.reads.not_ended) n.named refl

-- ---- a map

pairs_taken : (takes : Item → Bool) (ps : Pairs) → IsTrue (all_taken takes (in_turn ps)) → IsTrue (all_pairs_taken takes takes ps)
pairs_taken takes no_pairs t = refl
pairs_taken takes (pair k v ps) t =
    let more = right_of (takes k) _ t in
    both (takes k && takes v) _ (both (takes k) (takes v) (left_of (takes k) _ t) (left_of (takes v) _ more)) (pairs_taken takes ps (right_of (takes v) _ more))

parts_taken : (takes : Item → Bool) (ps : Pairs) → IsTrue (all_pairs_taken takes takes ps) → IsTrue (all_taken takes (in_turn ps))
parts_taken takes no_pairs t = refl
parts_taken takes (pair k v ps) t =
    let p = left_of (takes k && takes v) _ t in
    both (takes k) _ (left_of (takes k) (takes v) p) (both (takes v) _ (right_of (takes k) (takes v) p) (parts_taken takes ps (right_of (takes k && takes v) _ t)))

entries_taken : (takes : Item → Bool) (is : Items) → IsTrue (all_taken takes is) → (i : Item) → HasPairs i is → IsTrue (is_map_of takes takes i) × anything i
entries_taken takes js t (map ps) p = (pairs_taken takes ps (rw p t), tt)
entries_taken takes js t (list is) p = absurd p
entries_taken takes js t (array is) p = absurd p
entries_taken takes js t (scalar v) p = absurd p
entries_taken takes js t (described d v) p = absurd p

entries_of : (takes : Item → Bool) (i : Item) → IsTrue (is_map_of takes takes i) → (is : Items) × HasPairs i is × IsTrue (all_taken takes is)
entries_of takes (map ps) t = (in_turn ps, refl, parts_taken takes ps t)
entries_of takes (list is) t = absurd cc
entries_of takes (array is) t = absurd cc
entries_of takes (scalar v) t = absurd cc
entries_of takes (described d v) t = absurd cc

module _ (takes : Item → Bool) (refuses : Refusing) (buffers : Bool) (old : Decoding) (from : Listing) (o : Opens HasPairs old from) where
  abbrev Turns : PartsRefusing
  Turns = turn_refusal takes refuses takes refuses

  reaches : Plain from → (now : Listing) → Passed takes from now → Reaches Turns Turns from now
  reaches l now none_passed = reaches_start Turns from l
  reaches l now (one_passed mid next s p) = reaches_turn Turns takes refuses takes refuses from mid next (reaches l mid s) p

  pub entries_found : (now : Listing) (last : Decoding) → Passed takes from now → now.left ≡ 0 → last ≡ behind_end now → Found (is_map_of takes takes) anything old last
  entries_found now last s z l = let w = went takes refuses old from o now s in read.parts_found old from w.parts now o w.reads (is_map_of takes takes) anything (entries_taken takes w.parts w.taken) last z l

  pub entries_missed : (last : Listing) (e : Error) → PassedNot takes refuses buffers from last e → Missed (is_map_of takes takes) true buffers old last.state e
  entries_missed last e n =
      let w = went takes refuses old from o n.now n.passed in
      read.part_missed old from w.parts n.now o w.reads (is_map_of takes takes) (λ is. IsTrue (all_taken takes is)) (entries_of takes) takes (taken_behind takes w.parts) true buffers last last.state e n.refused refl

  pub entries_named : (last : Listing) (e : Error) → OpensExactly map_data old from → Plain from → PassedNot takes refuses buffers from last e → Named (map_refusal takes refuses takes refuses) true buffers old last.state e
  entries_named last e x l n =
      let w = went takes refuses old from o n.now n.passed in
      part_of_map takes refuses takes refuses buffers old last.state e from o x takes refuses takes refuses n.now last o w.reads (reaches l n.now n.passed) (n.refused.some_left w.reads.not_ended) refl n.named
