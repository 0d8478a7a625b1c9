-- Reading a list or an array of elements of one type.
use Rattle.std.proofs.Common.{◌≡◌, Bool, true, List, [], ◌∷◌, ◌++◌, Err, refl, IsTrue}
use Rattle.amqp_base.specs.declared.error.Error.{Error}
use Rattle.amqp_base.specs.declared.error.Error.TheVariants.{OutOfMemory}
use Rattle.amqp_base.specs.Item.{Item, scalar, list, map, array, described, Items, none, more}
use Rattle.amqp_base.specs.Typing.{all_taken, all_mean, is_seq_of, means_seq}
use Rattle.amqp_de.specs.Decoding.{Decoding, as_ended}
use Rattle.amqp_de.specs.Law.{Found, Missed}
use Rattle.amqp_base.specs.Parse.{seq_data}
use Rattle.amqp_base.specs.Refusals.{StandsFor}
use Rattle.amqp_de.specs.Access.{Listing, Opens, OpensNot, Part, NoPart, Ends, behind_end}
use Rattle.amqp_data.specs.Parts.{HasElements}
use Rattle.amqp_de.specs.ReadParts.{PartsRead, RefusesElements, and_last, joined}
use Rattle.amqp_de.proofs.PartsRead as read
use Rattle.amqp_de.proofs.PartsRead.{both, left_of, right_of}

pub taken_last : (takes : Item → Bool) (is : Items) (i : Item) → IsTrue (all_taken takes is) → IsTrue (takes i) → IsTrue (all_taken takes (and_last is i))
taken_last takes none i t u = both _ _ u refl
taken_last takes (more j is) i t u = both _ _ (left_of _ _ t) (taken_last takes is i (right_of _ _ t) u)

mean_last : {T : Type 0} (means : Item → T → Type 0) (is : Items) (vs : List T) (i : Item) (v : T) → all_mean means is vs → means i v → all_mean means (and_last is i) (vs ++ v ∷ [])
mean_last means none [] i v t u = (u, tt)
mean_last means none (w ∷ vs) i v t u = absurd t
mean_last means (more j is) [] i v t u = absurd t
mean_last means (more j is) (w ∷ vs) i v t u = (t.0, mean_last means is vs i v t.1 u)

-- a part behind others is taken
pub taken_behind : (takes : Item → Bool) (is : Items) (j : Item) (js : Items) → IsTrue (all_taken takes (joined is (more j js))) → IsTrue (takes j)
taken_behind takes none j js t = left_of _ _ t
taken_behind takes (more i is) j js t = taken_behind takes is j js (right_of _ _ t)

module _ {T : Type 0} (takes : Item → Bool) (means : Item → T → Type 0) (from : Listing) where
  -- the parts that were read so far are taken, and mean these values
  pub record Sofar (now : Listing) (vs : List T) : Type 0 where
    pub parts : Items
    pub reads : PartsRead from parts now
    pub taken : IsTrue (all_taken takes parts)
    pub meant : all_mean means parts vs

  pub sofar_start : (old : Decoding) (vs : List T) → Opens HasElements old from → vs ≡ [] → Sofar from vs
  sofar_start old vs o e = rw e record { parts = none; reads = read.parts_begun old from o; taken = refl; meant = tt }

  pub sofar_step : (now next : Listing) (vs : List T) (v : T) → Sofar now vs → Part takes (λ i. means i v) now next → Sofar next (vs ++ v ∷ [])
  sofar_step now next vs v s p = record {
    parts = and_last s.parts p.front.item;
    reads = read.parts_more from s.parts now next s.reads p;
    taken = taken_last takes s.parts p.front.item s.taken p.front.taken;
    meant = mean_last means s.parts vs p.front.item v s.meant p.front.value;
  }

-- ---- the whole

pub parts_of : (takes : Item → Bool) (i : Item) → IsTrue (is_seq_of takes i) → (is : Items) × HasElements i is × IsTrue (all_taken takes is)
parts_of takes (list is) t = (is, refl, t)
parts_of takes (array is) t = (is, refl, t)
parts_of takes (scalar v) t = absurd cc
parts_of takes (map ps) t = absurd cc
parts_of takes (described d v) t = absurd cc

meant_of : {T : Type 0} (takes : Item → Bool) (means : Item → T → Type 0) (is : Items) (vs : List T) → IsTrue (all_taken takes is) → all_mean means is vs → (i : Item) → HasElements i is → IsTrue (is_seq_of takes i) × means_seq means i vs
meant_of takes means js vs t m (list is) p = (rw p t, rw p m)
meant_of takes means js vs t m (array is) p = (rw p t, rw p m)
meant_of takes means js vs t m (scalar v) p = absurd p
meant_of takes means js vs t m (map ps) p = absurd p
meant_of takes means js vs t m (described d v) p = absurd p

-- no list and no array was opened
pub elements_unopened : (buffers : Bool) (old last : Decoding) (e : Error) → ((custom : Error) → StandsFor custom e → OpensNot HasElements (seq_data custom) true buffers old last e) → RefusesElements buffers old last e
elements_unopened buffers old last e o = record { not_opened = o; missed = λ takes. read.unopened (is_seq_of takes) (λ is. IsTrue (all_taken takes is)) (parts_of takes) (o e (λ _. refl)) }

module _ {T : Type 0} (takes : Item → Bool) (means : Item → T → Type 0) (buffers : Bool) (old : Decoding) (from now : Listing) (vs : List T) (o : Opens HasElements old from) (s : Sofar takes means from now vs) where
  -- a part was refused
  pub part_missed : (grows : Bool) (next : Listing) (e : Error) → NoPart takes grows buffers now next e → Missed (is_seq_of takes) true buffers old next.state e
  part_missed grows next e n = read.missed_more (λ _. refl) (read.part_missed old from s.parts now o s.reads (is_seq_of takes) (λ is. IsTrue (all_taken takes is)) (parts_of takes) takes (taken_behind takes s.parts) grows buffers next next.state e n refl)

  -- no memory was there for a part
  pub push_missed : (last : Decoding) → last ≡ as_ended now.state → Missed (is_seq_of takes) true buffers old last OutOfMemory
  push_missed last l = read.no_room old from s.parts now o s.reads (is_seq_of takes) buffers last l

  -- everything was read
  pub seq_found : (ws : List T) (last : Decoding) → ws ≡ vs → now.left ≡ 0 → last ≡ behind_end now → Found (is_seq_of takes) (λ i. means_seq means i ws) old last
  seq_found ws last e z l = rw e (read.parts_found old from s.parts now o s.reads (is_seq_of takes) (λ i. means_seq means i vs) (meant_of takes means s.parts vs s.taken s.meant) last z l)

  -- the end was refused: it isn't, as all was read
  pub end_missed : (last : Decoding) (e : Error) → now.left ≡ 0 → Ends now (Err e) last → Missed (is_seq_of takes) true buffers old last e
  end_missed last e z n = absurd ((read.end_refused old from s.parts now o s.reads last e n).0 z)
