-- Bytes that were received ahead of the parts that they are, as if they had been received with these.
use Rattle.std.proofs.Common.{◌≡◌, ℕ, suc, ◌+◌, ◌*◌, ◌<◌, ◌≤◌, max, Bool, true, false, List, [], ◌∷◌, ◌++◌, length, take, drop, Option, Some, None, refl, sym, ap, subst, ◌∙◌, arith, inl, inr, ◌⊎◌, IsTrue, zero}
use Rattle.std.proofs.lemmas.List.{length-append, length-drop, take_all}
use Rattle.std.proofs.Math.Nat.{suc-mul, mul-le-mul_left}
use Rattle.std.specs.Io.KnownBytes.{Consumes, Keeps}
use Rattle.amqp_base.specs.declared.error.Error.{Error}
use Rattle.amqp_base.specs.declared.error.Error.TheVariants.{OutOfMemory}
use Rattle.amqp_base.specs.declared.format_code.EncodingCodes.{EncodingCodes}
use Rattle.amqp_base.specs.declared.format_code.EncodingCodes.TheVariants.{DescribedType, Int, SmallInt, Str8, Str32}
use Rattle.amqp_base.proofs.CodeAgain.{code_again}
use Rattle.amqp_base.specs.declared.format_code.Category.{Category}
use Rattle.amqp_base.specs.Codes.{Kind, row, code_of}
use Rattle.amqp_base.specs.Faults.{IsFault}
use Rattle.amqp_base.specs.Item.{Item, Descriptor, scalar}
use Rattle.amqp_base.specs.Meaning.{Meaning}
use Rattle.amqp_base.specs.Refusals.{IsDevice}
use Rattle.amqp_base.specs.Typing.{is_of}
use Rattle.amqp_base.specs.Refusing.{Refusing}
use Rattle.amqp_base.specs.Wire.{Constructor, bare, under, under_pair, Wire, lenient, of_code, of_described, of_data, of_pair, Data, of_fixed, of_variable, fixed, variable, list0, of_list, of_map, of_array, empty_array}
use Rattle.amqp_read.specs.Reading.{Reading, Agree, Stays, Takes}
use Rattle.amqp_read.specs.Steps.{Looked, Fails}
use Rattle.amqp_data.specs.Excuses.{Overfull, Excused, no_memory, faulted, uncounted}
use Rattle.amqp_data.specs.Places.{own_width}
use Rattle.amqp_data.proofs.Data.{kind_under}
use Rattle.amqp_data.proofs.Readings.{stays_same, steady_then, stayed, advances_then}
use Rattle.amqp_data.proofs.Received.{agree_front, keeps_known}
use Rattle.amqp_de.specs.Access.{Listing, Part, NoPart, PartNamed, PassesEnd}
use Rattle.amqp_de.specs.Ahead.{Ahead, AheadFails, AtLeast, behind_code, first_least, least_left, parts_least, reading_on}
use Rattle.amqp_de.specs.Decoding.{Decoding, stands_under, behind_descriptor, as_ended}
use Rattle.amqp_de.specs.Law.{Missed}
use Rattle.amqp_de.specs.Many.{AreRead}
use Rattle.amqp_de.specs.ReadParts.{PartsRead}
use Rattle.amqp_de.proofs.Answered.{of_kind_is}
use Rattle.amqp_de.proofs.Sequence.{Sofar}

-- ---- how many bytes an item takes at least

data_least : {e : EncodingCodes} {k : Kind} {c : Category} {b : List ℕ} {i : Item} → Data lenient e k c b i → own_width c ≤ length b
data_least (of_fixed (fixed l p)) = omega (arith, l)
data_least (of_variable (variable l b h n p)) = omega (arith, h, length-append l b)
data_least list0 = omega arith
data_least (of_list z k b lz lk nk h f) = omega (arith, lz, length-append z (k ++ b))
data_least (of_map z k b lz lk nk h f) = omega (arith, lz, length-append z (k ++ b))
data_least (of_array z k m b lz lk nk g h f) = omega (arith, lz, length-append z (k ++ (m ++ b)))
data_least (empty_array z k b lz lk nk f) = omega (arith, lz, length-append z (k ++ b))

code_least : (e : EncodingCodes) (t : List ℕ) (i : Item) → Wire lenient (under e) t i → own_width (row e).category ≤ length t
code_least e t i (of_data h) = data_least h

pair_least : (x : Descriptor) (e : EncodingCodes) (described : Bool) (t : List ℕ) (i : Item) → Wire lenient (behind_descriptor (under_pair x e) described) t i → own_width (row e).category ≤ length t
pair_least x e true t i w = code_least e t i w
pair_least x e false t i (of_pair w) = code_least e t _ w

-- so many bytes fewer are left for the others
least_on : (l m w n : ℕ) → l ≡ suc m → w ≤ n → l * w ≤ n + m * w
least_on l m w n h k = rw (h, suc-mul m w) (omega (arith, k))

-- an item is at least as long as its first byte says
text_least : (t : List ℕ) (i : Item) → Wire lenient bare t i → first_least t ≤ length t
unfolding row code_of
text_least t i (of_code {x} {e} {b} p h) = let least = code_least e b i h in rw p (omega (arith, least))
text_least t i (of_described a b g h) = omega arith

none_behind : (x : ℕ) → own_width (row DescribedType).category ≤ x
unfolding row
none_behind x = omega arith

-- what a byte's code says, found by its code
pub behind_again : (b : ℕ) (e : EncodingCodes) → (row e).byte ≡ b → own_width (row e).category ≤ behind_code (code_of b)
behind_again b e h = elim (code_again e) [
  | inl same ↦ rw (sym h, same) (omega arith)
  | inr d ↦ rw d (none_behind _)
]

-- and as the first of its bytes says that were received
first_received : (s t : List ℕ) → Agree s t → 1 ≤ length t → first_least s ≤ first_least t
first_received [] [] h n = absurd (omega (arith, n))
first_received [] (y ∷ t) h n = omega arith
first_received (x ∷ s) [] h n = absurd (omega (arith, n))
first_received (x ∷ s) (y ∷ t) h n = rw h.0 (omega arith)

first_some : (s : List ℕ) → 1 ≤ first_least s
first_some [] = omega arith
first_some (x ∷ s) = omega arith

-- so many bytes fewer are left for the others, whichever of theirs were received
others_least : (n m : ℕ) (s : List ℕ) → m * n ≤ parts_least n m bare s
others_least n zero s = omega arith
others_least n (suc m) s = rw (suc-mul m n) (omega arith)

part_least : (takes : Item → Bool) (n m : ℕ) (c : Constructor) (described : Bool) (s t rest : List ℕ) (i : Item) → AtLeast takes n → Wire lenient (behind_descriptor c described) t i → IsTrue (takes i) → Agree s t →
    parts_least n (suc m) c s ≤ length t + parts_least n m c rest
part_least takes n m bare d s t rest i wide w q h =
    let text = text_least t i w in let some = first_some t in let first = first_received s t h (omega (arith, some, text)) in let least = wide t i w q in let others = others_least n m rest in omega (arith, first, text, least, others)
part_least takes n zero (under e) d s t rest i wide w q h = let least = code_least e t i w in omega (arith, least)
part_least takes n (suc m) (under e) d s t rest i wide w q h = let least = code_least e t i w in least_on (suc (suc m)) (suc m) _ (length t) refl least
part_least takes n zero (under_pair x e) d s t rest i wide w q h = let least = pair_least x e d t i w in omega (arith, least)
part_least takes n (suc m) (under_pair x e) d s t rest i wide w q h = let least = pair_least x e d t i w in least_on (suc (suc m)) (suc m) _ (length t) refl least

-- ---- how many bytes an item of a type takes at least

pub some_byte : (takes : Item → Bool) → AtLeast takes 1
some_byte takes t i w q = let text = text_least t i w in let some = first_some t in omega (arith, some, text)

-- where each code of a kind has data
kind_least : (k : Kind) → ((e : EncodingCodes) → (row e).kind ≡ k → 1 ≤ own_width (row e).category) → AtLeast (is_of k) 2
kind_least k have t i (of_code {x} {e} {b} p h) q =
    let v = of_kind_is k i q in
    let w : Wire lenient (under e) b (scalar v.0) = subst (λ (x : Item). Wire lenient (under e) b x) v.1 h in
    let one = have e (kind_under w ∙ v.2) in
    let behind = code_least e b i h in
    omega (arith, one, behind)
kind_least k have t i (of_described a b g h) q = absurd cc

have_length : (e : EncodingCodes) → (row e).kind ≡ Kind.string → 1 ≤ own_width (row e).category
unfolding row
have_length Str8 h = omega arith
have_length Str32 h = omega arith
have_length _ h = absurd cc

have_digits : (e : EncodingCodes) → (row e).kind ≡ Kind.int → 1 ≤ own_width (row e).category
unfolding row
have_digits Int h = omega arith
have_digits SmallInt h = omega arith
have_digits _ h = absurd cc

pub string_least : AtLeast (is_of Kind.string) 2
string_least = kind_least Kind.string have_length

pub int_least : AtLeast (is_of Kind.int) 2
int_least = kind_least Kind.int have_digits

-- ---- readers

keeps_same : (k : Option (List ℕ)) → Keeps k k
keeps_same None = tt
keeps_same (Some s) = refl

keeps_then : (a b c : Option (List ℕ)) → Keeps a b → Keeps b c → Keeps a c
keeps_then None b c p q = tt
keeps_then (Some x) None c p q = absurd p
keeps_then (Some x) (Some y) None p q = absurd q
keeps_then (Some x) (Some y) (Some z) p q = q ∙ p

keeps_consumes : (a b c : Option (List ℕ)) (x : List ℕ) → Keeps a b → Consumes b c x → Consumes a c x
keeps_consumes None b c x p q = tt
keeps_consumes (Some s) None c x p q = absurd p
keeps_consumes (Some s) (Some t) None x p q = absurd q
keeps_consumes (Some s) (Some t) (Some u) x p q = sym p ∙ q

consumes_keeps : (a b c : Option (List ℕ)) (x : List ℕ) → Consumes a b x → Keeps b c → Consumes a c x
consumes_keeps None b c x p q = tt
consumes_keeps (Some s) None c x p q = absurd p
consumes_keeps (Some s) (Some t) None x p q = absurd q
consumes_keeps (Some s) (Some t) (Some u) x p q = p ∙ ap (λ z. x ++ z) (sym q)

front_left : (n : ℕ) (s t : List ℕ) → take (length s) t ≡ s → take (length (drop n s)) (drop n t) ≡ drop n s
front_left zero s t h = h
front_left (suc n) [] t h = refl
front_left (suc n) (x ∷ s) [] h = absurd cc
front_left (suc n) (x ∷ s) (y ∷ t) h = let q : take (length s) t ≡ s = cc in front_left n s t q

front_then : (x y z : List ℕ) → take (length x) y ≡ x → take (length y) z ≡ y → take (length x) z ≡ x
front_then [] y z h k = refl
front_then (a ∷ x) [] z h k = absurd cc
front_then (a ∷ x) (b ∷ y) [] h k = absurd cc
front_then (a ∷ x) (b ∷ y) (c ∷ z) h k =
    let p : take (length x) y ≡ x = cc in
    let q : take (length y) z ≡ y = cc in
    let r : c ≡ a = cc in
    rw (r, front_then x y z p q) refl

looked_then : (n : ℕ) (a b c : Reading) → Looked n a b → Looked n b c → Looked n a c
looked_then n a b c p q = record {
  stays = record {
    to_come = keeps_then a.to_come b.to_come c.to_come p.stays.to_come q.stays.to_come;
    taken = q.stays.taken ∙ p.stays.taken;
    received = front_then a.received b.received c.received p.stays.received q.stays.received;
    steady = steady_then a b c p.stays.steady q.stays.steady;
  };
  received = omega (arith, p.received, q.received);
}

-- where the same bytes were consumed, but none was received ahead
abbrev behind_it : Reading → Reading → List ℕ → Reading
behind_it v r t = record { to_come = r.to_come; taken = r.taken; received = drop (length t) v.received; faults = r.faults; last_fault = r.last_fault; honest = r.honest; origin = r.origin }

takes_behind : (n : ℕ) (v r new : Reading) (t : List ℕ) → Looked n v r → Takes r new t → Takes v (behind_it v new t) t
takes_behind n v r new t l k =
    let s = steady_then v r new l.stays.steady k.steady in
    record {
      to_come = keeps_consumes v.to_come r.to_come new.to_come t l.stays.to_come k.to_come;
      taken = omega (arith, k.taken, l.stays.taken);
      received = refl;
      agrees = agree_front v.received r.received t l.stays.received k.agrees;
      steady = record { honest = s.honest; origin = s.origin; faults = s.faults; taken = s.taken };
    }

looked_behind : (n m : ℕ) (v r new : Reading) (t : List ℕ) → Looked n v r → Takes r new t → n ≤ length t + m → Looked m (behind_it v new t) new
looked_behind n m v r new t l k h = record {
  stays = record {
    to_come = keeps_same new.to_come;
    taken = refl;
    received = rw k.received (front_left (length t) v.received r.received l.stays.received);
    steady = record { honest = refl; origin = refl; faults = omega arith; taken = omega arith };
  };
  received = rw k.received (omega (arith, l.received, h, length-drop (length t) v.received, length-drop (length t) r.received));
}

overfull_kept : (m n : ℕ) (k l : Option (List ℕ)) → Keeps k l → n ≡ m → Overfull n l → Overfull m k
overfull_kept m n None l p e o = tt
overfull_kept m n (Some s) None p e o = absurd p
overfull_kept m n (Some s) (Some t) p e o = omega (arith, o, e, ap (λ (z : List ℕ). length z) p)

excused_kept : {grows buffers : Bool} (v r new : Reading) (e : Error) → Stays v r → Excused grows buffers r new e → Excused grows buffers v new e
excused_kept v r new e s (no_memory p q) = no_memory p q
excused_kept v r new e s (faulted i p q) = faulted i (let f = s.steady.faults in omega (arith, f, p)) q
excused_kept v r new e s (uncounted p q o) = uncounted p q (overfull_kept v.taken r.taken v.to_come r.to_come s.to_come s.taken o)

-- ---- parts

pub ahead_part : {takes : Item → Bool} {means : Item → Type 0} (v r new : Listing) → Ahead takes v r → Part takes means r new → (to : Listing) × Part takes means v to × Ahead takes to new
ahead_part {takes} {means} v r new a part =
    let p : Part takes means (reading_on v r.state.reading) new = subst (λ (l : Listing). Part takes means l new) a.is part in
    let text = p.front.text in
    let to = reading_on new (behind_it v.state.reading new.state.reading text) in
    let received = r.state.reading.received in
    let least = part_least takes a.width new.left v.state.inherited v.state.described received text new.state.reading.received p.front.item a.wide p.front.spelled p.front.taken p.front.step.agrees in
    let fewer : least_left a.width v received ≤ length text + least_left a.width to new.state.reading.received = rw (p.left, p.front.inherited) least in (
      to,
      record {
        front = record {
          item = p.front.item;
          text = text;
          spelled = p.front.spelled;
          taken = p.front.taken;
          value = p.front.value;
          step = takes_behind (least_left a.width v received) v.state.reading r.state.reading new.state.reading text a.looked p.front.step;
          not_ended = p.front.not_ended;
          inherited = p.front.inherited;
          described = p.front.described;
          begun = p.front.begun;
        };
        within = p.within;
        spent = record { most = omega (arith, p.spent.most, a.looked.stays.taken) };
        left = p.left;
        outer = p.outer;
        limit = p.limit;
      },
      record {
        width = a.width;
        wide = a.wide;
        looked = looked_behind (least_left a.width v received) (least_left a.width to new.state.reading.received) v.state.reading r.state.reading new.state.reading text a.looked p.front.step fewer;
        is = refl;
      },
    )

pub ahead_many : {T : Type 0} (m : Meaning T) (v r new : Listing) (vs : List T) → Ahead m.takes v r → AreRead m r vs new → (to : Listing) × AreRead m v vs to × Ahead m.takes to new
ahead_many m v r new [] a h = (v, refl, subst (λ (l : Listing). Ahead m.takes v l) (sym h) a)
ahead_many m v r new (x ∷ vs) a h =
    let k = ahead_part v r h.0 a h.1 in
    let o = ahead_many m k.0 h.0 new vs k.2 h.2 in
    (o.0, (k.0, k.1, o.1), o.2)

-- no more parts are left
pub many_left : {T : Type 0} (m : Meaning T) (old new : Listing) (vs : List T) → AreRead m old vs new → new.left ≤ old.left
many_left m old new [] h = rw h (omega arith)
many_left m old new (x ∷ vs) h = let p = h.1.left in let r = many_left m h.0 new vs h.2 in omega (arith, p, r)

pub ahead_left : {takes : Item → Bool} (v r : Listing) → Ahead takes v r → r.left ≡ v.left
ahead_left v r a = ap (λ (l : Listing). l.left) a.is

pub ahead_start : {takes : Item → Bool} (l : Listing) → Ahead takes l l
ahead_start {takes} l = record { width = 1; wide = some_byte takes; looked = record { stays = stays_same l.state.reading; received = omega arith }; is = refl }

-- the more of them were received, the more are known to be left
first_grown : (s t : List ℕ) → take (length s) t ≡ s → first_least s ≤ first_least t
first_grown [] t h = first_some t
first_grown (x ∷ s) [] h = absurd cc
first_grown (x ∷ s) (y ∷ t) h = let same : y ≡ x = cc in rw same (omega arith)

least_grown : (k n m : ℕ) (c : Constructor) (s t : List ℕ) → k ≤ n → take (length s) t ≡ s → parts_least k m c s ≤ parts_least n m c t
least_grown k n zero c s t g h = omega arith
least_grown k n (suc m) bare s t g h = let first = first_grown s t h in let others = mul-le-mul_left m g in omega (arith, g, first, others)
least_grown k n (suc m) (under e) s t g h = omega arith
least_grown k n (suc m) (under_pair d e) s t g h = omega arith

-- the more of two numbers of bytes
both_least : {takes : Item → Bool} (k n : ℕ) → AtLeast takes k → AtLeast takes n → AtLeast takes (max k n)
both_least k n p q t i w taken = let a = p t i w taken in let b = q t i w taken in omega (arith, a, b)

looked_wider : {n m : ℕ} {a b : Reading} → n ≤ m → Looked n a b → Looked m a b
looked_wider h l = record { stays = l.stays; received = omega (arith, l.received, h) }

pub ahead_more : {takes : Item → Bool} (v r new : Listing) → Ahead takes v r → Ahead takes r new → Ahead takes v new
ahead_more v r new a b =
    let known = new.state.reading.received in
    let width = max a.width b.width in
    let same : least_left b.width r known ≡ least_left b.width v known = ap (λ (l : Listing). least_left b.width l known) a.is in
    let grown = least_grown a.width width v.left v.state.inherited r.state.reading.received known (omega arith) b.looked.stays.received in
    let wider = least_grown b.width width v.left v.state.inherited known known (omega arith) (take_all (length known) known (omega arith)) in
    record {
      width = width;
      wide = both_least a.width b.width a.wide b.wide;
      looked = looked_then (least_left width v known) v.state.reading r.state.reading new.state.reading (looked_wider grown a.looked) (looked_wider wider (rw same at b.looked));
      is = b.is ∙ ap (λ (l : Listing). reading_on l new.state.reading) a.is;
    }

-- it is refused
pub ahead_refused : {takes : Item → Bool} {grows buffers : Bool} {e : Error} (v r new : Listing) → Ahead takes v r → v.state.ended ≡ false → NoPart takes grows buffers r new e → NoPart takes grows buffers v new e
ahead_refused {takes} {grows} {buffers} {e} v r new a answers part =
    let n : NoPart takes grows buffers (reading_on v r.state.reading) new e = subst (λ (l : Listing). NoPart takes grows buffers l new e) a.is part in
    let s = a.looked.stays in
    record {
      if_ended = λ u. absurd cc (answers, u);
      ended = n.ended;
      steady = advances_then v.state.reading r.state.reading new.state.reading (stayed s) n.steady;
      device = λ d. let f = s.steady.faults in let g = n.device d in omega (arith, f, g);
      memory = n.memory;
      spent = λ o. record { most = let m = (n.spent o).most in omega (arith, m, s.taken) };
      some_left = n.some_left;
      why = λ i t rest w k at fits h o.
          excused_kept v.state.reading r.state.reading new.state.reading e s (n.why i t rest w k (keeps_known v.state.reading.to_come r.state.reading.to_come (t ++ rest) s.to_come at) (rw s.taken fits) (s.steady.honest ∙ h) o);
    }

pub ahead_named : {takes : Item → Bool} {refuses : Refusing} {grows buffers : Bool} {e : Error} (v r new : Listing) → Ahead takes v r → PartNamed takes refuses grows buffers r new e → PartNamed takes refuses grows buffers v new e
ahead_named {takes} {refuses} {grows} {buffers} {e} v r new a part =
    let n : PartNamed takes refuses grows buffers (reading_on v r.state.reading) new e = subst (λ (l : Listing). PartNamed takes refuses grows buffers l new e) a.is part in
    let s = a.looked.stays in
    record { why = λ o k at h. tell k (n.why o k (keeps_known v.state.reading.to_come r.state.reading.to_come k s.to_come at) (s.steady.honest ∙ h)) }
  where
    tell : (k : List ℕ) → (refuses (stands_under v.state) k e ⊎ PassesEnd takes (reading_on v r.state.reading) k e) ⊎ Excused grows buffers r.state.reading new.state.reading e
        → (refuses (stands_under v.state) k e ⊎ PassesEnd takes v k e) ⊎ Excused grows buffers v.state.reading new.state.reading e
    tell k (inl (inl p)) = inl (inl p)
    tell k (inl (inr p)) = inl (inr (record { item = p.item; text = p.text; rest = p.rest; spelled = p.spelled; taken = p.taken; split = p.split; past = λ w. p.past (rw a.looked.stays.taken w); named = p.named }))
    tell k (inr y) = inr (excused_kept v.state.reading r.state.reading new.state.reading e a.looked.stays y)

-- where the access is ended by it
abbrev pub ended_on : Listing → Listing
ended_on l = record { state = as_ended l.state; left = l.left; outer = l.outer; limit = l.limit }

-- the bytes could not be received
failed_excused : {grows buffers : Bool} (v new : Reading) (e : Error) → (IsTrue buffers → IsTrue grows) → Fails buffers buffers v new e → Excused grows buffers v new e
failed_excused v new e g (inl p) = no_memory p.0 (g p.1)
failed_excused v new e g (inr p) = faulted p.0 p.1 p.2

failed_device : {buffers : Bool} (v new : Reading) (e : Error) → Fails buffers buffers v new e → IsDevice e → v.faults < new.faults
failed_device v new e (inl p) d = let q : IsDevice OutOfMemory = rw p.0 at d in absurd q
failed_device v new e (inr p) d = p.1

failed_memory : {grows buffers : Bool} (v new : Reading) (e : Error) → (IsTrue buffers → IsTrue grows) → Fails buffers buffers v new e → e ≡ OutOfMemory → IsTrue grows
failed_memory v new e g (inl p) m = g p.1
failed_memory v new e g (inr p) m = let i : IsFault new.last_fault OutOfMemory = rw m at p.0 in absurd i

failed_part : {takes : Item → Bool} {grows buffers : Bool} {e : Error} (r new : Listing) → (IsTrue buffers → IsTrue grows) → r.state.ended ≡ false → Ahead takes r new → AheadFails buffers r new e → NoPart takes grows buffers r (ended_on new) e
failed_part {takes} {grows} {buffers} {e} r new g answers a f =
    let s = a.looked.stays in
    let begun : new.state.begun ≡ r.state.begun = ap (λ (l : Listing). l.state.begun) a.is in
    record {
      if_ended = λ u. absurd cc (answers, u);
      ended = refl;
      steady = stayed s;
      device = failed_device r.state.reading new.state.reading e f.fails;
      memory = failed_memory r.state.reading new.state.reading e g f.fails;
      spent = λ o. record { most = omega (arith, begun, s.taken) };
      some_left = λ _. f.some_left;
      why = λ i t rest w k at fits h o. failed_excused r.state.reading new.state.reading e g f.fails;
    }

pub ahead_failed : {takes : Item → Bool} {grows buffers : Bool} {e : Error} (v r new : Listing) → (IsTrue buffers → IsTrue grows) → Ahead takes v r → v.state.ended ≡ false → Ahead takes r new → AheadFails buffers r new e → NoPart takes grows buffers v (ended_on new) e
ahead_failed v r new g a answers b f = ahead_refused v r (ended_on new) a answers (failed_part r new g (ap (λ (l : Listing). l.state.ended) a.is ∙ answers) b f)

pub ahead_failed_named : {takes : Item → Bool} {refuses : Refusing} {grows buffers : Bool} {e : Error} (v r new : Listing) → (IsTrue buffers → IsTrue grows) → Ahead takes v r → AheadFails buffers r new e → PartNamed takes refuses grows buffers v (ended_on new) e
ahead_failed_named v r new g a f = ahead_named v r (ended_on new) a record { why = λ o s at h. inr (failed_excused r.state.reading new.state.reading _ g f.fails) }

-- no memory was there for a part
pub ahead_no_room : {takes whole : Item → Bool} {buffers : Bool} {old : Decoding} (v r : Listing) → Ahead takes v r → Missed whole true buffers old (as_ended v.state) OutOfMemory → Missed whole true buffers old (as_ended r.state) OutOfMemory
ahead_no_room {old = old} v r a m =
    let s = a.looked.stays in
    let begun : r.state.begun ≡ v.state.begun = ap (λ (l : Listing). l.state.begun) a.is in
    record {
      why = λ o i t rest w k at h. no_memory refl refl;
      spent = λ o. record { most = let n = (m.spent o).most in omega (arith, n, begun, s.taken) };
      steady = advances_then old.reading v.state.reading r.state.reading m.steady (stayed s);
      device = λ d. absurd d;
      memory = λ _. refl;
    }

-- ---- the end

-- what was received of no parts was received before
all_received : (s t : List ℕ) → take (length s) t ≡ s → length t ≤ max (length s) 0 → t ≡ s
all_received s t h l = sym (take_all (length s) t (omega (arith, l))) ∙ h

takes_settled : (from v r : Reading) (t : List ℕ) → Takes from v t → Looked 0 v r → Takes from r t
takes_settled from v r t k l = record {
  to_come = consumes_keeps from.to_come v.to_come r.to_come t k.to_come l.stays.to_come;
  taken = l.stays.taken ∙ k.taken;
  received = all_received v.received r.received l.stays.received l.received ∙ k.received;
  agrees = k.agrees;
  steady = steady_then from v r k.steady l.stays.steady;
}

settled_on : {parts : _} (from v : Listing) (x : Reading) → PartsRead from parts v → Looked 0 v.state.reading x → PartsRead from parts (reading_on v x)
settled_on from v x p l = record {
  text = p.text;
  step = takes_settled from.state.reading v.state.reading x p.text p.step l;
  spelled = p.spelled;
  left = p.left;
  begun = p.begun;
  inherited = p.inherited;
  described = p.described;
  outer = p.outer;
  limit = p.limit;
  not_ended = p.not_ended;
  within = rw l.stays.taken p.within;
  spent = omega (arith, p.spent, l.stays.taken);
  tracks = λ is b behind w c at.
      let k = p.tracks is b behind w c at in
      (k.0, k.1, k.2, k.3, k.4, keeps_known v.state.reading.to_come x.to_come (k.1 ++ behind) l.stays.to_come k.5, omega (arith, k.6, l.stays.taken));
}

-- where no part is left nothing was received ahead
pub ahead_settled : {takes : Item → Bool} {parts : _} (from v r : Listing) → PartsRead from parts v → Ahead takes v r → v.left ≡ 0 → PartsRead from parts r
ahead_settled {takes} {parts} from v r p a z =
    let received = r.state.reading.received in
    let none : least_left a.width v received ≡ 0 = ap (λ (n : ℕ). parts_least a.width n v.state.inherited received) z in
    subst (λ (l : Listing). PartsRead from parts l) (sym a.is) (settled_on from v r.state.reading p (rw none at a.looked))

pub sofar_settled : {T : Type 0} (takes : Item → Bool) (means : Item → T → Type 0) (from v r : Listing) (vs : List T) → Sofar takes means from v vs → Ahead takes v r → r.left ≡ 0 → Sofar takes means from r vs
sofar_settled takes means from v r vs s a z = record { parts = s.parts; reads = ahead_settled from v r s.reads a (sym (ahead_left v r a) ∙ z); taken = s.taken; meant = s.meant }
