-- An item that has a text of its own can be refused as an element alone.
use Rattle.std.proofs.Common.{◌≡◌, ℕ, nat_lt, nat_le, Bool, true, false, List, [], ◌∷◌, ◌++◌, length, Option, Some, None, refl, sym, ap, subst, ◌∙◌, arith, if◌then◌else◌, ◌⊎◌, inl, inr}
use Rattle.std.specs.Str.{is_utf8}
use Rattle.std.proofs.lemmas.Bool.{lt-leb, ltb-true, ne_eqb}
use Rattle.std.specs.declared.io.ErrorKind.TheVariants.{Other as IoOther}
use Rattle.amqp_base.specs.declared.error.Error.{Error}
use Rattle.amqp_base.specs.declared.error.Error.TheVariants.{InvalidValue, Io}
use Rattle.amqp_base.specs.declared.shape.Shape.{Shape}
use Rattle.amqp_base.specs.Codes.{row, widest}
use Rattle.amqp_base.specs.Item.{descriptor_item, Scalar, null, boolean, ubyte, ushort, uint, ulong, byte, short, int, long, float, double, decimal32, decimal64, decimal128, char, timestamp, uuid, binary, string, symbol, Item, scalar, list, map, array, described, Items, none, more, Pairs, no_pairs, pair, items_of, count, in_turn}
use Rattle.amqp_base.specs.Shapes.{whole, pairs_of}
use Rattle.amqp_base.specs.Canon.{◌>>=◌, or_else, when, limit, sized, canon, canons, pair_canons, array_body, descriptor_text, scalar_body, scalar_text, short_text, list_text, compound_text}
use Rattle.amqp_write.specs.State.{Mark, unmarked, first}
use Rattle.amqp_write.specs.Texts.{marked, mark_after, payload_length, unwritten, or_later, or_whole, why_unwritten, why_part, why_pair}
use Rattle.amqp_write.specs.Wholes.{parts_text, Complete}
use Rattle.amqp_write.proofs.PartTexts.{bind_some, pairs_text}
use Rattle.amqp_write.proofs.WhyTexts.{body_why}
use Rattle.amqp_write.proofs.DescribedTexts.{why_described}

-- what has a text only up to the limit isn't too long
by_limit : {A : Type 0} (t : Bool) (n : ℕ) (o : Option A) (x : A) → nat_lt limit n ≡ t → o ≡ Some x → (t ≡ true → o ≡ None) → unwritten n ≡ InvalidValue
by_limit true n o x e h f = let no : Some x ≡ None = sym h ∙ f refl in cc
by_limit false n o x e h f = rw e refl

not_short : (n : ℕ) → nat_lt limit n ≡ true → (nat_le n 254 ≡ false) × (nat_le n limit ≡ false)
not_short n h = let l = ltb-true limit n h in (lt-leb n 254 (omega (arith, l)), lt-leb n limit l)

-- texts
binary_long : (b : List ℕ) → nat_lt limit (length b) ≡ true → scalar_text (binary b) ≡ None
unfolding scalar_text short_text scalar_body widest
binary_long b h = let n = not_short (length b) h in rw (n.0, n.1) refl

utf8_long : (t : Bool) (one wide : ℕ) (b : List ℕ) → nat_lt limit (length b) ≡ true → or_else (if t then when (nat_le (length b) 254) (one ∷ length b ∷ b) else None) ((if t then sized b else None) >>= λ d. Some (wide ∷ d)) ≡ None
utf8_long true one wide b h = let n = not_short (length b) h in rw (n.0, n.1) refl
utf8_long false one wide b h = refl

string_long : (b : List ℕ) → nat_lt limit (length b) ≡ true → scalar_text (string b) ≡ None
unfolding scalar_text short_text scalar_body widest row
string_long b h = utf8_long (is_utf8 b) 0xa1 0xb1 b h

symbol_long : (b : List ℕ) → nat_lt limit (length b) ≡ true → scalar_text (symbol b) ≡ None
unfolding scalar_text short_text scalar_body widest row
symbol_long b h = utf8_long (is_utf8 b) 0xa3 0xb3 b h

scalar_why : (v : Scalar) (b : List ℕ) → scalar_text v ≡ Some b → why_unwritten (scalar v) ≡ InvalidValue
unfolding why_unwritten
scalar_why null b h = refl
scalar_why (boolean x) b h = refl
scalar_why (ubyte x) b h = refl
scalar_why (ushort x) b h = refl
scalar_why (uint x) b h = refl
scalar_why (ulong x) b h = refl
scalar_why (byte x) b h = refl
scalar_why (short x) b h = refl
scalar_why (int x) b h = refl
scalar_why (long x) b h = refl
scalar_why (float x) b h = refl
scalar_why (double x) b h = refl
scalar_why (decimal32 x) b h = refl
scalar_why (decimal64 x) b h = refl
scalar_why (decimal128 x) b h = refl
scalar_why (char x) b h = refl
scalar_why (timestamp x) b h = refl
scalar_why (uuid x) b h = refl
scalar_why (binary x) b h = by_limit (nat_lt limit (length x)) (length x) _ b refl h (binary_long x)
scalar_why (string x) b h = by_limit (nat_lt limit (length x)) (length x) _ b refl h (string_long x)
scalar_why (symbol x) b h = by_limit (nat_lt limit (length x)) (length x) _ b refl h (symbol_long x)

-- bodies
compound_long : (one four k : ℕ) (b : List ℕ) → nat_lt limit (length b) ≡ true → compound_text one four k b ≡ None
compound_long one four k b h = let n = not_short (length b) h in rw (n.0, n.1) refl

list_long : (k : ℕ) (b : List ℕ) → nat_lt limit (length b) ≡ true → list_text k b ≡ None
unfolding list_text
list_long k b h = let n = not_short (length b) h in rw (ne_eqb (length b) 0 (λ e. omega (arith, e, ltb-true limit (length b) h)), n.0, n.1) refl

abbrev list_of : Items → List Item
list_of none = []
list_of (more i is) = i ∷ list_of is

list_again : (is : Items) → items_of (list_of is) ≡ is
list_again none = refl
list_again (more i is) = ap (λ js. more i js) (list_again is)

abbrev turns_of : Pairs → List Item
turns_of no_pairs = []
turns_of (pair k v ps) = k ∷ v ∷ turns_of ps

pairs_again : (ps : Pairs) → pairs_of (turns_of ps) ≡ ps
pairs_again no_pairs = refl
pairs_again (pair k v ps) = ap (λ qs. pair k v qs) (pairs_again ps)

turns_complete : (ps : Pairs) → Complete true (turns_of ps)
turns_complete no_pairs = refl
turns_complete (pair k v ps) = turns_complete ps

list_why : (xs : List Item) (b : List ℕ) → canon (list (items_of xs)) ≡ Some b → why_unwritten (list (items_of xs)) ≡ InvalidValue
unfolding canon whole parts_text
list_why xs b h =
    let p = bind_some (canons (items_of xs)) _ _ h in
    body_why Shape.List xs p.0 p.1 refl ∙ by_limit (nat_lt limit (length p.0)) (length p.0) _ b refl p.2 (list_long (count (items_of xs)) p.0)

array_why : (xs : List Item) (b : List ℕ) → canon (array (items_of xs)) ≡ Some b → why_unwritten (array (items_of xs)) ≡ InvalidValue
unfolding canon whole parts_text
array_why xs b h =
    let p = bind_some (array_body (items_of xs)) _ _ h in
    body_why Shape.Array xs p.0 p.1 refl ∙ by_limit (nat_lt limit (length p.0)) (length p.0) _ b refl p.2 (compound_long 0xe0 0xf0 (count (items_of xs)) p.0)

map_why : (xs : List Item) (b : List ℕ) → Complete true xs → canon (map (pairs_of xs)) ≡ Some b → why_unwritten (map (pairs_of xs)) ≡ InvalidValue
unfolding canon whole parts_text
map_why xs b c h =
    let p = bind_some (pair_canons (pairs_of xs)) _ _ h in
    body_why Shape.Map xs p.0 (sym (pairs_text xs c) ∙ p.1) c ∙ by_limit (nat_lt limit (length p.0)) (length p.0) _ b refl p.2 (compound_long 0xc1 0xd1 (count (in_turn (pairs_of xs))) p.0)

described_text : (o r : Option (List ℕ)) (b : List ℕ) → (o >>= λ a. r >>= λ c. Some (0x00 ∷ (a ++ c))) ≡ Some b → (a c : List ℕ) × (o ≡ Some a) × (r ≡ Some c)
described_text None r b h = cc
described_text (Some a) None b h = cc
described_text (Some a) (Some c) b h = (a, c, refl, refl)

pub canon_why : (i : Item) (b : List ℕ) → canon i ≡ Some b → why_unwritten i ≡ InvalidValue
unfolding canon
canon_why (scalar v) b h = scalar_why v b h
canon_why (list is) b h = subst (λ js. canon (list js) ≡ Some b → why_unwritten (list js) ≡ InvalidValue) (list_again is) (list_why (list_of is) b) h
canon_why (map ps) b h = subst (λ qs. canon (map qs) ≡ Some b → why_unwritten (map qs) ≡ InvalidValue) (pairs_again ps) (map_why (turns_of ps) b (turns_complete ps)) h
canon_why (array is) b h = subst (λ js. canon (array js) ≡ Some b → why_unwritten (array js) ≡ InvalidValue) (list_again is) (array_why (list_of is) b) h
canon_why (described d v) b h =
    let p = described_text (descriptor_text d) (canon v) b h in
    why_described d v p.0 p.2 ∙ canon_why v p.1 p.3

-- the names of what can't be written
abbrev pub IsName : Error → Type 0
IsName e = (e ≡ InvalidValue) ⊎ (e ≡ Io IoOther)

abbrev AreNames : Option Error → Type 0
AreNames None = Unit {0}
AreNames (Some e) = IsName e

length_name : (n : ℕ) → IsName (unwritten n)
length_name n = go (nat_lt limit n)
  where
    go : (t : Bool) → IsName (if t then Io IoOther else InvalidValue)
    go true = inr refl
    go false = inl refl

later_name : (o : Option (List ℕ)) (e : Error) (later : Option Error) → IsName e → AreNames later → AreNames (or_later o e later)
later_name None e later h k = h
later_name (Some b) e later h k = k

whole_name : (o : Option Error) (e : Error) → AreNames o → IsName e → IsName (or_whole o e)
whole_name None e h k = k
whole_name (Some x) e h k = h

mutual
  unfolding why_unwritten why_part why_pair

  pub why_name : (i : Item) → IsName (why_unwritten i)
  why_name (scalar v) = length_name (payload_length v)
  why_name (list is) = whole_name (why_part unmarked is) _ (part_name unmarked is) (length_name _)
  why_name (map ps) = whole_name (why_pair ps) _ (pair_name ps) (length_name _)
  why_name (array is) = whole_name (why_part first is) _ (part_name first is) (length_name _)
  why_name (described d v) = whole_name (or_later (descriptor_text d) _ None) _ (later_name (descriptor_text d) _ None (length_name (payload_length (descriptor_item d))) tt) (why_name v)

  part_name : (m : Mark) (is : Items) → AreNames (why_part m is)
  part_name m none = tt
  part_name m (more i is) = later_name (marked m i) _ _ (why_name i) (part_name (mark_after m i) is)

  pair_name : (ps : Pairs) → AreNames (why_pair ps)
  pair_name no_pairs = tt
  pair_name (pair k v ps) = later_name (canon k) _ _ (why_name k) (later_name (canon v) _ _ (why_name v) (pair_name ps))
