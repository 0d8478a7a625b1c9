-- Two wire texts that begin one list are one text, and spell one item.
use Rattle.std.proofs.Common.{◌≡◌, ℕ, suc, List, [], ◌∷◌, ◌++◌, length, take, drop, Some, refl, sym, ap, subst, ◌∙◌, arith}
use Rattle.std.proofs.lemmas.List.{length-take, take-append-drop}
use Rattle.amqp_base.specs.declared.format_code.EncodingCodes.{EncodingCodes}
use Rattle.amqp_base.specs.declared.format_code.EncodingCodes.TheVariants.{List0}
use Rattle.amqp_base.specs.declared.format_code.Category.{Category}
use Rattle.amqp_base.specs.declared.format_code.Category.TheVariants.{Fixed}
use Rattle.amqp_base.specs.Codes.{Kind, row, code_of}
use Rattle.amqp_base.specs.Item.{Scalar, Descriptor, name, code, descriptor_item, Item, scalar, list, map, array, described, Items, more, Pairs, no_pairs, count, in_turn}
use Rattle.amqp_base.specs.Item.{pair as pair_of}
use Rattle.amqp_base.specs.Value.{number, read, payload}
use Rattle.amqp_base.specs.Wire.{Rules, lenient, strict, Constructor, under, FitsEmpty, ScalarData, fixed, variable, ScalarText, code_and_data, DescriptorText, Spells, primitive, pair, Wire, of_code, of_described, of_data, of_pair, Data, of_fixed, of_variable, list0, of_list, of_map, of_array, empty_array, Parts, no_part, part}
use Rattle.amqp_base.specs.Laws.{OneFront}
use Rattle.amqp_base.proofs.Lists.{cons_parts, cut, some_is, rest, regroup}

-- the text and what it spells
abbrev Same : {A : Type 0} → List ℕ → List ℕ → A → A → Type 0
Same a b i j = (a ≡ b) × (i ≡ j)

same_scalar : {e : EncodingCodes} {k : Category} {a : List ℕ} {v : Scalar} → ScalarData e k a v → {b : List ℕ} {u : Scalar} → ScalarData e k b u → (x y : List ℕ) → a ++ x ≡ b ++ y → Same a b v u
same_scalar {e} (fixed {b = a} {v = v} l p) (fixed {b = b} {v = u} m q) x y eq =
    let s = cut a b x y (l ∙ sym m) eq in
    (s.0, some_is v u (sym p ∙ ap (λ (t : List ℕ). payload e t) s.0 ∙ q))
same_scalar {e} (variable l a {v = v} ll n p) (variable m b {v = u} lm o q) x y eq =
    let s = cut l m (a ++ x) (b ++ y) (ll ∙ sym lm) (regroup l a m b x y eq) in
    let t = cut a b x y (sym n ∙ ap (λ (z : List ℕ). number z) s.0 ∙ o) s.1 in
    (cc (s.0, t.0), some_is v u (sym p ∙ ap (λ (z : List ℕ). payload e z) t.0 ∙ q))

pub same_code : (x y : ℕ) (d e : EncodingCodes) → code_of x ≡ Some d → code_of y ≡ Some e → x ≡ y → d ≡ e
same_code x y d e p q h = cc (p, q, h)

same_descriptor : (d e : Descriptor) → descriptor_item d ≡ descriptor_item e → d ≡ e
same_descriptor (name a) (name b) h = cc
same_descriptor (name a) (code b) h = absurd cc
same_descriptor (code a) (name b) h = absurd cc
same_descriptor (code a) (code b) h = cc

same_text : {a b : List ℕ} {v u : Scalar} → ScalarText a v → ScalarText b u → (x y : List ℕ) → a ++ x ≡ b ++ y → Same a b v u
same_text (code_and_data {x = s} {e = e} {b = a} p h) (code_and_data {x = t} {e = f} {b = b} {v = u} q k) x y eq =
    let c = cons_parts s t (a ++ x) (b ++ y) eq in
    let ef = same_code s t e f p q c.0 in
    let k' : ScalarData e (row e).category b u = subst (λ (z : EncodingCodes). ScalarData z (row z).category b u) (sym ef) k in
    let r = same_scalar h k' x y c.1 in
    (cc (c.0, r.0), r.1)

pub same_descriptor_text : (a b : List ℕ) (d e : Descriptor) → DescriptorText a d → DescriptorText b e → (x y : List ℕ) → a ++ x ≡ b ++ y → Same a b d e
same_descriptor_text a b d e g h x y eq = let r = same_text g h x y eq in (r.0, same_descriptor d e r.1)

pub no_code : {e : EncodingCodes} → code_of 0 ≡ Some e → ⊥
unfolding code_of row
no_code h = cc

pub same_constructor : {a b : List ℕ} {c d : Constructor} → Spells a c → Spells b d → (x y : List ℕ) → a ++ x ≡ b ++ y → Same a b c d
same_constructor (primitive {x = s} {e = e} p) (primitive {x = t} {e = f} q) x y eq =
    let h = cons_parts s t x y eq in
    let ef = same_code s t e f p q h.0 in
    (cc h.0, ap under ef)
same_constructor (primitive {x = s} {e = e} p) (pair b t h q) x y eq =
    absurd (no_code (subst (λ (z : ℕ). code_of z ≡ Some e) (cons_parts s 0 x ((b ++ t ∷ []) ++ y) eq).0 p))
same_constructor (pair a s g p) (primitive {x = t} {e = f} q) x y eq =
    absurd (no_code (subst (λ (z : ℕ). code_of z ≡ Some f) (sym (cons_parts 0 t ((a ++ s ∷ []) ++ x) y eq).0) q))
same_constructor (pair a s {d = d} {e = e} g p) (pair b t {d = d'} {e = f} h q) x y eq =
    let tails = (cons_parts 0 0 ((a ++ s ∷ []) ++ x) ((b ++ t ∷ []) ++ y) eq).1 in
    let parts = regroup a (s ∷ []) b (t ∷ []) x y tails in
    let r = same_descriptor_text a b d d' g h (s ∷ x) (t ∷ y) parts in
    let c = cons_parts s t x y (rest a b (s ∷ x) (t ∷ y) r.0 parts) in
    let ef = same_code s t e f p q c.0 in
    (cc (r.0, c.0), cc (r.1, ef))

pub no_scalar : {b : List ℕ} {v : Scalar} → ScalarData List0 (Fixed 0) b v → ⊥
unfolding payload read row
no_scalar (fixed l p) = absurd cc

same_pairs : (p q : Pairs) → in_turn p ≡ in_turn q → p ≡ q
same_pairs no_pairs no_pairs h = refl
same_pairs no_pairs (pair_of k v q) h = absurd cc
same_pairs (pair_of k v p) no_pairs h = absurd cc
same_pairs (pair_of k v p) (pair_of l u q) h =
    let t : in_turn p ≡ in_turn q = cc in
    let s = same_pairs p q t in
    cc (h, s)

pub same_fill : (r : Rules) (w m n i j : ℕ) → m ≡ n → FitsEmpty r w m i → FitsEmpty r w n j → i ≡ j
same_fill lenient w m n i j e p q = omega arith
same_fill strict w m n i j e p q = omega arith

-- the size and the count before the rest
pub record Headed (z k b z' k' b' : List ℕ) (x y : List ℕ) : Type 0 where
  pub size : z ≡ z'
  pub count : k ≡ k'
  pub behind : b ++ x ≡ b' ++ y

pub headed : (w : ℕ) (z k b z' k' b' x y : List ℕ) → length z ≡ w → length k ≡ w → length z' ≡ w → length k' ≡ w → (z ++ (k ++ b)) ++ x ≡ (z' ++ (k' ++ b')) ++ y → Headed z k b z' k' b' x y
headed w z k b z' k' b' x y lz lk lz' lk' eq =
    let s = cut z z' ((k ++ b) ++ x) ((k' ++ b') ++ y) (lz ∙ sym lz') (regroup z (k ++ b) z' (k' ++ b') x y eq) in
    let t = cut k k' (b ++ x) (b' ++ y) (lk ∙ sym lk') (regroup k b k' b' x y s.1) in
    record { size = s.0; count = t.0; behind = t.1 }

abbrev num : List ℕ → ℕ
num b = number b

mutual
  pub same_wire : {r : Rules} {c : Constructor} {a : List ℕ} {i : Item} → Wire r c a i → {b : List ℕ} {j : Item} → Wire r c b j → (x y : List ℕ) → a ++ x ≡ b ++ y → Same a b i j
  same_wire {r} (of_code {x = s} {e = e} {b = a} p h) (of_code {x = t} {e = f} {b = b} {i = j} q k) x y eq =
      let c = cons_parts s t (a ++ x) (b ++ y) eq in
      let ef = same_code s t e f p q c.0 in
      let k' : Wire r (under e) b j = subst (λ (z : EncodingCodes). Wire r (under z) b j) (sym ef) k in
      let m = same_wire h k' x y c.1 in
      (cc (c.0, m.0), m.1)
  same_wire (of_code {x = s} {e = e} {b = a} p h) (of_described b c g k) x y eq =
      absurd (no_code (subst (λ (z : ℕ). code_of z ≡ Some e) (cons_parts s 0 (a ++ x) ((b ++ c) ++ y) eq).0 p))
  same_wire (of_described b c g k) (of_code {x = s} {e = e} {b = a} p h) x y eq =
      absurd (no_code (subst (λ (z : ℕ). code_of z ≡ Some e) (sym (cons_parts 0 s ((b ++ c) ++ x) (a ++ y) eq).0) p))
  same_wire (of_described a b {d = d} {v = v} g h) (of_described a' b' {d = d'} {v = v'} g' h') x y eq =
      let tails = (cons_parts 0 0 ((a ++ b) ++ x) ((a' ++ b') ++ y) eq).1 in
      let parts = regroup a b a' b' x y tails in
      let s = same_descriptor_text a a' d d' g g' (b ++ x) (b' ++ y) parts in
      let t = same_wire h h' x y (rest a a' (b ++ x) (b' ++ y) s.0 parts) in
      (cc (s.0, t.0), cc (s.1, t.1))
  same_wire (of_data h) (of_data k) x y eq = same_data h k x y eq
  same_wire (of_pair {d = d} h) (of_pair k) x y eq =
      let s = same_wire h k x y eq in
      (s.0, ap (λ (v : Item). described d v) s.1)

  same_data : {r : Rules} {e : EncodingCodes} {k : Kind} {c : Category} {a : List ℕ} {i : Item} → Data r e k c a i → {b : List ℕ} {j : Item} → Data r e k c b j → (x y : List ℕ) → a ++ x ≡ b ++ y → Same a b i j
  same_data (of_fixed h) (of_fixed k) x y eq = let s = same_scalar h k x y eq in (s.0, ap scalar s.1)
  same_data (of_variable h) (of_variable k) x y eq = let s = same_scalar h k x y eq in (s.0, ap scalar s.1)
  same_data (of_fixed h) list0 x y eq = absurd (no_scalar h)
  same_data list0 (of_fixed h) x y eq = absurd (no_scalar h)
  same_data list0 list0 x y eq = (refl, refl)
  same_data (of_list {w = w} z k b {is = is} lz lk nk h f) (of_list z' k' b' {is = js} lz' lk' nk' h' f') x y eq =
      let s = headed w z k b z' k' b' x y lz lk lz' lk' eq in
      let t = same_parts h h' (sym nk ∙ ap num s.count ∙ nk') x y s.behind in
      (cc (s.size, s.count, t.0), ap list t.1)
  same_data (of_map {w = w} z k b {ps = is} lz lk nk h f) (of_map z' k' b' {ps = js} lz' lk' nk' h' f') x y eq =
      let s = headed w z k b z' k' b' x y lz lk lz' lk' eq in
      let t = same_parts h h' (sym nk ∙ ap num s.count ∙ nk') x y s.behind in
      (cc (s.size, s.count, t.0), ap map (same_pairs is js t.1))
  same_data {r} (of_array {w = w} z k m b {c = c} {i = i} {is = is} lz lk nk g h f) (of_array z' k' m' b' {c = c'} {i = j} {is = js} lz' lk' nk' g' h' f') x y eq =
      let s = headed w z k (m ++ b) z' k' (m' ++ b') x y lz lk lz' lk' eq in
      let parts = regroup m b m' b' x y s.behind in
      let u = same_constructor g g' (b ++ x) (b' ++ y) parts in
      let h'' : Parts r c b' (more j js) = subst (λ (t : Constructor). Parts r t b' (more j js)) (sym u.1) h' in
      let t = same_parts h h'' (sym nk ∙ ap num s.count ∙ nk') x y (rest m m' (b ++ x) (b' ++ y) u.0 parts) in
      (cc (s.size, s.count, t.0, u.0), ap array t.1)
  same_data (of_array {w = w} z k m b {i = i} {is = is} lz lk nk g h f) (empty_array z' k' b' lz' lk' nk' f') x y eq =
      let s = headed w z k (m ++ b) z' k' b' x y lz lk lz' lk' eq in
      let zero_is : 0 ≡ suc (count is) = sym nk' ∙ sym (ap num s.count) ∙ nk in
      absurd (omega arith)
  same_data (empty_array z' k' b' lz' lk' nk' f') (of_array {w = w} z k m b {i = i} {is = is} lz lk nk g h f) x y eq =
      let s = headed w z' k' b' z k (m ++ b) x y lz' lk' lz lk eq in
      let zero_is : 0 ≡ suc (count is) = sym nk' ∙ ap num s.count ∙ nk in
      absurd (omega arith)
  same_data {r} (empty_array {w = w} z k b lz lk nk f) (empty_array z' k' b' lz' lk' nk' f') x y eq =
      let s = headed w z k b z' k' b' x y lz lk lz' lk' eq in
      let t = cut b b' x y (same_fill r w (number z) (number z') (length b) (length b') (ap num s.size) f f') s.behind in
      (cc (s.size, s.count, t.0), refl)

  same_parts : {r : Rules} {c : Constructor} {a : List ℕ} {is : Items} → Parts r c a is → {b : List ℕ} {js : Items} → Parts r c b js → count is ≡ count js → (x y : List ℕ) → a ++ x ≡ b ++ y → Same a b is js
  same_parts no_part no_part n x y eq = (refl, refl)
  same_parts no_part (part a b h t) n x y eq = absurd (omega arith)
  same_parts (part a b h t) no_part n x y eq = absurd (omega arith)
  same_parts (part a b {is = is} h t) (part a' b' {is = js} h' t') n x y eq =
      let parts = regroup a b a' b' x y eq in
      let s = same_wire h h' (b ++ x) (b' ++ y) parts in
      let u = same_parts t t' (omega arith) x y (rest a a' (b ++ x) (b' ++ y) s.0 parts) in
      (cc (s.0, u.0), cc (s.1, u.1))

pub one_front : (r : Rules) → OneFront r
one_front r c s i j m n f g =
    let t = same_wire f.spelled g.spelled (drop m s) (drop n s) (take-append-drop m s ∙ sym (take-append-drop n s)) in
    let l : length (take m s) ≡ length (take n s) = ap (λ (u : List ℕ). length u) t.0 in
    (t.1, omega (arith, f.within, g.within, l, length-take m s, length-take n s))
