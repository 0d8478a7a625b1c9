-- What the simple program reads is spelled so.
use Rattle.std.proofs.Common.{◌≡◌, ℕ, zero, suc, ◌+◌, ◌-◌, true, cond, leb, ◌&&◌, List, [], ◌∷◌, ◌++◌, length, take, drop, Some, None, refl, sym, ap, subst, ◌∙◌, arith, ⊎_elim, append_assoc}
use Rattle.std.proofs.lemmas.Bool.{leb-true, eqb-true, and_parts}
use Rattle.std.proofs.lemmas.List.{length-append, length-take-le, take-append-drop}
use Rattle.std.proofs.lemmas.Option.{same_Some}
use Rattle.amqp_base.specs.declared.format_code.EncodingCodes.{EncodingCodes}
use Rattle.amqp_base.specs.declared.format_code.EncodingCodes.TheVariants.{List0}
use Rattle.amqp_base.specs.declared.format_code.Category.{Category}
use Rattle.amqp_base.specs.declared.format_code.Category.TheVariants.{Fixed, Variable, Compound, Array}
use Rattle.amqp_base.specs.Codes.{Kind, row, code_of}
use Rattle.amqp_base.specs.Item.{Scalar, symbol, ulong, Descriptor, name, code, descriptor_item, Item, scalar, list, map, array, described, Items, none, more, Pairs, no_pairs, pair, count, in_turn}
use Rattle.amqp_base.specs.Value.{number, payload}
use Rattle.amqp_base.specs.Wire.{Rules, lenient, strict, Constructor, bare, under, under_pair, FitsList, FitsArray, FitsEmpty, ScalarData, fixed, variable, code_and_data, DescriptorText, Spells, primitive, Wire, of_code, of_described, of_data, of_pair, Data, of_fixed, of_variable, list0, of_list, of_map, of_array, empty_array, Parts, no_part, part}
use Rattle.amqp_base.specs.Wire.{pair as pair_constructor}
use Rattle.amqp_base.specs.Canon.{◌>>=◌}
use Rattle.amqp_base.proofs.ScalarStrict.{if_some}
use Rattle.amqp_base.proofs.ShortStrict.{bind_some, if_cases}
use Rattle.amqp_base.proofs.Decode.{Reading, fits_list, fits_array, empty_length, first, scalar_at, code_at, as_descriptor, descriptor_at, constructor_at, parts_at, pairs_of, header_at, compound_at, elements_at, is_list0, shape_at, data_at, decode}

-- bytes of this kind were taken from s, and t is left
abbrev Took : (List ℕ → Type 0) → List ℕ → List ℕ → Type 0
Took P s t = (b : List ℕ) × (s ≡ b ++ t) × P b

first_ok : (n : ℕ) (s : List ℕ) (p : List ℕ × List ℕ) → first n s ≡ Some p → (s ≡ p.0 ++ p.1) × (length p.0 ≡ n)
first_ok n s p h =
    let g = if_some (leb n (length s)) (Some (take n s, drop n s)) p h in
    subst (λ (q : List ℕ × List ℕ). (s ≡ q.0 ++ q.1) × (length q.0 ≡ n)) (same_Some _ p g.1)
    (sym (take-append-drop n s), length-take-le n s (leb-true n (length s) g.0))

two_parts : (s a t b u : List ℕ) → s ≡ a ++ t → t ≡ b ++ u → s ≡ (a ++ b) ++ u
two_parts s a t b u p q = p ∙ ap (λ (x : List ℕ). a ++ x) q ∙ sym (append_assoc a b u)

taken : (s b t : List ℕ) → s ≡ b ++ t → length s - length t ≡ length b
taken s b t e = let l : length s ≡ length (b ++ t) = ap (λ (x : List ℕ). length x) e in omega (arith, l, length-append b t)

scalar_ok : (e : EncodingCodes) (c : Category) (s : List ℕ) (p : Scalar × List ℕ) → scalar_at e c s ≡ Some p → Took (λ b. ScalarData e c b p.0) s p.1
scalar_ok e (Fixed n) s p h =
    let a = bind_some (first n s) (λ q. payload e q.0 >>= λ v. Some (v, q.1)) p h in
    let b = bind_some (payload e a.0.0) (λ v. Some (v, a.0.1)) p a.2 in
    let f = first_ok n s a.0 a.1 in
    subst (λ (q : Scalar × List ℕ). Took (λ u. ScalarData e (Fixed n) u q.0) s q.1) (same_Some (b.0, a.0.1) p b.2) (a.0.0, f.0, fixed f.1 b.1)
scalar_ok e (Variable w) s p h =
    let l = bind_some (first w s) (λ l. first (number l.0) l.1 >>= λ q. payload e q.0 >>= λ v. Some (v, q.1)) p h in
    let a = bind_some (first (number l.0.0) l.0.1) (λ q. payload e q.0 >>= λ v. Some (v, q.1)) p l.2 in
    let b = bind_some (payload e a.0.0) (λ v. Some (v, a.0.1)) p a.2 in
    let f = first_ok w s l.0 l.1 in
    let g = first_ok (number l.0.0) l.0.1 a.0 a.1 in
    subst (λ (q : Scalar × List ℕ). Took (λ u. ScalarData e (Variable w) u q.0) s q.1) (same_Some (b.0, a.0.1) p b.2)
    (l.0.0 ++ a.0.0, two_parts s l.0.0 l.0.1 a.0.0 a.0.1 f.0 g.0, variable l.0.0 a.0.0 f.1 (sym g.1) b.1)
scalar_ok e (Compound w) s p h = absurd cc
scalar_ok e (Array w) s p h = absurd cc

code_ok : (s : List ℕ) (c : EncodingCodes × List ℕ) → code_at s ≡ Some c → (x : ℕ) × (s ≡ x ∷ c.1) × (code_of x ≡ Some c.0)
code_ok [] c h = absurd cc
code_ok (x ∷ s) c h =
    let a = bind_some (code_of x) (λ e. Some (e, s)) c h in
    subst (λ (d : EncodingCodes × List ℕ). (y : ℕ) × ((x ∷ s) ≡ y ∷ d.1) × (code_of y ≡ Some d.0)) (same_Some (a.0, s) c a.2) (x, refl, a.1)

descriptor_is : (v : Scalar) (d : Descriptor) → as_descriptor v ≡ Some d → v ≡ descriptor_item d
unfolding as_descriptor
descriptor_is (symbol b) d h = ap descriptor_item (same_Some (name b) d h)
descriptor_is (ulong n) d h = ap descriptor_item (same_Some (code n) d h)
descriptor_is _ d h = absurd cc

descriptor_ok : (s : List ℕ) (d : Descriptor × List ℕ) → descriptor_at s ≡ Some d → Took (λ b. DescriptorText b d.0) s d.1
descriptor_ok s d h =
    let c = bind_some (code_at s) (λ c. scalar_at c.0 (row c.0).category c.1 >>= λ p. as_descriptor p.0 >>= λ g. Some (g, p.1)) d h in
    let p = bind_some (scalar_at c.0.0 (row c.0.0).category c.0.1) (λ p. as_descriptor p.0 >>= λ g. Some (g, p.1)) d c.2 in
    let g = bind_some (as_descriptor p.0.0) (λ g. Some (g, p.0.1)) d p.2 in
    let x = code_ok s c.0 c.1 in
    let t = scalar_ok c.0.0 (row c.0.0).category c.0.1 p.0 p.1 in
    let there : ScalarData c.0.0 (row c.0.0).category t.0 (descriptor_item g.0) = subst (λ (v : Scalar). ScalarData c.0.0 (row c.0.0).category t.0 v) (descriptor_is p.0.0 g.0 g.1) t.2 in
    subst (λ (q : Descriptor × List ℕ). Took (λ b. DescriptorText b q.0) s q.1) (same_Some (g.0, p.0.1) d g.2)
    (x.0 ∷ t.0, x.1 ∙ ap (λ (y : List ℕ). x.0 ∷ y) t.1, code_and_data x.2 there)

constructor_ok : (s : List ℕ) (c : Constructor × List ℕ) → constructor_at s ≡ Some c → Took (λ b. Spells b c.0) s c.1
constructor_ok [] c h = absurd cc
constructor_ok (zero ∷ s) c h =
    let d = bind_some (descriptor_at s) (λ d. code_at d.1 >>= λ e. Some (under_pair d.0 e.0, e.1)) c h in
    let e = bind_some (code_at d.0.1) (λ e. Some (under_pair d.0.0 e.0, e.1)) c d.2 in
    let t = descriptor_ok s d.0 d.1 in
    let x = code_ok d.0.1 e.0 e.1 in
    subst (λ (q : Constructor × List ℕ). Took (λ b. Spells b q.0) (0 ∷ s) q.1) (same_Some (under_pair d.0.0 e.0.0, e.0.1) c e.2)
    (0 ∷ t.0 ++ x.0 ∷ [], ap (λ (y : List ℕ). 0 ∷ y) (two_parts s t.0 d.0.1 (x.0 ∷ []) e.0.1 t.1 x.1), pair_constructor t.0 x.0 t.2 x.2)
constructor_ok (suc y ∷ s) c h =
    let e = bind_some (code_at (suc y ∷ s)) (λ e. Some (under e.0, e.1)) c h in
    let x = code_ok (suc y ∷ s) e.0 e.1 in
    subst (λ (q : Constructor × List ℕ). Took (λ b. Spells b q.0) (suc y ∷ s) q.1) (same_Some (under e.0.0, e.0.1) c e.2) (x.0 ∷ [], x.1, primitive x.2)

-- what reads items under a constructor
abbrev Reads : Rules → Constructor → (List ℕ → Reading Item) → Type 0
Reads r c f = (s : List ℕ) (p : Item × List ℕ) → f s ≡ Some p → Took (λ b. Wire r c b p.0) s p.1

parts_ok : (r : Rules) (c : Constructor) (f : List ℕ → Reading Item) → Reads r c f → (k : ℕ) (s : List ℕ) (p : Items × List ℕ) → parts_at f k s ≡ Some p → Took (λ b. Parts r c b p.0 × (count p.0 ≡ k)) s p.1
parts_ok r c f ok zero s p h = subst (λ (q : Items × List ℕ). Took (λ b. Parts r c b q.0 × (count q.0 ≡ zero)) s q.1) (same_Some (none, s) p h) ([], refl, (no_part, refl))
parts_ok r c f ok (suc k) s p h =
    let i = bind_some (f s) (λ i. parts_at f k i.1 >>= λ is. Some (more i.0 is.0, is.1)) p h in
    let is = bind_some (parts_at f k i.0.1) (λ is. Some (more i.0.0 is.0, is.1)) p i.2 in
    let t = ok s i.0 i.1 in
    let u = parts_ok r c f ok k i.0.1 is.0 is.1 in
    subst (λ (q : Items × List ℕ). Took (λ b. Parts r c b q.0 × (count q.0 ≡ suc k)) s q.1) (same_Some (more i.0.0 is.0.0, is.0.1) p is.2)
    (t.0 ++ u.0, two_parts s t.0 i.0.1 u.0 is.0.1 t.1 u.1, (part t.0 u.0 t.2 u.2.0, ap suc u.2.1))

pairs_ok : (is : Items) (ps : Pairs) → pairs_of is ≡ Some ps → in_turn ps ≡ is
pairs_ok none ps h = ap in_turn (sym (same_Some no_pairs ps h))
pairs_ok (more k none) ps h = absurd cc
pairs_ok (more k (more v is)) ps h =
    let a = bind_some (pairs_of is) (λ q. Some (pair k v q)) ps h in
    ap in_turn (sym (same_Some (pair k v a.0) ps a.2)) ∙ ap (λ (q : Items). more k (more v q)) (pairs_ok is a.0 a.1)

record Header (w : ℕ) (s : List ℕ) (h : (ℕ × ℕ) × List ℕ) : Type 0 where
  z : List ℕ
  k : List ℕ
  parts : s ≡ z ++ (k ++ h.1)
  z_length : length z ≡ w
  k_length : length k ≡ w
  z_is : number z ≡ h.0.0
  k_is : number k ≡ h.0.1

header_ok : (w : ℕ) (s : List ℕ) (h : (ℕ × ℕ) × List ℕ) → header_at w s ≡ Some h → Header w s h
header_ok w s h e =
    let z = bind_some (first w s) (λ z. first w z.1 >>= λ k. Some ((number z.0, number k.0), k.1)) h e in
    let k = bind_some (first w z.0.1) (λ k. Some ((number z.0.0, number k.0), k.1)) h z.2 in
    let a = first_ok w s z.0 z.1 in
    let b = first_ok w z.0.1 k.0 k.1 in
    subst (λ (q : (ℕ × ℕ) × List ℕ). Header w s q) (same_Some ((number z.0.0, number k.0.0), k.0.1) h k.2)
    (record { z = z.0.0; k = k.0.0; parts = a.0 ∙ ap (λ (y : List ℕ). z.0.0 ++ y) b.0; z_length = a.1; k_length = b.1; z_is = refl; k_is = refl })

fits_list_ok : (r : Rules) (w z k n : ℕ) → fits_list r w z k n ≡ true → FitsList r w z k n
fits_list_ok lenient w z k n h = let a = and_parts (leb w z) (leb k 65536) h in (leb-true w z a.0, leb-true k 65536 a.1)
fits_list_ok strict w z k n h = eqb-true z (w + n) h

fits_array_ok : (r : Rules) (w z k n : ℕ) → fits_array r w z k n ≡ true → FitsArray r w z k n
fits_array_ok lenient w z k n h =
    let a = and_parts (leb (w + n) z) (leb k 65536 && leb k z) h in
    let b = and_parts (leb k 65536) (leb k z) a.1 in
    (leb-true (w + n) z a.0, leb-true k 65536 b.0, leb-true k z b.1)
fits_array_ok strict w z k n h = eqb-true z (w + n) h

empty_ok : (r : Rules) (w z n : ℕ) → empty_length r w z ≡ Some n → FitsEmpty r w z n
empty_ok lenient w z n h = sym (same_Some (z - w) n h)
empty_ok strict w z n h =
    let a = if_some (leb w z) (Some (z - w)) n h in
    let m = same_Some (z - w) n a.1 in
    omega (arith, leb-true w z a.0, m)

-- what stands behind a header
behind_header : (s z k t b u : List ℕ) → s ≡ z ++ (k ++ t) → t ≡ b ++ u → s ≡ (z ++ (k ++ b)) ++ u
behind_header s z k t b u p q = p ∙ ap (λ (x : List ℕ). z ++ (k ++ x)) q ∙ ap (λ (x : List ℕ). z ++ x) (sym (append_assoc k b u)) ∙ sym (append_assoc z (k ++ b) u)

abbrev DataOf : Rules → EncodingCodes → Kind → Category → List ℕ → Item × List ℕ → Type 0
DataOf r e k c s p = Took (λ b. Data r e k c b p.0) s p.1

compound_ok : (f : List ℕ → Reading Item) (r : Rules) → Reads r bare f → (e : EncodingCodes) (k : Kind) (w : ℕ) (s : List ℕ) (p : Item × List ℕ) → compound_at f r k w s ≡ Some p → DataOf r e k (Compound w) s p
compound_ok f r ok e Kind.list w s p h =
    let a = bind_some (header_at w s) (λ h. parts_at f h.0.1 h.1 >>= λ p. cond (fits_list r w h.0.0 h.0.1 (length h.1 - length p.1)) (Some (list p.0, p.1)) None) p h in
    let b = bind_some (parts_at f a.0.0.1 a.0.1) (λ p. cond (fits_list r w a.0.0.0 a.0.0.1 (length a.0.1 - length p.1)) (Some (list p.0, p.1)) None) p a.2 in
    let c = if_some (fits_list r w a.0.0.0 a.0.0.1 (length a.0.1 - length b.0.1)) (Some (list b.0.0, b.0.1)) p b.2 in
    let h = header_ok w s a.0 a.1 in
    let t = parts_ok r bare f ok a.0.0.1 a.0.1 b.0 b.1 in
    let n = taken a.0.1 t.0 b.0.1 t.1 in
    let fits : FitsList r w (number h.z) (number h.k) (length t.0) = rw (h.z_is, h.k_is, ← n) (fits_list_ok r w a.0.0.0 a.0.0.1 (length a.0.1 - length b.0.1) c.0) in
    subst (λ (q : Item × List ℕ). DataOf r e Kind.list (Compound w) s q) (same_Some (list b.0.0, b.0.1) p c.1)
    (h.z ++ (h.k ++ t.0), behind_header s h.z h.k a.0.1 t.0 b.0.1 h.parts t.1, of_list h.z h.k t.0 h.z_length h.k_length (h.k_is ∙ sym t.2.1) t.2.0 fits)
compound_ok f r ok e Kind.map w s p h =
    let a = bind_some (header_at w s) (λ h. parts_at f h.0.1 h.1 >>= λ p. pairs_of p.0 >>= λ ps. cond (fits_list r w h.0.0 h.0.1 (length h.1 - length p.1)) (Some (map ps, p.1)) None) p h in
    let b = bind_some (parts_at f a.0.0.1 a.0.1) (λ p. pairs_of p.0 >>= λ ps. cond (fits_list r w a.0.0.0 a.0.0.1 (length a.0.1 - length p.1)) (Some (map ps, p.1)) None) p a.2 in
    let g = bind_some (pairs_of b.0.0) (λ ps. cond (fits_list r w a.0.0.0 a.0.0.1 (length a.0.1 - length b.0.1)) (Some (map ps, b.0.1)) None) p b.2 in
    let c = if_some (fits_list r w a.0.0.0 a.0.0.1 (length a.0.1 - length b.0.1)) (Some (map g.0, b.0.1)) p g.2 in
    let h = header_ok w s a.0 a.1 in
    let t = parts_ok r bare f ok a.0.0.1 a.0.1 b.0 b.1 in
    let n = taken a.0.1 t.0 b.0.1 t.1 in
    let turn = pairs_ok b.0.0 g.0 g.1 in
    let fits : FitsList r w (number h.z) (number h.k) (length t.0) = rw (h.z_is, h.k_is, ← n) (fits_list_ok r w a.0.0.0 a.0.0.1 (length a.0.1 - length b.0.1) c.0) in
    let parts : Parts r bare t.0 (in_turn g.0) = subst (λ (x : Items). Parts r bare t.0 x) (sym turn) t.2.0 in
    let number_is : number h.k ≡ count (in_turn g.0) = h.k_is ∙ sym t.2.1 ∙ ap count (sym turn) in
    subst (λ (q : Item × List ℕ). DataOf r e Kind.map (Compound w) s q) (same_Some (map g.0, b.0.1) p c.1)
    (h.z ++ (h.k ++ t.0), behind_header s h.z h.k a.0.1 t.0 b.0.1 h.parts t.1, of_map h.z h.k t.0 h.z_length h.k_length number_is parts fits)
compound_ok f r ok e _ w s p h = absurd cc

array_ok : (f : Constructor → List ℕ → Reading Item) (r : Rules) → ((c : Constructor) → Reads r c (f c)) → (e : EncodingCodes) (w : ℕ) (s : List ℕ) (x : (ℕ × ℕ) × List ℕ) → Header w s x → (k : ℕ) → x.0.1 ≡ k → (p : Item × List ℕ) → elements_at f r w x.0.0 k x.1 ≡ Some p → DataOf r e Kind.array (Array w) s p
array_ok f r ok e w s x h zero kz p g =
    let n = bind_some (empty_length r w x.0.0) (λ n. first n x.1 >>= λ p. Some (array none, p.1)) p g in
    let t = bind_some (first n.0 x.1) (λ p. Some (array none, p.1)) p n.2 in
    let u = first_ok n.0 x.1 t.0 t.1 in
    let fits : FitsEmpty r w (number h.z) (length t.0.0) = rw (h.z_is, u.1) (empty_ok r w x.0.0 n.0 n.1) in
    subst (λ (q : Item × List ℕ). DataOf r e Kind.array (Array w) s q) (same_Some (array none, t.0.1) p t.2)
    (h.z ++ (h.k ++ t.0.0), behind_header s h.z h.k x.1 t.0.0 t.0.1 h.parts u.0, empty_array h.z h.k t.0.0 h.z_length h.k_length (h.k_is ∙ kz) fits)
array_ok f r ok e w s x h (suc k) kz p g =
    let c = bind_some (constructor_at x.1) (λ c. parts_at (f c.0) (suc k) c.1 >>= λ p. cond (fits_array r w x.0.0 (suc k) (length x.1 - length p.1)) (Some (array p.0, p.1)) None) p g in
    let b = bind_some (parts_at (f c.0.0) (suc k) c.0.1) (λ p. cond (fits_array r w x.0.0 (suc k) (length x.1 - length p.1)) (Some (array p.0, p.1)) None) p c.2 in
    let d = if_some (fits_array r w x.0.0 (suc k) (length x.1 - length b.0.1)) (Some (array b.0.0, b.0.1)) p b.2 in
    let m = constructor_ok x.1 c.0 c.1 in
    let t = parts_ok r c.0.0 (f c.0.0) (ok c.0.0) (suc k) c.0.1 b.0 b.1 in
    let both = two_parts x.1 m.0 c.0.1 t.0 b.0.1 m.1 t.1 in
    let n : length x.1 - length b.0.1 ≡ length m.0 + length t.0 = taken x.1 (m.0 ++ t.0) b.0.1 both ∙ length-append m.0 t.0 in
    let fits : FitsArray r w (number h.z) (number h.k) (length m.0 + length t.0) = rw (h.z_is, h.k_is, kz, ← n) (fits_array_ok r w x.0.0 (suc k) (length x.1 - length b.0.1) d.0) in
    subst (λ (q : Item × List ℕ). DataOf r e Kind.array (Array w) s q) (same_Some (array b.0.0, b.0.1) p d.1) (
      h.z ++ (h.k ++ (m.0 ++ t.0)),
      behind_header s h.z h.k x.1 (m.0 ++ t.0) b.0.1 h.parts both,
      filled e (h.z) (h.k) m.0 t.0 b.0.0 (h.z_length) (h.k_length) (h.k_is ∙ kz) t.2.1 m.2 t.2.0 fits,
    )
  where
    filled : (e : EncodingCodes) (z y m b : List ℕ) {c : Constructor} (is : Items) → length z ≡ w → length y ≡ w → number y ≡ suc k → count is ≡ suc k → Spells m c → Parts r c b is → FitsArray r w (number z) (number y) (length m + length b) → Data r e Kind.array (Array w) (z ++ (y ++ (m ++ b))) (array is)
    filled e z y m b none lz ly n q sp pt fits = absurd cc
    filled e z y m b (more i is) lz ly n q sp pt fits = of_array z y m b lz ly (n ∙ sym q) sp pt fits

shape_ok : (f : Constructor → List ℕ → Reading Item) (r : Rules) → ((c : Constructor) → Reads r c (f c)) → (e : EncodingCodes) (k : Kind) (c : Category) (s : List ℕ) (p : Item × List ℕ) → shape_at f r e k c s ≡ Some p → DataOf r e k c s p
shape_ok f r ok e k (Fixed n) s p h =
    let a = bind_some (scalar_at e (Fixed n) s) (λ q. Some (scalar q.0, q.1)) p h in
    let t = scalar_ok e (Fixed n) s a.0 a.1 in
    subst (λ (q : Item × List ℕ). DataOf r e k (Fixed n) s q) (same_Some (scalar a.0.0, a.0.1) p a.2) (t.0, t.1, of_fixed t.2)
shape_ok f r ok e k (Variable w) s p h =
    let a = bind_some (scalar_at e (Variable w) s) (λ q. Some (scalar q.0, q.1)) p h in
    let t = scalar_ok e (Variable w) s a.0 a.1 in
    subst (λ (q : Item × List ℕ). DataOf r e k (Variable w) s q) (same_Some (scalar a.0.0, a.0.1) p a.2) (t.0, t.1, of_variable t.2)
shape_ok f r ok e k (Compound w) s p h = compound_ok (f bare) r (ok bare) e k w s p h
shape_ok f r ok e Kind.array (Array w) s p h =
    let a = bind_some (header_at w s) (λ h. elements_at f r w h.0.0 h.0.1 h.1) p h in
    array_ok f r ok e w s a.0 (header_ok w s a.0 a.1) a.0.0.1 refl p a.2
shape_ok f r ok e _ (Array w) s p h = absurd cc

pub list0_is : (e : EncodingCodes) → is_list0 e ≡ true → List0 ≡ e
unfolding is_list0
list0_is List0 h = refl
list0_is _ h = absurd cc

data_ok : (f : Constructor → List ℕ → Reading Item) (r : Rules) → ((c : Constructor) → Reads r c (f c)) → (e : EncodingCodes) → Reads r (under e) (data_at f r e)
unfolding row
data_ok f r ok e s p h =
    ⊎_elim
    (λ q. subst (λ (t : Item × List ℕ). Took (λ b. Wire r (under e) b t.0) s t.1) (same_Some (list none, s) p q.1)
    ([], refl, subst (λ (d : EncodingCodes). Wire r (under d) [] (list none)) (list0_is e q.0) (of_data list0)))
    (λ q. let t = shape_ok f r ok e (row e).kind (row e).category s p q.1 in (t.0, t.1, of_data t.2))
    (if_cases (is_list0 e) (Some (list none, s)) (shape_at f r e (row e).kind (row e).category s) (Some p) h)

pub decode_ok : (n : ℕ) (r : Rules) (c : Constructor) → Reads r c (decode n r c)
unfolding decode
decode_ok zero r c s p h = absurd cc
decode_ok (suc n) r bare [] p h = absurd cc
decode_ok (suc n) r bare (zero ∷ s) p h =
    let d = bind_some (descriptor_at s) (λ d. decode n r bare d.1 >>= λ v. Some (described d.0 v.0, v.1)) p h in
    let v = bind_some (decode n r bare d.0.1) (λ v. Some (described d.0.0 v.0, v.1)) p d.2 in
    let t = descriptor_ok s d.0 d.1 in
    let u = decode_ok n r bare d.0.1 v.0 v.1 in
    subst (λ (q : Item × List ℕ). Took (λ b. Wire r bare b q.0) (0 ∷ s) q.1) (same_Some (described d.0.0 v.0.0, v.0.1) p v.2)
    (0 ∷ t.0 ++ u.0, ap (λ (y : List ℕ). 0 ∷ y) (two_parts s t.0 d.0.1 u.0 v.0.1 t.1 u.1), of_described t.0 u.0 t.2 u.2)
decode_ok (suc n) r bare (suc y ∷ s) p h =
    let c = bind_some (code_at (suc y ∷ s)) (λ c. data_at (decode n r) r c.0 c.1) p h in
    let x = code_ok (suc y ∷ s) c.0 c.1 in
    let t = data_ok (decode n r) r (decode_ok n r) c.0.0 c.0.1 p c.2 in
    (x.0 ∷ t.0, x.1 ∙ ap (λ (z : List ℕ). x.0 ∷ z) t.1, of_code x.2 t.2)
decode_ok (suc n) r (under e) s p h = data_ok (decode n r) r (decode_ok n r) e s p h
decode_ok (suc n) r (under_pair d e) s p h =
    let v = bind_some (data_at (decode n r) r e s) (λ v. Some (described d v.0, v.1)) p h in
    let t = data_ok (decode n r) r (decode_ok n r) e s v.0 v.1 in
    subst (λ (q : Item × List ℕ). Took (λ b. Wire r (under_pair d e) b q.0) s q.1) (same_Some (described d v.0.0, v.0.1) p v.2) (t.0, t.1, of_pair t.2)
