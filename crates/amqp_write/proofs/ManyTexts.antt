-- The texts of numbers, many at a time.
use Rattle.std.proofs.Common.{◌≡◌, ℕ, ℤ, pos, negsuc, ◌+◌, ◌*◌, ◌/◌, ◌%◌, ◌^◌, ◌<◌, ◌==◌, ◌≤◌, List, [], ◌∷◌, ◌++◌, length, length-append, length-take, length-take-le, length-drop, append_assoc, set, suc, zero, get_or, map, take, drop, min, refl, sym, ◌∙◌, ap, subst, arith, Option, Some, true, Result, Ok, Err}
use Rattle.std.proofs.lemmas.Int.{ints}
use Rattle.std.proofs.lemmas.List.{take-append-drop, take_more, map-append, append-nil, take-take, length-set}
use Rattle.std.proofs.lemmas.Grind.{take-set_at}
use Rattle.std.proofs.lemmas.Slice.{take-put_mid}
use borrow.Rule.Slice.PartMut.{put_mid}
use Rattle.std.specs.Int.{w8, w32, bytes_high_first, cast_unsigned}
use mir.Val.{SFits}
use Rattle.amqp_base.specs.Item.{Item, items_of, Scalar, scalar, uint, ulong, int}
use Rattle.amqp_base.specs.Wire.{Constructor, under}
use Rattle.amqp_base.specs.Canon.{◌>>=◌}
use Rattle.amqp_base.specs.Sizes.{Size, sizes, sizes_in}
use Rattle.amqp_base.specs.declared.format_code.EncodingCodes.{EncodingCodes}
use Rattle.amqp_base.specs.declared.format_code.EncodingCodes.TheVariants.{Int, Uint, Ulong}
use Rattle.amqp_base.specs.Codes.{row}
use Rattle.amqp_write.specs.State.{Mark, unmarked, other}
use Rattle.amqp_write.specs.Law.{marked}
use Rattle.amqp_write.specs.Appending.{fixed_at}
use Rattle.amqp_write.specs.State.{State}
use Rattle.amqp_write.specs.Law.{measure_after}
use Rattle.amqp_write.specs.Appending.{Appended, as_error, error_of}
use Rattle.amqp_base.specs.declared.error.Error.{Error}
use Rattle.amqp_write.specs.declared.refusal.Refusal.{Refusal}
use Rattle.amqp_write.specs.ManyTexts.{IsText, texts_at, AreTexts, HaveTextsOf, IsFront, Puts, WritesTexts}
use Rattle.amqp_write.proofs.Bytes.{going_none, appended_all}
use Rattle.amqp_write.proofs.Steps.{appended_two}
use Rattle.amqp_write.proofs.PartTexts.{bind_some}
use Rattle.amqp_write.proofs.WideTexts.{Wide, wide_marked, int_1, int_wide, uint_0, uint_1, uint_wide, ulong_0, ulong_1, ulong_wide, scalar_sizes}

-- the low byte, moved up and read as the highest
low_byte : (z : ℤ) → SFits w8 z → cast_unsigned w32 z * 16777216 % 4294967296 / 16777216 % 256 ≡ cast_unsigned w8 z
low_byte (pos n) h = omega (arith, ints)
low_byte (negsuc n) h = omega (arith, ints)

pub small_int : (z : ℤ) (bits : ℕ) → bits ≡ cast_unsigned w32 z → SFits w8 z → IsText unmarked (scalar (int z)) (0x54 ∷ (bits * 16777216 % 4294967296 / 16777216 % 256) ∷ [])
small_int z bits is h = record {
  text = int_1 z h ∙ ap (λ b. Some (0x54 ∷ b ∷ [])) (sym (ap (λ n. n * 16777216 % 4294967296 / 16777216 % 256) is ∙ low_byte z h));
  flat = scalar_sizes (int z);
  short = omega arith;
}

wide_int_text : (z : ℤ) → (SFits w8 z → ⊥) → SFits w32 z → marked unmarked (scalar (int z)) ≡ Some (0x71 ∷ bytes_high_first 4 (cast_unsigned w32 z))
unfolding fixed_at row
wide_int_text z h f = wide_marked unmarked (int z) Int _ (int_wide unmarked z (λ _. h) f)

pub wide_int : (z : ℤ) (bits : ℕ) → bits ≡ cast_unsigned w32 z → (SFits w8 z → ⊥) → SFits w32 z → IsText unmarked (scalar (int z)) (0x71 ∷ bytes_high_first 4 bits)
wide_int z bits is h f = record {
  text = wide_int_text z h f ∙ ap (λ n. Some (0x71 ∷ bytes_high_first 4 n)) (sym is);
  flat = scalar_sizes (int z);
  short = omega arith;
}

pub zero_ulong : (n : ℕ) → n ≡ 0 → IsText unmarked (scalar (ulong n)) (0x44 ∷ [])
zero_ulong n h = record { text = ulong_0 n h; flat = scalar_sizes (ulong n); short = omega arith }

pub small_ulong : (n : ℕ) → (n ≡ 0 → ⊥) → n < 256 → IsText unmarked (scalar (ulong n)) (0x53 ∷ (n * 72057594037927936 % 18446744073709551616 / 72057594037927936 % 256) ∷ [])
small_ulong n some h =
    let byte : n ≡ n * 72057594037927936 % 18446744073709551616 / 72057594037927936 % 256 = omega (arith, h) in
    record { text = ulong_1 n some h ∙ ap (λ b. Some (0x53 ∷ b ∷ [])) byte; flat = scalar_sizes (ulong n); short = omega arith }

wide_ulong_text : (n : ℕ) → 256 ≤ n → n < 2 ^ 64 → marked unmarked (scalar (ulong n)) ≡ Some (0x80 ∷ bytes_high_first 8 n)
unfolding fixed_at row
wide_ulong_text n h f = wide_marked unmarked (ulong n) Ulong _ (ulong_wide unmarked n (λ _. h) f)

pub wide_ulong : (n : ℕ) → 256 ≤ n → n < 2 ^ 64 → IsText unmarked (scalar (ulong n)) (0x80 ∷ bytes_high_first 8 n)
wide_ulong n h f = record { text = wide_ulong_text n h f; flat = scalar_sizes (ulong n); short = omega arith }

pub zero_uint : (n : ℕ) → n ≡ 0 → IsText unmarked (scalar (uint n)) (0x43 ∷ [])
zero_uint n h = record { text = uint_0 n h; flat = scalar_sizes (uint n); short = omega arith }

pub small_uint : (n : ℕ) → (n ≡ 0 → ⊥) → n < 256 → IsText unmarked (scalar (uint n)) (0x52 ∷ (n * 16777216 % 4294967296 / 16777216 % 256) ∷ [])
small_uint n some h =
    let byte : n ≡ n * 16777216 % 4294967296 / 16777216 % 256 = omega (arith, h) in
    record { text = uint_1 n some h ∙ ap (λ b. Some (0x52 ∷ b ∷ [])) byte; flat = scalar_sizes (uint n); short = omega arith }

wide_uint_text : (n : ℕ) → 256 ≤ n → n < 2 ^ 32 → marked unmarked (scalar (uint n)) ≡ Some (0x70 ∷ bytes_high_first 4 n)
unfolding fixed_at row
wide_uint_text n h f = wide_marked unmarked (uint n) Uint _ (uint_wide unmarked n (λ _. h) f)

pub wide_uint : (n : ℕ) → 256 ≤ n → n < 2 ^ 32 → IsText unmarked (scalar (uint n)) (0x70 ∷ bytes_high_first 4 n)
wide_uint n h f = record { text = wide_uint_text n h f; flat = scalar_sizes (uint n); short = omega arith }

-- further elements, under the first one's code
inside : (e : EncodingCodes) (v : Scalar) (d : List ℕ) → Wide (other (under e)) v e d → ((row e).byte == (row e).byte) ≡ true → marked (other (under e)) (scalar v) ≡ Some d
unfolding fixed_at
inside e v d w same = wide_marked (other (under e)) v e d w ∙ rw same refl

other_not : (c : Constructor) → other c ≡ unmarked → ⊥
other_not c h = cc

pub int_element : (z : ℤ) → SFits w32 z → IsText (other (under Int)) (scalar (int z)) (bytes_high_first 4 (cast_unsigned w32 z))
unfolding row
int_element z f = record { text = inside Int (int z) _ (int_wide (other (under Int)) z (λ e. absurd (other_not _ e)) f) refl; flat = scalar_sizes (int z); short = omega arith }

pub uint_element : (n : ℕ) → n < 2 ^ 32 → IsText (other (under Uint)) (scalar (uint n)) (bytes_high_first 4 n)
unfolding row
uint_element n f = record { text = inside Uint (uint n) _ (uint_wide (other (under Uint)) n (λ e. absurd (other_not _ e)) f) refl; flat = scalar_sizes (uint n); short = omega arith }

pub ulong_element : (n : ℕ) → n < 2 ^ 64 → IsText (other (under Ulong)) (scalar (ulong n)) (bytes_high_first 8 n)
unfolding row
ulong_element n f = record { text = inside Ulong (ulong n) _ (ulong_wide (other (under Ulong)) n (λ e. absurd (other_not _ e)) f) refl; flat = scalar_sizes (ulong n); short = omega arith }

-- none, and more of them
pub texts_none : (m : Mark) → AreTexts m [] []
unfolding texts_at sizes_in
texts_none m = record { text = refl; flat = refl }

join : (o r : Option (List ℕ)) (x y : List ℕ) → o ≡ Some x → r ≡ Some y → (o >>= λ a. r >>= λ b. Some (a ++ b)) ≡ Some (x ++ y)
join o r x y h k = rw (h, k) refl

pub some_is : (x y : List ℕ) → Some x ≡ Some y → x ≡ y
some_is x y h = cc

joined : (m : Mark) (is js : List Item) (a b : List ℕ) → texts_at m is ≡ Some a → texts_at m js ≡ Some b → texts_at m (is ++ js) ≡ Some (a ++ b)
unfolding texts_at
joined m [] js a b h k = let e : [] ≡ a = some_is _ _ h in k ∙ ap (λ x. Some (x ++ b)) e
joined m (i ∷ is) js a b h k =
    let p = bind_some (marked m i) _ _ h in
    let q = bind_some (texts_at m is) _ _ p.2 in
    let e : p.0 ++ q.0 ≡ a = some_is _ _ q.2 in
    join _ _ p.0 (q.0 ++ b) p.1 (joined m is js q.0 b q.1 k) ∙ ap Some (sym (append_assoc p.0 q.0 b) ∙ ap (λ x. x ++ b) e)

nil_two : (a b : List Size) → a ++ b ≡ [] → (a ≡ []) × (b ≡ [])
nil_two [] b h = (refl, h)
nil_two (x ∷ a) b h = cc

flat_two : (is js : List Item) → sizes_in (items_of is) ≡ [] → sizes_in (items_of js) ≡ [] → sizes_in (items_of (is ++ js)) ≡ []
unfolding sizes_in
flat_two [] js h k = k
flat_two (i ∷ is) js h k =
    let p = nil_two (sizes i) (sizes_in (items_of is)) h in
    rw p.0 (flat_two is js p.1 k)

pub texts_two : (m : Mark) (is js : List Item) (a b : List ℕ) → AreTexts m is a → AreTexts m js b → AreTexts m (is ++ js) (a ++ b)
texts_two m is js a b h k = record { text = joined m is js a b h.text k.text; flat = flat_two is js h.flat k.flat }

-- of one alone
pub text_alone : (m : Mark) (i : Item) (b : List ℕ) → marked m i ≡ Some b → sizes i ≡ [] → AreTexts m (i ∷ []) b
unfolding texts_at sizes_in
text_alone m i b text flat = record { text = rw text (ap Some (append-nil b)); flat = rw flat refl }

-- of one value more
pub one_more : {X : Type 0} (vs : List X) (k : ℕ) (v : X) → k < length vs → v ≡ get_or vs k v → take (k + 1) vs ≡ take k vs ++ v ∷ []
one_more vs k v h e = take_more vs k v h ∙ ap (λ x. take k vs ++ x ∷ []) (sym e)

pub texts_more : {X : Type 0} (m : Mark) (f : X → Item) (vs : List X) (k : ℕ) (v : X) (a b : List ℕ) → k < length vs → v ≡ get_or vs k v → AreTexts m (map f (take k vs)) a → AreTexts m (f v ∷ []) b → AreTexts m (map f (take (k + 1) vs)) (a ++ b)
texts_more m f vs k v a b h e front text = subst (λ is. AreTexts m is (a ++ b)) (sym (ap (map f) (one_more vs k v h e) ∙ map-append f (take k vs) (v ∷ []))) (texts_two m (map f (take k vs)) (f v ∷ []) a b front text)

pub texts_next : {X : Type 0} (m : Mark) (f : X → Item) (vs : List X) (k : ℕ) (v : X) (a b : List ℕ) → k < length vs → v ≡ get_or vs k v → AreTexts m (map f (take k vs)) a → IsText m (f v) b → AreTexts m (map f (take (k + 1) vs)) (a ++ b)
texts_next m f vs k v a b h e front text = texts_more m f vs k v a b h e front (text_alone m (f v) b text.text text.flat)

-- of a front, and of the values behind it
pub texts_behind : {X : Type 0} (m : Mark) (f : X → Item) (front now : List X) (a b : List ℕ) → AreTexts m (map f front) a → AreTexts m (map f now) b → AreTexts m (map f (front ++ now)) (a ++ b)
texts_behind m f front now a b h k = subst (λ is. AreTexts m is (a ++ b)) (sym (map-append f front now)) (texts_two m (map f front) (map f now) a b h k)

pub further : {X : Type 0} (vs front rest now later : List X) (n : ℕ) → vs ≡ front ++ rest → now ≡ take n rest → later ≡ drop n rest → vs ≡ (front ++ now) ++ later
further vs front rest now later n h is behind =
    let split : rest ≡ now ++ later = sym (take-append-drop n rest) ∙ (rw (is, behind) refl) in
    h ∙ (ap (λ xs. front ++ xs) split ∙ sym (append_assoc front now later))

-- at the end the front is all
pub at_end : {X : Type 0} (vs front rest : List X) → vs ≡ front ++ rest → rest ≡ [] → front ≡ vs
at_end vs front rest h e = sym (h ∙ (ap (λ xs. front ++ xs) e ∙ append-nil front))

-- how long they are
pub lengths_more : {X : Type 0} (m : Mark) (f : X → Item) (front now : List X) (sum few all : ℕ) → all ≡ min (sum + few) 18446744073709551615 → HaveTextsOf m (map f front) sum → HaveTextsOf m (map f now) few → HaveTextsOf m (map f (front ++ now)) all
lengths_more m f front now sum few all is h k =
    let len : length (h.0 ++ k.0) ≡ length h.0 + length k.0 = length-append h.0 k.0 in
    (h.0 ++ k.0, texts_behind m f front now h.0 k.0 h.1 k.1, omega (arith, is, len, h.2, k.2))

-- from s to t by the texts of these numbers
pub record Written (m : Mark) (is : List Item) (s t : State) : Type 0 where
  pub bytes : List ℕ
  pub front : AreTexts m is bytes
  pub appended : Appended {A = ℕ} s bytes (Ok 0) t

pub same_bad : {A B : Type 0} (s t : State) (b : List ℕ) (e : Error) → Appended {A = A} s b (Err e) t → Appended {A = B} s b (Err e) t
same_bad s t b e h = record { kept = h.kept; device = h.device; ok = tt; err = h.err; refused = h.refused; spares = h.spares }

pub same_done : {A B : Type 0} (s t : State) (b : List ℕ) (x : A) (y : B) → Appended s b (Ok x) t → Appended s b (Ok y) t
same_done s t b x y h = record { kept = h.kept; device = tt; ok = h.ok; err = tt; refused = tt; spares = tt }

pub written_none : (m : Mark) (s : State) → s.measure ≡ measure_after s.measure [] 0 → Written m [] s s
written_none m s measure = record { bytes = []; front = texts_none m; appended = appended_all 0 s s [] [] refl (going_none s [] measure) }

pub written_more : {X A : Type 0} (m : Mark) (f : X → Item) (front now : List X) (s t u : State) (b : List ℕ) (r : Result A Refusal) (x : A) → Written m (map f front) s t → AreTexts m (map f now) b → r ≡ Ok x → Appended t b (as_error r) u → Written m (map f (front ++ now)) s u
written_more m f front now s t u b r x w next is h = record {
  bytes = w.bytes ++ b;
  front = texts_behind m f front now w.bytes b w.front next;
  appended = appended_two s t u w.bytes b 0 (Ok 0) w.appended (same_done t u b x 0 (rw is at h));
}

pub written_refused : {A : Type 0} (m : Mark) (is all : List Item) (s t u : State) (b : List ℕ) (r : Result A Refusal) (e : Refusal) → Written m is s t → r ≡ Err e → Appended t b (as_error r) u → WritesTexts {A = A} m all s (as_error (Err e)) u
written_refused m is all s t u b r e w bad h = record {
  bytes = w.bytes ++ b;
  texts = tt;
  appended = same_bad s u (w.bytes ++ b) (error_of e) (appended_two s t u w.bytes b 0 (Err (error_of e)) w.appended (same_bad t u b (error_of e) (rw bad at h)));
}

pub written_all : {X B : Type 0} (m : Mark) (f : X → Item) (vs front rest : List X) (s t : State) (y : B) → vs ≡ front ++ rest → rest ≡ [] → Written m (map f front) s t → WritesTexts m (map f vs) s (Ok y) t
written_all m f vs front rest s t y split none w = record {
  bytes = w.bytes;
  texts = subst (λ xs. AreTexts m (map f xs) w.bytes) (at_end vs front rest split none) w.front;
  appended = same_done s t w.bytes 0 y w.appended;
}

-- a block into which a text was put
take_behind : (xs ys : List ℕ) (at n : ℕ) → length xs ≡ at → take (at + n) (xs ++ ys) ≡ xs ++ take n ys
take_behind [] ys at n h = ap (λ k. take k ys) (omega (arith, h))
take_behind (x ∷ xs) ys zero n h = absurd (omega (arith, h))
take_behind (x ∷ xs) ys (suc at) n h = rw (suc_plus at n) (ap (λ zs. x ∷ zs) (take_behind xs ys at n (omega (arith, h))))
  where
    suc_plus : (at n : ℕ) → suc at + n ≡ suc (at + n)
    suc_plus at n = omega arith

pub put_length : (xs ys : List ℕ) (a k : ℕ) → a + k ≤ length xs → length ys ≡ k → length (put_mid a k xs ys) ≡ length xs
put_length xs ys a k h e = simp (length-append, length-take, length-drop) (omega (arith, h, e))

pub puts_front : (i : Item) (at n k code : ℕ) (xs bs : List ℕ) → at + 10 ≤ length xs → length bs ≤ 8 → k ≡ length bs → IsFront i (code ∷ bs) n → Puts unmarked i at xs (at + n) (put_mid (at + 1) k (set xs at code) bs)
puts_front i at n k code xs bs room short is f =
    let new = put_mid (at + 1) k (set xs at code) bs in
    let len : length (set xs at code) ≡ length xs = length-set xs at code in
    let below = f.1 in
    let fits : n ≤ 1 + length bs = omega (arith, below) in
    let first : take (at + 1) (set xs at code) ≡ take at xs ++ code ∷ [] = take-set_at xs at (at + 1) code refl (omega (arith, room)) in
    let all : take (at + 1 + length bs) new ≡ take at xs ++ code ∷ bs = take-put_mid (at + 1) k (set xs at code) bs (at + 1 + length bs) refl (omega (arith, len, room)) ∙ (ap (λ ys. ys ++ bs) first ∙ append_assoc (take at xs) (code ∷ []) bs) in
    let part : take (at + n) new ≡ take at xs ++ take n (code ∷ bs) = sym (take-take (at + n) (at + 1 + length bs) new (omega (arith, fits))) ∙ (ap (take (at + n)) all ∙ take_behind (take at xs) (code ∷ bs) at n (length-take-le at xs (omega (arith, room)))) in
    record {
      bytes = take n (code ∷ bs);
      text = f.0;
      ends = let long : length (take n (code ∷ bs)) ≡ n = length-take-le n (code ∷ bs) f.1 in omega (arith, long);
      long = put_length (set xs at code) bs (at + 1) k (omega (arith, len, room, short, is)) (sym is) ∙ len;
      front = part;
    }

pub puts_data : (m : Mark) (i : Item) (at n k : ℕ) (xs bs : List ℕ) → at + n ≤ length xs → n ≡ length bs → k ≡ n → IsText m i bs → Puts m i at xs (at + n) (put_mid at k xs bs)
puts_data m i at n k xs bs room is same text =
    let all : take (at + length bs) (put_mid at k xs bs) ≡ take at xs ++ bs = take-put_mid at k xs bs (at + length bs) refl (omega (arith, room, is, same)) in
    record {
      bytes = bs;
      text = text;
      ends = ap (λ l. at + l) is;
      long = put_length xs bs at k (omega (arith, room, same)) (sym (same ∙ is));
      front = ap (λ l. take (at + l) (put_mid at k xs bs)) is ∙ all;
    }
