-- The texts of strings outside arrays.
use Rattle.std.proofs.Common.{◌≡◌, ℕ, ◌+◌, ◌-◌, ◌<◌, ◌≤◌, List, [], ◌∷◌, ◌++◌, length, get_or, map, take, drop, set, min, Some, refl, sym, ◌∙◌, ap, subst, arith, append_assoc, length-append, length-take-le, length-drop, length-set, take-take, take-append-drop, take_at, Result, Ok, Err}
use Rattle.std.proofs.lemmas.List.{take_all}
use Rattle.std.proofs.lemmas.Grind.{take-set_at}
use Rattle.std.proofs.lemmas.Slice.{take-put_mid}
use Rattle.std.proofs.lemmas.Str.{is_utf8-from_IsUtf8}
use Rattle.std.proofs.Math.Seq.{take-add}
use borrow.Rule.Slice.PartMut.{put_mid}
use Rattle.std.specs.Int.{bytes_high_first}
use Rattle.std.specs.Str.{IsUtf8}
use Rattle.amqp_base.specs.Item.{Item, scalar, string}
use Rattle.amqp_base.specs.Codes.{row}
use Rattle.amqp_base.specs.declared.error.Error.{Error}
use Rattle.amqp_base.specs.declared.format_code.EncodingCodes.TheVariants.{Str32}
use Rattle.amqp_base.specs.declared.shape.Setting.TheVariants.{Plain}
use Rattle.amqp_write.specs.declared.refusal.Refusal.{Refusal}
use Rattle.amqp_write.specs.State.{State, Mark, unmarked}
use Rattle.amqp_write.specs.Appending.{Appended, as_error, error_of, payload_at}
use Rattle.amqp_write.specs.ManyTexts.{AreTexts, HaveTextsOf, PutsBytes, PutsText, WritesTexts}
use Rattle.amqp_write.proofs.ManyTexts.{Written, text_alone, one_more, put_length, lengths_more, written_more, written_refused, same_bad, same_done}
use Rattle.amqp_write.proofs.TextOf.{text_at, payload_narrow, payload_wide}
use Rattle.amqp_write.proofs.WideTexts.{scalar_sizes}

-- a string whose payload has this text
pub string_alone : (b t : List ℕ) → IsUtf8 b → payload_at unmarked 0xa1 Str32 b ≡ Some t → AreTexts unmarked (scalar (string b) ∷ []) t
string_alone b t u h = text_alone unmarked (scalar (string b)) _ (text_at unmarked b Plain (is_utf8-from_IsUtf8 b u) ∙ h) (scalar_sizes (string b))

pub narrow_string : (b : List ℕ) → IsUtf8 b → length b ≤ 254 → AreTexts unmarked (scalar (string b) ∷ []) (0xa1 ∷ length b ∷ b)
narrow_string b u h = string_alone b _ u (payload_narrow 0xa1 Str32 b h)

pub wide_string : (b : List ℕ) → IsUtf8 b → 254 < length b → length b ≤ 4294967291 → AreTexts unmarked (scalar (string b) ∷ []) (0xb1 ∷ (bytes_high_first 4 (length b) ++ b))
unfolding row
wide_string b u h k = string_alone b _ u (payload_wide 0xa1 Str32 b h k)

-- bytes that were put into a block by one copy
pub puts_bytes : (at k : ℕ) (xs b : List ℕ) → at + length b ≤ length xs → k ≡ length b → PutsBytes b at xs (put_mid at k xs b)
puts_bytes at k xs b room is = record {
  long = put_length xs b at k (omega (arith, room, is)) (sym is);
  front = take-put_mid at k xs b (at + length b) refl (omega (arith, room));
}

-- and by two: the first n of them, and from the m-th on
pub puts_ends : (at n m k j : ℕ) (xs b first last : List ℕ) → m ≤ n → m + n ≡ length b → k ≡ n → j ≡ n → at + length b ≤ length xs → first ≡ take n b → last ≡ drop m b → PutsBytes b at xs (put_mid (at + m) j (put_mid at k xs first) last)
puts_ends at n m k j xs b first last overlap is one_is two_is room front back =
    let mid : List ℕ = put_mid at k xs first in
    let first_is : length first ≡ n = ap length front ∙ length-take-le n b (omega (arith, is)) in
    let last_is : length last ≡ n = ap length back ∙ (length-drop m b ∙ omega (arith, is)) in
    let one : PutsBytes first at xs mid = puts_bytes at k xs first (omega (arith, room, is, first_is)) (one_is ∙ sym first_is) in
    let rest : List ℕ = drop m first in
    let cut : first ≡ take m b ++ rest = sym (take-append-drop m first) ∙ ap (λ l. l ++ rest) (ap (take m) front ∙ take-take m n b overlap) in
    let head : length (take at xs ++ take m b) ≡ at + m = omega (arith, length-append (take at xs) (take m b), length-take-le at xs (omega (arith, room)), length-take-le m b (omega (arith, is))) in
    let begins : take (at + length first) mid ≡ (take at xs ++ take m b) ++ rest = one.front ∙ (ap (λ l. take at xs ++ l) cut ∙ sym (append_assoc (take at xs) (take m b) rest)) in
    let below : take (at + m) mid ≡ take at xs ++ take m b = sym (take-take (at + m) (at + length first) mid (omega (arith, overlap, first_is))) ∙ (ap (take (at + m)) begins ∙ take_at (take at xs ++ take m b) rest (at + m) head) in
    record {
      long = put_length mid last (at + m) j (omega (arith, room, is, two_is, one.long)) (last_is ∙ sym two_is) ∙ one.long;
      front = take-put_mid (at + m) j mid last (at + length b) (omega (arith, last_is, is)) (omega (arith, room, is, one.long)) ∙ (ap (λ l. l ++ last) below ∙ (append_assoc (take at xs) (take m b) last ∙ ap (λ l. take at xs ++ l) (ap (λ l. take m b ++ l) back ∙ take-append-drop m b)));
    }

-- a block into which the text of a short string was put
pub puts_string : (at : ℕ) (xs b new : List ℕ) → at + 2 + length b ≤ length xs → IsUtf8 b → length b ≤ 254 → PutsBytes b (at + 2) (set (set xs at 0xa1) (at + 1) (length b)) new → PutsText unmarked (scalar (string b)) at xs (at + 2 + length b) new
puts_string at xs b new room u short put =
    let head = set (set xs at 0xa1) (at + 1) (length b) in
    let one = length-set xs at 0xa1 in
    let two = length-set (set xs at 0xa1) (at + 1) (length b) in
    let first : take (at + 1) (set xs at 0xa1) ≡ take at xs ++ 0xa1 ∷ [] = take-set_at xs at (at + 1) 0xa1 refl (omega (arith, room)) in
    let second : take (at + 2) head ≡ take (at + 1) (set xs at 0xa1) ++ length b ∷ [] = take-set_at (set xs at 0xa1) (at + 1) (at + 2) (length b) (omega arith) (omega (arith, room, one)) in
    record {
      bytes = 0xa1 ∷ length b ∷ b;
      texts = narrow_string b u short;
      ends = omega arith;
      long = put.long ∙ (two ∙ one);
      within = omega (arith, room, put.long, two, one);
      front = put.front ∙ (ap (λ ys. ys ++ b) (second ∙ (ap (λ ys. ys ++ length b ∷ []) first ∙ append_assoc (take at xs) (0xa1 ∷ []) (length b ∷ []))) ∙ append_assoc (take at xs) (0xa1 ∷ length b ∷ []) b);
    }

-- one text, appended or refused
pub writes_one : {A : Type 0} (m : Mark) (is : List Item) (b : List ℕ) (s : State) (r : Result A Error) (t : State) → AreTexts m is b → Appended s b r t → WritesTexts m is s r t
writes_one m is b s (Ok x) t h a = record { bytes = b; texts = h; appended = a }
writes_one m is b s (Err e) t h a = record { bytes = b; texts = tt; appended = a }

-- all of them, and none
pub writes_all : {X A B : Type 0} (m : Mark) (f : X → Item) (vs : List X) (s t : State) (r : Result A Refusal) (x : A) (y : B) → r ≡ Ok x → WritesTexts m (map f vs) s (as_error r) t → WritesTexts m (map f (take (length vs) vs)) s (Ok y) t
writes_all m f vs s t r x y is w =
    let v : WritesTexts m (map f vs) s (Ok x) t = rw is at w in
    record {
      bytes = v.bytes;
      texts = subst (λ xs. AreTexts m (map f xs) v.bytes) (sym (take_all (length vs) vs (omega arith))) v.texts;
      appended = same_done s t v.bytes x y v.appended;
    }

pub writes_none : {A B : Type 0} (m : Mark) (is js : List Item) (s t : State) (r : Result A Refusal) (e : Refusal) → r ≡ Err e → WritesTexts m is s (as_error r) t → WritesTexts {A = B} m js s (Err (error_of e)) t
writes_none m is js s t r e bad w =
    let v : WritesTexts m is s (Err (error_of e)) t = rw bad at w in
    record { bytes = v.bytes; texts = tt; appended = same_bad s t v.bytes (error_of e) v.appended }

pub lengths_next : {X : Type 0} (m : Mark) (f : X → Item) (vs : List X) (k : ℕ) (v : X) (sum few all : ℕ) → k < length vs → v ≡ get_or vs k v → all ≡ min (sum + few) 18446744073709551615 → HaveTextsOf m (map f (take k vs)) sum → HaveTextsOf m (f v ∷ []) few → HaveTextsOf m (map f (take (k + 1) vs)) all
lengths_next m f vs k v sum few all h e is a b = subst (λ xs. HaveTextsOf m (map f xs) all) (sym (one_more vs k v h e)) (lengths_more m f (take k vs) (v ∷ []) sum few all is a b)

pub written_next : {X A : Type 0} (m : Mark) (f : X → Item) (vs : List X) (k : ℕ) (v : X) (s t u : State) (r : Result A Refusal) (x : A) → k < length vs → v ≡ get_or vs k v → Written m (map f (take k vs)) s t → r ≡ Ok x → WritesTexts m (f v ∷ []) t (as_error r) u → Written m (map f (take (k + 1) vs)) s u
written_next m f vs k v s t u r x h e w is wrote =
    subst (λ xs. Written m (map f xs) s u) (sym (one_more vs k v h e)) (written_more m f (take k vs) (v ∷ []) s t u wrote.bytes r x w (rw is at wrote.texts) is wrote.appended)

pub written_some : {X A : Type 0} (m : Mark) (f : X → Item) (vs : List X) (k n : ℕ) (s t u : State) (b : List ℕ) (r : Result A Refusal) (x : A) → Written m (map f (take k vs)) s t → AreTexts m (map f (take n (take (length vs - k) (drop k vs)))) b → r ≡ Ok x → Appended t b (as_error r) u → Written m (map f (take (k + n) vs)) s u
written_some m f vs k n s t u b r x w texts is a =
    let rest : take (length vs - k) (drop k vs) ≡ drop k vs = take_all (length vs - k) (drop k vs) (omega (arith, length-drop k vs)) in
    subst (λ xs. Written m (map f xs) s u) (sym (take-add k n vs)) (written_more m f (take k vs) (take n (drop k vs)) s t u b r x w (rw rest at texts) is a)

pub written_till : {A : Type 0} (m : Mark) (is all next : List Item) (s t u : State) (r : Result A Refusal) (e : Refusal) → Written m is s t → r ≡ Err e → WritesTexts m next t (as_error r) u → WritesTexts {A = ℕ} m all s (as_error (Err e)) u
written_till m is all next s t u r e w bad wrote = writes_none m all all s u (Err e) e refl (written_refused m is all s t u wrote.bytes r e w bad wrote.appended)

pub refused_some : {A : Type 0} (m : Mark) (is all : List Item) (s t u : State) (b : List ℕ) (r : Result A Refusal) (e : Refusal) → Written m is s t → r ≡ Err e → Appended t b (as_error r) u → WritesTexts {A = ℕ} m all s (as_error (Err e)) u
refused_some m is all s t u b r e w bad a = writes_none m all all s u (Err e) e refl (written_refused m is all s t u b r e w bad a)
