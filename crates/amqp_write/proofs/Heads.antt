-- The header of a compound, before its body.
use Rattle.std.proofs.Common.{◌≡◌, ℕ, ◌+◌, ◌%◌, ◌<◌, ◌≤◌, List, [], ◌∷◌, ◌++◌, length, refl, sym, ◌∙◌, ap, arith, Option, Some, None, true, false, Bool, if◌then◌else◌, append_assoc, inl, inr, ◌⊎◌, zero, suc}
use Rattle.std.proofs.lemmas.Bool.{eqb-true, ne_eqb, le-leb, lt-leb}
use Rattle.std.proofs.lemmas.List.{append-nil}
use Rattle.std.specs.Int.{bytes_high_first}
use Rattle.amqp_base.specs.Codes.{row}
use Rattle.amqp_base.specs.Wire.{Constructor, under}
use Rattle.amqp_base.specs.Canon.{◌>>=◌, constructor_text, is_under}
use Rattle.amqp_base.specs.Sizes.{Size}
use Rattle.amqp_base.specs.declared.shape.Shape.{Shape}
use Rattle.amqp_write.specs.State.{Mark, unmarked, first, other}
use Rattle.amqp_write.specs.Law.{placed}
use Rattle.amqp_write.specs.Wholes.{head_text, whole_text, shape_code, narrow_of, empty_list}
use Rattle.amqp_write.proofs.TextOf.{whole_none, whole_empty, whole_narrow, whole_wide, whole_placed}

long_not_empty : (shape : Shape) (n : ℕ) → 254 < n → empty_list shape n ≡ false
long_not_empty Shape.List n h = ne_eqb n 0 (λ e. omega (arith, e, h))
long_not_empty (Shape.Tuple k) n h = ne_eqb n 0 (λ e. omega (arith, e, h))
long_not_empty Shape.Map n h = refl
long_not_empty Shape.Fields n h = refl
long_not_empty Shape.Array n h = refl

if_none : (t : Bool) → (let n : Option (List ℕ) = None in if t then n else n) ≡ None
if_none true = refl
if_none false = refl

pub head_none : (shape : Shape) (m : Mark) (z : Size) → 4294967291 < z.length → head_text shape m z ≡ None
unfolding head_text
head_none shape unmarked z h = rw (long_not_empty shape z.length (omega (arith, h)), lt-leb z.length 254 (omega (arith, h)), lt-leb z.length 4294967291 h) refl
head_none shape first z h = rw (lt-leb z.length 4294967291 h) refl
head_none shape (other d) z h = rw (lt-leb z.length 4294967291 h) (if_none (is_under d (Some (under (shape_code shape)))))

pub head_empty : (shape : Shape) (z : Size) → empty_list shape z.length ≡ true → head_text shape unmarked z ≡ Some (0x45 ∷ [])
unfolding head_text
head_empty shape z h = rw h refl

pub head_narrow : (shape : Shape) (z : Size) → empty_list shape z.length ≡ false → z.length ≤ 254 → head_text shape unmarked z ≡ Some (narrow_of shape ∷ (z.length + 1) ∷ (z.count % 256) ∷ [])
unfolding head_text
head_narrow shape z h l = rw (h, le-leb z.length 254 l) refl

pub head_wide : (shape : Shape) (z : Size) → empty_list shape z.length ≡ false → 254 < z.length → z.length ≤ 4294967291 → head_text shape unmarked z ≡ Some ((row (shape_code shape)).byte ∷ (bytes_high_first 4 (z.length + 4) ++ bytes_high_first 4 (z.count % 4294967296)))
unfolding head_text
head_wide shape z h l m = rw (h, lt-leb z.length 254 l, le-leb z.length 4294967291 m) refl

pub head_placed : (shape : Shape) (mark : Mark) (z : Size) → (mark ≡ unmarked → ⊥) → z.length ≤ 4294967291 → head_text shape mark z ≡ placed mark (Some (under (shape_code shape))) (Some ((bytes_high_first 4 (z.length + 4) ++ bytes_high_first 4 (z.count % 4294967296)) ++ []))
unfolding head_text
head_placed shape unmarked z h m = absurd (h refl)
head_placed shape first z h m = rw (le-leb z.length 4294967291 m, append-nil (bytes_high_first 4 (z.length + 4) ++ bytes_high_first 4 (z.count % 4294967296))) refl
head_placed shape (other d) z h m = rw (le-leb z.length 4294967291 m, append-nil (bytes_high_first 4 (z.length + 4) ++ bytes_high_first 4 (z.count % 4294967296))) refl

-- a text behind a text
placed_more : (m : Mark) (c : Constructor) (h b : List ℕ) → (placed m (Some c) (Some h) >>= λ a. Some (a ++ b)) ≡ placed m (Some c) (Some (h ++ b))
placed_more unmarked c h b = refl
placed_more first c h b = go (constructor_text c)
  where
    go : (o : Option (List ℕ)) → ((o >>= λ m. Some (m ++ h)) >>= λ a. Some (a ++ b)) ≡ (o >>= λ m. Some (m ++ (h ++ b)))
    go None = refl
    go (Some m) = ap Some (append_assoc m h b)
placed_more (other d) c h b = go (is_under d (Some c))
  where
    go : (t : Bool) → ((if t then Some h else None) >>= λ a. Some (a ++ b)) ≡ (if t then Some (h ++ b) else None)
    go true = refl
    go false = refl

nil_of : (b : List ℕ) → length b ≡ 0 → b ≡ []
nil_of [] h = refl
nil_of (x ∷ b) h = absurd (omega (arith, h))

empty_nil : (shape : Shape) (b : List ℕ) → empty_list shape (length b) ≡ true → b ≡ []
empty_nil Shape.List b h = nil_of b (eqb-true (length b) 0 h)
empty_nil (Shape.Tuple k) b h = nil_of b (eqb-true (length b) 0 h)
empty_nil Shape.Map b h = cc
empty_nil Shape.Fields b h = cc
empty_nil Shape.Array b h = cc

pub total : (a b : ℕ) → (a ≤ b) ⊎ (b < a)
total zero b = inl (omega arith)
total (suc a) zero = inr (omega arith)
total (suc a) (suc b) = elim (total a b) [ inl h ↦ inl (omega (arith, h)) | inr h ↦ inr (omega (arith, h)) ]

pub bool_cases : (t : Bool) → (t ≡ true) ⊎ (t ≡ false)
bool_cases true = inl refl
bool_cases false = inr refl

-- a header that is there, and one that isn't
abbrev Headed : Shape → Mark → ℕ → List ℕ → Type 0
Headed shape m k b = whole_text shape m k b ≡ (head_text shape m (record { length = length b; count = k }) >>= λ h. Some (h ++ b))

empty_headed : (shape : Shape) (k : ℕ) (b : List ℕ) → empty_list shape (length b) ≡ true → Headed shape unmarked k b
empty_headed shape k b e = whole_empty shape k b e ∙ sym (ap (λ o. o >>= λ h. Some (h ++ b)) (head_empty shape (record { length = length b; count = k }) e) ∙ ap Some (let nil : b ≡ [] = empty_nil shape b e in rw nil refl))

long_headed : (shape : Shape) (m : Mark) (k : ℕ) (b : List ℕ) → 4294967291 < length b → Headed shape m k b
long_headed shape m k b h = whole_none shape m k b h ∙ sym (ap (λ o. o >>= λ h. Some (h ++ b)) (head_none shape m (record { length = length b; count = k }) h))

narrow_headed : (shape : Shape) (k : ℕ) (b : List ℕ) → empty_list shape (length b) ≡ false → length b ≤ 254 → k ≤ length b → Headed shape unmarked k b
narrow_headed shape k b e l f = whole_narrow shape k b e l f ∙ sym (ap (λ o. o >>= λ h. Some (h ++ b)) (head_narrow shape (record { length = length b; count = k }) e l))

wide_headed : (shape : Shape) (k : ℕ) (b : List ℕ) → empty_list shape (length b) ≡ false → 254 < length b → length b ≤ 4294967291 → k ≤ length b → Headed shape unmarked k b
wide_headed shape k b e l m f = whole_wide shape k b e l m f ∙ sym (ap (λ o. o >>= λ h. Some (h ++ b)) (head_wide shape (record { length = length b; count = k }) e l m) ∙ ap (λ z. Some ((row (shape_code shape)).byte ∷ z)) (append_assoc (bytes_high_first 4 (length b + 4)) (bytes_high_first 4 (k % 4294967296)) b))

placed_headed : (shape : Shape) (m : Mark) (k : ℕ) (b : List ℕ) → (m ≡ unmarked → ⊥) → length b ≤ 4294967291 → k ≤ length b → Headed shape m k b
placed_headed shape m k b u l f =
    let both = bytes_high_first 4 (length b + 4) ++ bytes_high_first 4 (k % 4294967296) in
    let head = head_placed shape m (record { length = length b; count = k }) u l ∙ ap (λ z. placed m (Some (under (shape_code shape))) (Some z)) (append-nil both) in
    whole_placed shape m k b u l f ∙ sym (ap (λ o. o >>= λ h. Some (h ++ b)) head ∙ placed_more m (under (shape_code shape)) both b)

unmarked_headed : (shape : Shape) (k : ℕ) (b : List ℕ) → k ≤ length b → Headed shape unmarked k b
unmarked_headed shape k b f = elim (bool_cases (empty_list shape (length b))) [
  | inl e ↦ empty_headed shape k b e
  | inr e ↦ elim (total (length b) 254) [
    | inl l ↦ narrow_headed shape k b e l f
    | inr l ↦ elim (total (length b) 4294967291) [
      | inl m ↦ wide_headed shape k b e l m f
      | inr m ↦ long_headed shape unmarked k b m
    ]
  ]
]

marked_headed : (shape : Shape) (m : Mark) (k : ℕ) (b : List ℕ) → (m ≡ unmarked → ⊥) → k ≤ length b → Headed shape m k b
marked_headed shape m k b u f = elim (total (length b) 4294967291) [
  | inl l ↦ placed_headed shape m k b u l f
  | inr l ↦ long_headed shape m k b l
]

-- a whole is its header and its body
pub whole_head : (shape : Shape) (m : Mark) (k : ℕ) (b : List ℕ) → k ≤ length b → whole_text shape m k b ≡ (head_text shape m (record { length = length b; count = k }) >>= λ h. Some (h ++ b))
whole_head shape unmarked k b f = unmarked_headed shape k b f
whole_head shape first k b f = marked_headed shape first k b (λ e. cc) f
whole_head shape (other d) k b f = marked_headed shape (other d) k b (λ e. cc) f
