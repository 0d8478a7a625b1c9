-- Descriptors, and the constructor of an array's elements.
use Rattle.std.proofs.Common.{◌≡◌, ℕ, zero, suc, Bool, true, List, [], ◌∷◌, ◌++◌, length, ◌<◌, Option, Some, None, Result, Ok, Err, refl, sym, ap, subst, ◌∙◌, arith, inl, inr, ◌⊎◌, append_assoc}
use Rattle.amqp_base.specs.declared.error.Error.{Error}
use Rattle.amqp_base.specs.declared.error.Error.TheVariants.{InvalidFormatCode, Message, OutOfMemory, Io}
use Rattle.std.specs.declared.io.ErrorKind.TheVariants.{UnexpectedEof}
use Rattle.amqp_base.specs.declared.format_code.EncodingCodes.{EncodingCodes}
use Rattle.amqp_base.specs.declared.format_code.EncodingCodes.TheVariants.{DescribedType, Sym8, Sym32, Ulong, SmallUlong, Ulong0}
use Rattle.amqp_base.specs.declared.format_code.Category.{Category}
use Rattle.amqp_base.specs.Codes.{Kind, row, code_of, CodeOf}
use Rattle.amqp_base.specs.SameKind.{same_kind, place}
use Rattle.amqp_base.specs.Refusals.{IsCustom, StandsFor}
use Rattle.amqp_base.specs.Item.{Descriptor, name, code, descriptor_item, scalar}
use Rattle.amqp_base.specs.Wire.{Constructor, under, under_pair, code_and_data, ScalarData, Spells, primitive, pair, DescriptorText}
use Rattle.amqp_base.proofs.KindPlaces.{kind_same}
use Rattle.amqp_base.proofs.OneFront.{no_code}
use Rattle.amqp_base.proofs.CodeAgain.{code_again}
use Rattle.amqp_data.proofs.KindCodes.{code_byte}
use Rattle.amqp_read.specs.Reading.{Reading, Takes}
use Rattle.amqp_data.specs.Excuses.{Excused, no_memory}
use Rattle.amqp_base.specs.Parse.{Parsed, ◌>>=◌, byte_at, by_category, data_at, behind_byte, code_or_refusal, with_rest, descriptor_data, descriptor_at, descriptor_or, described_by, is_descriptor_kind, primitive_at, constructor_behind, constructor_at}
use Rattle.amqp_data.specs.Arrays.{TakesDescriptor, TakesConstructor, TakesPrimitive, PrimitiveOf}
use Rattle.amqp_data.specs.Steps.{Rejects, IsData, Unread}
use Rattle.amqp_data.proofs.Readings.{takes_then, rejects_then, rejects_here, rejects_more, unread_rejects, advances_same}
use Rattle.amqp_data.proofs.Data.{behind_code, by_category_is, scalar_under, data_kind}
use Rattle.amqp_data.proofs.FixedWidth.{not_device, custom_device}
use Rattle.amqp_data.proofs.CodeBytes.{any_again, any_none}

-- ---- the data of a descriptor

-- a refusal of a kind's data is one of a descriptor's
of_kind : (custom err : Error) (k : Kind) (e : EncodingCodes) (s : List ℕ) → (row e).kind ≡ k → is_descriptor_kind k ≡ true → data_at k e s ≡ Err err → descriptor_data custom e s ≡ Err err
unfolding data_at descriptor_data
of_kind custom err k e s p q h =
    let f : by_category e (row e).category s ≡ Err err = rw (kind_same (row e).kind k p) at h in
    rw (p, q, f) refl

pub kind_refused : {grows buffers : Bool} (custom : Error) (k : Kind) (x : ℕ) (e : EncodingCodes) (old new : Reading) (err : Error) → code_of x ≡ Some e → (row e).kind ≡ k → is_descriptor_kind k ≡ true
    → Rejects grows buffers (behind_byte (data_at k) x) old new err → Rejects true buffers (behind_byte (descriptor_data custom) x) old new err
kind_refused {grows} {buffers} custom k x e old new err c p q n = rejects_more (behind_byte (descriptor_data custom) x) old new err (λ _. refl) (record { why = λ s at h. tell s (n.why s at h); steady = n.steady; device = n.device; memory = n.memory })
  where
    tell : (s : List ℕ) → (behind_byte (data_at k) x s ≡ Err err) ⊎ Excused grows buffers old new err → (behind_byte (descriptor_data custom) x s ≡ Err err) ⊎ Excused grows buffers old new err
    tell s (inl h) = inl (behind_code (descriptor_data custom) x e s c ∙ of_kind custom err k e s p q (sym (behind_code (data_at k) x e s c) ∙ h))
    tell s (inr y) = inr y

pub symbol_refused : {grows buffers : Bool} (custom : Error) (x : ℕ) (old new : Reading) (err : Error) → (x ≡ 0xa3) ⊎ (x ≡ 0xb3) → Rejects grows buffers (behind_byte (data_at Kind.symbol) x) old new err → Rejects true buffers (behind_byte (descriptor_data custom) x) old new err
unfolding code_of row same_kind place
symbol_refused custom x old new err (inl h) n = kind_refused custom Kind.symbol x Sym8 old new err (rw h refl) refl refl n
symbol_refused custom x old new err (inr h) n = kind_refused custom Kind.symbol x Sym32 old new err (rw h refl) refl refl n

pub ulong_refused : {grows buffers : Bool} (custom : Error) (x : ℕ) (old new : Reading) (err : Error) → (x ≡ 0x80) ⊎ ((x ≡ 0x53) ⊎ (x ≡ 0x44)) → Rejects grows buffers (behind_byte (data_at Kind.ulong) x) old new err → Rejects true buffers (behind_byte (descriptor_data custom) x) old new err
unfolding code_of row same_kind place
ulong_refused custom x old new err (inl h) n = kind_refused custom Kind.ulong x Ulong old new err (rw h refl) refl refl n
ulong_refused custom x old new err (inr (inl h)) n = kind_refused custom Kind.ulong x SmallUlong old new err (rw h refl) refl refl n
ulong_refused custom x old new err (inr (inr h)) n = kind_refused custom Kind.ulong x Ulong0 old new err (rw h refl) refl refl n

pub other_descriptor : (custom : Error) (e : EncodingCodes) (s : List ℕ) → (e ≡ Sym8 → ⊥) → (e ≡ Sym32 → ⊥) → (e ≡ Ulong → ⊥) → (e ≡ SmallUlong → ⊥) → (e ≡ Ulong0 → ⊥) → descriptor_data custom e s ≡ Err custom
unfolding descriptor_data row same_kind place
other_descriptor custom Sym8 s a b c d f = absurd (a refl)
other_descriptor custom Sym32 s a b c d f = absurd (b refl)
other_descriptor custom Ulong s a b c d f = absurd (c refl)
other_descriptor custom SmallUlong s a b c d f = absurd (d refl)
other_descriptor custom Ulong0 s a b c d f = absurd (f refl)
other_descriptor custom _ s a b c d f = refl

pub byte_not : (x n : ℕ) (e f : EncodingCodes) → (row e).byte ≡ x → (row f).byte ≡ n → (x ≡ n → ⊥) → e ≡ f → ⊥
byte_not x n e f p q d h = d (sym p ∙ ap (λ (z : EncodingCodes). (row z).byte) h ∙ q)

-- a code of another kind
pub no_descriptor : (buffers : Bool) (custom : Error) (x : ℕ) (e : EncodingCodes) (text : List ℕ) (r : Reading) (err : Error) → CodeOf x (Ok e) → (x ≡ 0xa3 → ⊥) → (x ≡ 0xb3 → ⊥) → (x ≡ 0x80 → ⊥) → (x ≡ 0x53 → ⊥) → (x ≡ 0x44 → ⊥)
    → IsCustom text err → StandsFor custom err → Rejects true buffers (behind_byte (descriptor_data custom) x) r r err
unfolding row
no_descriptor buffers custom x e text r err c a b u v w m h = record {
  why = λ s at honest. tell s err refl m h;
  steady = advances_same r;
  device = λ d. absurd (custom_device text err m d);
  memory = λ _. refl;
}
  where
    parsed : (s : List ℕ) → behind_byte (descriptor_data custom) x s ≡ Err custom
    parsed s = subst (λ (n : ℕ). behind_byte (descriptor_data custom) n s ≡ Err custom) c (rw (any_again e) (other_descriptor custom e s
        (byte_not x 0xa3 e Sym8 c refl a) (byte_not x 0xb3 e Sym32 c refl b) (byte_not x 0x80 e Ulong c refl u) (byte_not x 0x53 e SmallUlong c refl v) (byte_not x 0x44 e Ulong0 c refl w)))

    tell : (s : List ℕ) (z : Error) → z ≡ err → IsCustom text z → StandsFor custom z → (behind_byte (descriptor_data custom) x s ≡ Err err) ⊎ Excused true buffers r r err
    tell s (Message t) q i j = inl (parsed s ∙ ap Err (j tt ∙ q))
    tell s OutOfMemory q i j = inr (no_memory (sym q) refl)
    tell s _ q i j = absurd i

-- no code
pub no_code_there : {A : Type 0} {grows buffers : Bool} (data_of : EncodingCodes → List ℕ → Parsed A) (x : ℕ) (r : Reading) (err : Error) → CodeOf x (Err err) → Rejects grows buffers (behind_byte data_of x) r r err
no_code_there data_of x r err c = rw c.0 (rejects_here (behind_byte data_of x) r InvalidFormatCode not_device (λ s. rw (any_none x c.1) refl))

descriptor_kind : (d : Descriptor) (e : EncodingCodes) (c : Category) (t : List ℕ) → ScalarData e c t (descriptor_item d) → is_descriptor_kind (row e).kind ≡ true
unfolding same_kind place
descriptor_kind (name b) e c t h = rw (data_kind h) refl
descriptor_kind (code n) e c t h = rw (data_kind h) refl

described_again : (custom : Error) (d : Descriptor) (s : List ℕ) → descriptor_or custom (described_by (descriptor_item d)) s ≡ Ok (d, s)
described_again custom (name b) s = refl
described_again custom (code n) s = refl

-- a descriptor that stands parses
data_parses : (custom : Error) (d : Descriptor) (e : EncodingCodes) (t rest : List ℕ) → ScalarData e (row e).category t (descriptor_item d) → descriptor_data custom e (t ++ rest) ≡ Ok (d, rest)
unfolding descriptor_data
data_parses custom d e t rest h = rw (descriptor_kind d e (row e).category t h, by_category_is h rest) (described_again custom d rest)

pub descriptor_parses : (custom : Error) (a rest : List ℕ) (d : Descriptor) → DescriptorText a d → descriptor_at custom (a ++ rest) ≡ Ok (d, rest)
descriptor_parses custom a rest d (code_and_data {x = x} {e = e} {b = b} p h) = behind_code (descriptor_data custom) x e (b ++ rest) p ∙ data_parses custom d e b rest h

-- ---- a descriptor

pub takes_descriptor : (d : Descriptor) (x : ℕ) (old mid new : Reading) → Takes old mid (x ∷ []) → IsData x (scalar (descriptor_item d)) mid new → TakesDescriptor d old new
takes_descriptor d x old mid new t i = record {
  text = x ∷ i.text;
  spelled = code_and_data i.code_is (scalar_under i.spelled);
  step = takes_then old mid new (x ∷ []) i.text t i.step;
}

no_byte : (s : List ℕ) → length s < 1 → byte_at s ≡ Err (Io UnexpectedEof)
no_byte [] l = refl
no_byte (x ∷ s) l = absurd (omega arith)

-- no byte, whatever is looked at behind it
pub byte_missing : {A : Type 0} (next : ℕ × List ℕ → Parsed A) (buffers : Bool) (old new : Reading) (e : Error) → Unread buffers buffers 1 old new e → Rejects true buffers (λ s. byte_at s >>= next) old new e
byte_missing next buffers old new e u = rejects_more (λ s. byte_at s >>= next) old new e (λ _. refl) (unread_rejects (λ s. byte_at s >>= next) 1 old new e (λ s l. rw (no_byte s l) refl) u)

-- what is refused behind a byte
pub behind_first : {A : Type 0} (next : ℕ → List ℕ → Parsed A) (buffers : Bool) (x : ℕ) (old mid new : Reading) (e : Error) → Takes old mid (x ∷ []) → Rejects true buffers (next x) mid new e → Rejects true buffers (λ s. byte_at s >>= λ b. next b.0 b.1) old new e
behind_first next buffers x old mid new e t n = rejects_then (λ s. byte_at s >>= λ b. next b.0 b.1) (next x) old mid new (x ∷ []) e t (λ s h. h) n

-- ---- a primitive code

any_primitive : (x : ℕ) (e : EncodingCodes) → CodeOf x (Ok e) → (e ≡ DescribedType → ⊥) → code_of x ≡ Some e
any_primitive x e c n = tell (code_again e)
  where
    tell : (code_of (row e).byte ≡ Some e) ⊎ (e ≡ DescribedType) → code_of x ≡ Some e
    tell (inl h) = ap code_of (sym c) ∙ h
    tell (inr h) = absurd (n h)

none_primitive : (x : ℕ) → ((d : EncodingCodes) → (row d).byte ≡ x → ⊥) → code_of x ≡ None
none_primitive x n = tell (code_of x) refl
  where
    tell : (o : Option EncodingCodes) → code_of x ≡ o → code_of x ≡ None
    tell (Some e) h = absurd (n e (code_byte x e h))
    tell None h = h

pub primitive_zero : (x : ℕ) → x ≡ 0 → PrimitiveOf x (Err InvalidFormatCode)
unfolding code_of row
primitive_zero x h = (refl, rw h refl)

pub primitive_of : (x : ℕ) (r : Result EncodingCodes Error) → (x ≡ 0 → ⊥) → CodeOf x r → PrimitiveOf x r
unfolding row
primitive_of x (Ok e) n c = any_primitive x e c (λ h. n (sym c ∙ ap (λ (z : EncodingCodes). (row z).byte) h))
primitive_of x (Err e) n c = (c.0, none_primitive x c.1)

pub takes_primitive : (x : ℕ) (e : EncodingCodes) (old new : Reading) → Takes old new (x ∷ []) → PrimitiveOf x (Ok e) → TakesPrimitive e old new
takes_primitive x e old new t c = record { byte = x; code_is = c; step = t }

abbrev code_after : ℕ → List ℕ → Parsed EncodingCodes
code_after x s = with_rest s (code_or_refusal (code_of x))

pub no_primitive : (buffers : Bool) (x : ℕ) (old mid : Reading) (e : Error) → Takes old mid (x ∷ []) → PrimitiveOf x (Err e) → Rejects true buffers primitive_at old mid e
no_primitive buffers x old mid e t c = behind_first code_after buffers x old mid mid e t (rw c.0 (rejects_here (code_after x) mid InvalidFormatCode not_device (λ s. rw c.1 refl)))

-- ---- the constructor of an array's elements

-- a refusal, whatever is looked at behind it
pub rejects_front : {A B : Type 0} {grows buffers : Bool} (parse : List ℕ → Parsed A) (next : A × List ℕ → Parsed B) (old new : Reading) (e : Error) → Rejects grows buffers parse old new e → Rejects grows buffers (λ s. parse s >>= next) old new e
rejects_front {grows = grows} {buffers = buffers} parse next old new e n = record { why = λ s at h. tell s (n.why s at h); steady = n.steady; device = n.device; memory = n.memory }
  where
    tell : (s : List ℕ) → (parse s ≡ Err e) ⊎ Excused grows buffers old new e → ((parse s >>= next) ≡ Err e) ⊎ Excused grows buffers old new e
    tell s (inl p) = inl (rw p refl)
    tell s (inr y) = inr y

pub under_code : (x : ℕ) (e : EncodingCodes) (old new : Reading) → Takes old new (x ∷ []) → PrimitiveOf x (Ok e) → TakesConstructor (under e) old new
under_code x e old new t c = record { text = x ∷ []; spelled = primitive c; step = t }

pub under_descriptor : (x : ℕ) (d : Descriptor) (e : EncodingCodes) (a b c f : Reading) → x ≡ 0 → Takes a b (x ∷ []) → TakesDescriptor d b c → TakesPrimitive e c f → TakesConstructor (under_pair d e) a f
under_descriptor x d e a b c f z t n p = record {
  text = 0 ∷ n.text ++ p.byte ∷ [];
  spelled = pair n.text p.byte n.spelled p.code_is;
  step = takes_then a b f (0 ∷ []) (n.text ++ p.byte ∷ []) (rw z at t) (takes_then b c f n.text (p.byte ∷ []) n.step p.step);
}

pub no_first : (custom : Error) (buffers : Bool) (old new : Reading) (e : Error) → Unread buffers buffers 1 old new e → Rejects true buffers (constructor_at custom) old new e
unfolding constructor_at
no_first custom buffers old new e u = byte_missing (λ b. constructor_behind custom b.0 b.1) buffers old new e u

pub no_name : (custom : Error) (buffers : Bool) (x : ℕ) (old mid new : Reading) (e : Error) → x ≡ 0 → Takes old mid (x ∷ []) → Rejects true buffers (descriptor_at custom) mid new e → Rejects true buffers (constructor_at custom) old new e
unfolding constructor_at
no_name custom buffers x old mid new e z t n =
    behind_first (constructor_behind custom) buffers x old mid new e t (rw z (rejects_front (descriptor_at custom) (λ d. primitive_at d.1 >>= λ f. Ok (under_pair d.0 f.0, f.1)) mid new e n))

pub no_code_behind : (custom : Error) (buffers : Bool) (x : ℕ) (d : Descriptor) (old mid next new : Reading) (e : Error) → x ≡ 0 → Takes old mid (x ∷ []) → TakesDescriptor d mid next → Rejects true buffers primitive_at next new e → Rejects true buffers (constructor_at custom) old new e
unfolding constructor_at
no_code_behind custom buffers x d old mid next new e z t n p =
    behind_first (constructor_behind custom) buffers x old mid new e t (rw z (rejects_then (constructor_behind custom 0) primitive_at mid next new n.text e n.step hand p))
  where
    hand : (s : List ℕ) → primitive_at s ≡ Err e → constructor_behind custom 0 (n.text ++ s) ≡ Err e
    hand s h = rw (descriptor_parses custom n.text s d n.spelled, h) refl

other_first : (custom : Error) (buffers : Bool) (x : ℕ) (r : Reading) (e : Error) → (x ≡ 0 → ⊥) → PrimitiveOf x (Err e) → Rejects true buffers (constructor_behind custom x) r r e
other_first custom buffers zero r e z c = absurd (z refl)
other_first custom buffers (suc n) r e z c = rw c.0 (rejects_here (constructor_behind custom (suc n)) r InvalidFormatCode not_device (λ s. rw c.1 refl))

pub no_constructor : (custom : Error) (buffers : Bool) (x : ℕ) (old mid : Reading) (e : Error) → (x ≡ 0 → ⊥) → Takes old mid (x ∷ []) → PrimitiveOf x (Err e) → Rejects true buffers (constructor_at custom) old mid e
unfolding constructor_at
no_constructor custom buffers x old mid e z t c = behind_first (constructor_behind custom) buffers x old mid mid e t (other_first custom buffers x mid e z c)

-- a constructor that stands parses
pub constructor_parses : (custom : Error) (m rest : List ℕ) (c : Constructor) → Spells m c → constructor_at custom (m ++ rest) ≡ Ok (c, rest)
unfolding constructor_at
constructor_parses custom m rest c (primitive {x = zero} p) = absurd (no_code p)
constructor_parses custom m rest c (primitive {x = suc n} p) = rw p refl
constructor_parses custom m rest c (pair a x {d = d} {e = e} g p) =
    rw (append_assoc a (x ∷ []) rest, descriptor_parses custom a (x ∷ rest) d g, p) refl
