-- A descriptor, then the value behind it.
use Rattle.std.proofs.Common.{◌≡◌, ℕ, zero, suc, ◌+◌, ◌≤◌, Bool, true, false, List, [], ◌∷◌, ◌++◌, length, take, Some, Err, Ok, refl, sym, ap, subst, ◌∙◌, arith, append_assoc, IsTrue}
use Rattle.amqp_base.specs.declared.error.Error.{Error}
use Rattle.amqp_base.specs.declared.error.Error.TheVariants.{InvalidFormatCode}
use Rattle.amqp_base.specs.declared.format_code.EncodingCodes.{EncodingCodes}
use Rattle.amqp_base.specs.declared.format_code.EncodingCodes.TheVariants.{SmallUlong}
use Rattle.amqp_base.specs.declared.format_code.Category.{Category}
use Rattle.amqp_base.specs.Codes.{Kind, row, code_of}
use Rattle.amqp_base.specs.Describing.{is_described, BehindDescriptor, describing_at, describing_behind}
use Rattle.amqp_base.specs.Item.{Item, scalar, list, map, array, described, Descriptor, code, ulong}
use Rattle.amqp_base.specs.Parse.{descriptor_at}
use Rattle.amqp_base.specs.Value.{payload, read}
use Rattle.amqp_base.specs.Wire.{Constructor, bare, under, under_pair, Wire, lenient, of_code, of_described, of_data, of_pair, Data, of_fixed, of_variable, list0, of_list, of_map, of_array, empty_array, DescriptorText, code_and_data, fixed}
use Rattle.amqp_base.proofs.Lists.{cons_parts, rest}
use Rattle.amqp_base.proofs.OneFront.{same_descriptor_text}
use Rattle.amqp_read.specs.Reading.{Reading, Takes}
use Rattle.amqp_read.specs.Steps.{Shows, Passes}
use Rattle.amqp_data.specs.Arrays.{RejectsFor}
use Rattle.amqp_data.specs.Steps.{Rejects, Unread}
use Rattle.amqp_data.proofs.Descriptors.{descriptor_parses, behind_first, byte_missing, rejects_front}
use Rattle.amqp_data.proofs.FixedWidth.{not_device}
use Rattle.amqp_data.proofs.Readings.{behind, rejects_here, takes_nothing}
use Rattle.amqp_de.specs.Decoding.{Decoding, stands_under, behind_descriptor}
use Rattle.amqp_de.specs.Describes.{TakesDescribing, Describes, NoDescriptor}
use Rattle.amqp_de.specs.Steps.{IsDescribed}
use Rattle.amqp_de.proofs.Answered.{not_refused, one_refused}
use Rattle.amqp_de.proofs.ManyRead.{shown_passed}

-- ---- 0x00 and a descriptor

pub no_first : (custom : Error) (buffers : Bool) (old new : Reading) (e : Error) → Unread buffers buffers 1 old new e → Rejects true buffers (describing_at custom bare) old new e
unfolding describing_at
no_first custom buffers old new e u = byte_missing (λ b. describing_behind custom b.0 b.1) buffers old new e u

other_byte : (custom : Error) (buffers : Bool) (x : ℕ) (r : Reading) → (x ≡ 0 → ⊥) → Rejects true buffers (describing_behind custom x) r r InvalidFormatCode
other_byte custom buffers zero r n = absurd (n refl)
other_byte custom buffers (suc x) r n = rejects_here (describing_behind custom (suc x)) r InvalidFormatCode not_device (λ s. refl)

pub other_first : (custom : Error) (buffers : Bool) (x : ℕ) (old mid : Reading) → (x ≡ 0 → ⊥) → Takes old mid (x ∷ []) → Rejects true buffers (describing_at custom bare) old mid InvalidFormatCode
unfolding describing_at
other_first custom buffers x old mid n t = behind_first (describing_behind custom) buffers x old mid mid InvalidFormatCode t (other_byte custom buffers x mid n)

pub no_name : (custom : Error) (buffers : Bool) (x : ℕ) (old mid new : Reading) (e : Error) → x ≡ 0 → Takes old mid (x ∷ []) → Rejects true buffers (descriptor_at custom) mid new e → Rejects true buffers (describing_at custom bare) old new e
unfolding describing_at
no_name custom buffers x old mid new e z t n = behind_first (describing_behind custom) buffers x old mid new e t (rw z (rejects_front (descriptor_at custom) (λ d. Ok (record { descriptor = d.0; stands = bare }, d.1)) mid new e n))

three_at_least : (b : List ℕ) (x y z : ℕ) → take 3 b ≡ x ∷ y ∷ z ∷ [] → 3 ≤ length b
three_at_least [] x y z h = absurd cc
three_at_least (u ∷ []) x y z h = absurd cc
three_at_least (u ∷ v ∷ []) x y z h = absurd cc
three_at_least (u ∷ v ∷ w ∷ b) x y z h = omega arith

small_text : (k : ℕ) → DescriptorText (0x53 ∷ k ∷ []) (code k)
unfolding code_of row payload read
small_text k = code_and_data {e = SmallUlong} refl (fixed refl (ap (λ (n : ℕ). Some (ulong n)) (omega arith)))

-- they were shown, the descriptor a small ulong, and then passed
pub small_ulong : (k : ℕ) (old new : Reading) (b : List ℕ) → Shows old b → Passes 3 old new → take 3 b ≡ 0 ∷ 0x53 ∷ k ∷ [] → TakesDescribing (code k) old new
small_ulong k old new b shown p front = record {
  text = 0x53 ∷ k ∷ [];
  spelled = small_text k;
  step = subst (λ (t : List ℕ). Takes old new t) (shown_passed 3 old new b shown p (three_at_least b 0 0x53 k front) ∙ front) p.step;
}

-- ---- the descriptor of an item

bare_is : (c : Constructor) (b : Bool) → c ≡ bare → behind_descriptor c b ≡ bare
bare_is c b h = rw h refl

data_plain : {e : EncodingCodes} {k : Kind} {c : Category} {b : List ℕ} {i : Item} → Data lenient e k c b i → IsDescribed i → ⊥
data_plain (of_fixed h) d = d
data_plain (of_variable h) d = d
data_plain list0 d = d
data_plain (of_list z k b lz lk nk h f) d = d
data_plain (of_map z k b lz lk nk h f) d = d
data_plain (of_array z k m b lz lk nk g h f) d = d
data_plain (empty_array z k b lz lk nk f) d = d

under_plain : {e : EncodingCodes} {b : List ℕ} {i : Item} → Wire lenient (under e) b i → IsDescribed i → ⊥
under_plain (of_data h) d = data_plain h d

wire_described : (t : List ℕ) (e : Descriptor) (v : Item) → Wire lenient bare t (described e v) → (a : List ℕ) × (b : List ℕ) × (t ≡ 0 ∷ a ++ b) × DescriptorText a e × Wire lenient bare b v
wire_described t e v (of_code p h) = absurd (under_plain h tt)
wire_described t e v (of_described a b g h) = (a, b, refl, g, h)

pub front_parses : (custom : Error) (a rest : List ℕ) (d : Descriptor) → DescriptorText a d → describing_at custom bare (0 ∷ (a ++ rest)) ≡ Ok (record { descriptor = d; stands = bare }, rest)
unfolding describing_at
front_parses custom a rest d g = rw (descriptor_parses custom a rest d g) refl

-- the state behind a descriptor that was consumed
abbrev pub behind_name : Decoding → Reading → Decoding
behind_name old r = record { reading = r; ended = false; inherited = old.inherited; described = old.described; begun = old.begun + 1 + 1 }

pub describes_front : (d : Descriptor) (old : Decoding) (r : Reading) → old.ended ≡ false → old.inherited ≡ bare → TakesDescribing d old.reading r → Describes d old (behind_name old r)
describes_front d old r a c n = record {
  text = 0 ∷ n.text;
  step = n.step;
  whole = λ b v w. rw here (of_described n.text b n.spelled (rw here at w));
  only = λ s rest' e v w at.
      let p = wire_described s e v (rw here at w) in
      let k = behind old.reading r (s ++ rest') (0 ∷ n.text) n.step at in
      let q : (0 ∷ (p.0 ++ (p.1 ++ rest'))) ≡ 0 ∷ (n.text ++ k.0) = sym (ap (λ (u : List ℕ). u ++ rest') p.2 ∙ ap (λ (u : List ℕ). 0 ∷ u) (append_assoc p.0 p.1 rest')) ∙ k.2 in
      let m = (cons_parts 0 0 (p.0 ++ (p.1 ++ rest')) (n.text ++ k.0) q).1 in
      let y = same_descriptor_text p.0 n.text e d p.3 n.spelled (p.1 ++ rest') k.0 m in
      (y.1, p.1, rw here p.4, k.1 ∙ ap Some (sym (rest p.0 n.text (p.1 ++ rest') k.0 y.0 m)));
  exact = λ s at.
      let k = behind old.reading r s (0 ∷ n.text) n.step at in (
        k.0,
        k.1,
        λ custom.
            let q : describing_at custom bare s ≡ Ok (record { descriptor = d; stands = bare }, k.0) = ap (describing_at custom bare) k.2 ∙ front_parses custom n.text k.0 d n.spelled in
            rw here q,
      );
  before = a;
  inherited = refl;
  not_ended = refl;
  alone = rw here refl;
  own = rw here (omega arith);
  counts = λ v. rw here (omega arith);
  spent = rw here (omega (arith, n.step.taken));
  refused_spent = rw here (omega (arith, n.step.taken));
}
  where
    here : stands_under old ≡ bare
    here = bare_is old.inherited old.described c

-- the state behind one that is inherited
abbrev pub behind_shared : Decoding → Decoding
behind_shared old = record { reading = old.reading; ended = false; inherited = old.inherited; described = true; begun = old.begun + 1 }

wire_pair : (t : List ℕ) (d e : Descriptor) (f : EncodingCodes) (v : Item) → Wire lenient (under_pair d f) t (described e v) → (e ≡ d) × Wire lenient (under f) t v
wire_pair t d e f v (of_pair h) = (refl, h)

pub pair_parses : (custom : Error) (d : Descriptor) (f : EncodingCodes) (s : List ℕ) → describing_at custom (under_pair d f) s ≡ Ok (record { descriptor = d; stands = under f }, s)
unfolding describing_at
pair_parses custom d f s = refl

pub describes_shared : (d : Descriptor) (f : EncodingCodes) (old : Decoding) → old.ended ≡ false → old.inherited ≡ under_pair d f → old.described ≡ false → Describes d old (behind_shared old)
describes_shared d f old a c n = record {
  text = [];
  step = takes_nothing old.reading;
  whole = λ b v w. rw here (of_pair (rw there at w));
  only = λ s rest' e v w at. let p = wire_pair s d e f v (rw here at w) in (p.0, s, rw there p.1, at);
  exact = λ s at. (s, at, λ custom. rw (here, there) (pair_parses custom d f s));
  before = a;
  inherited = refl;
  not_ended = refl;
  alone = rw there refl;
  own = rw here (omega arith);
  counts = λ v. rw (here, there) (omega arith);
  spent = rw (here, there) (omega arith);
  refused_spent = rw (here, there) (omega arith);
}
  where
    here : stands_under old ≡ under_pair d f
    here = rw (c, n) refl

    there : stands_under (behind_shared old) ≡ under f
    there = rw c refl

-- ---- no descriptor

-- a described item that stands there parses
described_parses : (custom : Error) (c : Constructor) (t rest' : List ℕ) (d : Descriptor) (v : Item) → Wire lenient c t (described d v) → (x : BehindDescriptor × List ℕ) × (describing_at custom c (t ++ rest') ≡ Ok x)
described_parses custom bare _ rest' d v (of_code p h) = absurd (under_plain h tt)
described_parses custom bare _ rest' d v (of_described a b g h) = ((record { descriptor = d; stands = bare }, b ++ rest'), rw (append_assoc a b rest') (front_parses custom a (b ++ rest') d g))
described_parses custom (under e) t rest' d v w = absurd (under_plain w tt)
described_parses custom (under_pair x f) t rest' _ v (of_pair h) = ((record { descriptor = x; stands = under f }, t ++ rest'), pair_parses custom x f (t ++ rest'))

is_described_item : (i : Item) → IsTrue (is_described i) → (d : Descriptor) × (v : Item) × (i ≡ described d v)
is_described_item (described d v) t = (d, v, refl)
is_described_item (scalar v) t = absurd cc
is_described_item (list is) t = absurd cc
is_described_item (map ps) t = absurd cc
is_described_item (array is) t = absurd cc

pub no_descriptor : (buffers : Bool) (old new : Decoding) (e : Error) → new.begun ≡ old.begun + 1 → RejectsFor (λ custom. describing_at custom (stands_under old)) buffers old.reading new.reading e → NoDescriptor buffers old new e
no_descriptor buffers old new e few r = record {
  missed = record {
    why = λ a i t rest' w q at h.
        let p = is_described_item i q in
        let v : Wire lenient (stands_under old) t (described p.0 p.1) = subst (λ (j : Item). Wire lenient (stands_under old) t j) p.2 w in
        let x = described_parses e (stands_under old) t rest' p.0 p.1 v in
        not_refused old.reading new.reading (describing_at e (stands_under old) (t ++ rest')) x.0 e x.1 (own.why (t ++ rest') at h);
    spent = λ a. record { most = let t = own.steady.taken in omega (arith, few, t, one_refused (stands_under old)) };
    steady = own.steady;
    device = own.device;
    memory = λ m. refl;
  };
  rejects = λ a. r;
}
  where
    own : Rejects true buffers (describing_at e (stands_under old)) old.reading new.reading e
    own = r e (λ _. refl)

pub none_at_front : (buffers : Bool) (old new : Decoding) (e : Error) → old.inherited ≡ bare → new.begun ≡ old.begun + 1 → RejectsFor (λ custom. describing_at custom bare) buffers old.reading new.reading e → NoDescriptor buffers old new e
none_at_front buffers old new e c few r = no_descriptor buffers old new e few (λ custom s. rw (bare_is old.inherited old.described c) (r custom s))

pub no_pair : (custom : Error) (f : EncodingCodes) (s : List ℕ) → describing_at custom (under f) s ≡ Err InvalidFormatCode
unfolding describing_at
no_pair custom f s = refl

-- under a code none stands
pub none_under : (buffers : Bool) (f : EncodingCodes) (old new : Decoding) → stands_under old ≡ under f → new.reading ≡ old.reading → new.begun ≡ old.begun + 1 → NoDescriptor buffers old new InvalidFormatCode
none_under buffers f old new h same few = no_descriptor buffers old new InvalidFormatCode few (λ custom s. rw (h, same) (rejects_here (describing_at custom (under f)) old.reading InvalidFormatCode not_device (no_pair custom f)))
