-- A look at the next item.
use Rattle.std.proofs.Common.{◌≡◌, ℕ, ◌≤◌, Bool, List, [], ◌∷◌, ◌++◌, length, Option, Some, None, Result, Ok, Err, refl, sym, ap, ◌∙◌, arith, inl, false}
use Rattle.std.specs.Prelude.{IfOk, IfErr}
use Rattle.std.proofs.lemmas.List.{take_all}
use Rattle.amqp_base.specs.declared.error.Error.{Error}
use Rattle.amqp_base.specs.declared.error.Error.TheVariants.{InvalidFormatCode}
use Rattle.amqp_base.specs.declared.format_code.EncodingCodes.{EncodingCodes}
use Rattle.amqp_base.specs.declared.format_code.EncodingCodes.TheVariants.{DescribedType}
use Rattle.amqp_base.specs.declared.format_code.Category.{Category}
use Rattle.amqp_base.specs.Codes.{Kind, row, CodeOf}
use Rattle.amqp_base.specs.Item.{Item, Descriptor}
use Rattle.amqp_base.specs.Wire.{Constructor, bare, under, under_pair, Wire, lenient, of_code, of_described, of_data, of_pair, Data, of_fixed, of_variable, list0, of_list, of_map, of_array, empty_array}
use Rattle.amqp_read.specs.Reading.{Reading}
use Rattle.std.specs.Io.KnownBytes.{Keeps}
use Rattle.amqp_read.specs.Steps.{Looked, Shows, MayCome}
use Rattle.amqp_de.specs.Decoding.{Decoding, stands_under}
use Rattle.amqp_base.specs.Parse.{Parsed, any_code, behind_byte, code_at}
use Rattle.amqp_de.specs.Look.{item_kind, looked_at, Peeks, PeeksNot, Looks}
use Rattle.amqp_data.proofs.Received.{keeps_known, shown_known, shown_first}
use Rattle.amqp_data.proofs.Readings.{steady_same, stayed}
use Rattle.amqp_data.proofs.Data.{any_code_is, data_kind}
use Rattle.amqp_data.proofs.FixedWidth.{not_device}
use Rattle.amqp_data.proofs.CodeBytes.{any_again, any_none}

-- codes have bytes of their own
pub same_byte : (d e : EncodingCodes) → (row d).byte ≡ (row e).byte → d ≡ e
same_byte d e h = cc (any_again d, any_again e, h)

code_here : (b : ℕ) (e : EncodingCodes) (s rest : List ℕ) → s ≡ b ∷ rest → any_code b ≡ Ok e → code_at bare s ≡ Ok (e, rest)
code_here b e s rest h p = rw (h, p) refl

no_code_here : (b : ℕ) (s rest : List ℕ) → s ≡ b ∷ rest → any_code b ≡ Err InvalidFormatCode → code_at bare s ≡ Err InvalidFormatCode
no_code_here b s rest h p = rw (h, p) refl

pub peeks : (b : ℕ) (r : Result EncodingCodes Error) (old new : Reading) → CodeOf b r → Shows new (b ∷ []) → Looked 1 old new → IfOk r (λ e. Peeks e old new)
peeks b (Ok e) old new c s l = record { looked = l; shown = rw c s }
peeks b (Err e) old new c s l = tt

pub peeks_not : (buffers : Bool) (b : ℕ) (r : Result EncodingCodes Error) (old new : Reading) → CodeOf b r → Shows new (b ∷ []) → Looked 1 old new → IfErr r (λ e. PeeksNot buffers old new e)
peeks_not buffers b (Ok e) old new c s l = tt
peeks_not buffers b (Err e) old new c s l = record {
  looked = l;
  rejects = record {
    why = λ t at h. let f = shown_known new t b s (keeps_known old.to_come new.to_come t l.stays.to_come at) in inl (no_code_here b t f.0 f.1 (any_none b c.1) ∙ ap Err (sym c.0));
    steady = (stayed l.stays);
    device = λ d. absurd (not_device (rw c.0 at d));
    memory = λ m. absurd cc (m, c.0);
  };
}

-- ---- the kind of what stands there

data_item_kind : {e : EncodingCodes} {k : Kind} {c : Category} {t : List ℕ} {i : Item} → Data lenient e k c t i → k ≡ (row e).kind → k ≡ item_kind i
unfolding row
data_item_kind (of_fixed h) p = p ∙ data_kind h
data_item_kind (of_variable h) p = p ∙ data_kind h
data_item_kind list0 p = refl
data_item_kind (of_list z k b lz lk nk h f) p = refl
data_item_kind (of_map z k b lz lk nk h f) p = refl
data_item_kind (of_array z k m b lz lk nk g h f) p = refl
data_item_kind (empty_array z k b lz lk nk f) p = refl

under_kind : (e : EncodingCodes) (t : List ℕ) (i : Item) → Wire lenient (under e) t i → (row e).kind ≡ item_kind i
under_kind e t i (of_data h) = data_item_kind h refl

abbrev given : EncodingCodes × List ℕ → Parsed EncodingCodes
given x = Ok x

pub same_ok : (e f : EncodingCodes) (s t : List ℕ) (p : Parsed EncodingCodes) → p ≡ Ok (e, s) → p ≡ Ok (f, t) → e ≡ f
same_ok e f s t p g h = ap (λ (z : EncodingCodes × List ℕ). z.0) (pair_is (e, s) (f, t) (sym g ∙ h))
  where
    pair_is : (x y : EncodingCodes × List ℕ) → given x ≡ given y → x ≡ y
    pair_is x y h = cc

pub at_byte : (b : ℕ) (e f : EncodingCodes) (s t : List ℕ) → any_code b ≡ Ok e → behind_byte (λ e t. Ok (e, t)) b s ≡ Ok (f, t) → e ≡ f
at_byte b e f s t p h = same_ok e f s t (behind_byte (λ e t. Ok (e, t)) b s) (rw p refl) h

described_row : (row DescribedType).kind ≡ Kind.described
unfolding row
described_row = refl

pub zero_any : any_code 0 ≡ Ok DescribedType
unfolding any_code
zero_any = refl

looks_kind : (c : Constructor) (e : EncodingCodes) (t rest r : List ℕ) (i : Item) → Wire lenient c t i → code_at c (t ++ rest) ≡ Ok (e, r) → (row e).kind ≡ item_kind i
looks_kind bare e _ rest r i (of_code {x = x} {e = f} {b = b} p w) h = rw (← at_byte x f e (b ++ rest) r (any_code_is x f p) h) (under_kind f b i w)
looks_kind bare e _ rest r _ (of_described a b g w) h = rw (← at_byte 0 DescribedType e ((a ++ b) ++ rest) r zero_any h) described_row
looks_kind (under f) e t rest r i w h = rw (← at_byte (row f).byte f e (t ++ rest) r (any_again f) h) (under_kind f t i w)
looks_kind (under_pair d f) e t rest r _ (of_pair w) h = rw (← at_byte 0 DescribedType e (t ++ rest) r zero_any h) described_row

pub stays_same : (r : Reading) → Looked 0 r r
stays_same r = record { stays = record { to_come = keeps r.to_come; taken = refl; received = take_all (length r.received) r.received (omega arith); steady = steady_same r }; received = omega arith }
  where
    keeps : (k : Option (List ℕ)) → Keeps k k
    keeps None = tt
    keeps (Some s) = refl

-- the state behind a look
abbrev pub looked_with : Decoding → Reading → Decoding
looked_with old r = record { reading = r; ended = old.ended; inherited = old.inherited; described = old.described; begun = old.begun }

-- a byte that was looked at is the item's own
pub own_byte : (c : Constructor) (t : List ℕ) (i : Item) → Wire lenient c t i → looked_at c ≤ length t
own_byte bare t i (of_code p h) = omega arith
own_byte bare t i (of_described a b g h) = omega arith
own_byte (under e) t i w = omega arith
own_byte (under_pair d e) t i w = omega arith

shown_kind : (e : EncodingCodes) (r : Reading) (t : List ℕ) (i : Item) → Shows r ((row e).byte ∷ []) → Wire lenient bare t i → MayCome r t → (row e).kind ≡ item_kind i
shown_kind e r t i h w m =
    let f = shown_first r t (row e).byte h m (own_byte bare t i w) in
    looks_kind bare e t [] (f.0 ++ []) i w (code_here (row e).byte e (t ++ []) (f.0 ++ []) (ap (λ (z : List ℕ). z ++ []) f.1) (any_again e))

shown_exact : (e : EncodingCodes) (old new : Reading) → Peeks e old new → (s : List ℕ) → old.to_come ≡ Some s → (rest : List ℕ) × (code_at bare s ≡ Ok (e, rest))
shown_exact e old new p s at =
    let f = shown_known new s (row e).byte p.shown (keeps_known old.to_come new.to_come s p.looked.stays.to_come at) in
    (f.0, code_here (row e).byte e s f.0 f.1 (any_again e))

pub looks_ahead : (old : Decoding) (r : Reading) (e : EncodingCodes) → old.ended ≡ false → stands_under old ≡ bare → Peeks e old.reading r → Looks old (looked_with old r) e
looks_ahead old r e a c p = record {
  looked = rw c p.looked;
  not_ended = a;
  inherited = refl;
  described = refl;
  begun = refl;
  exact = λ s at. rw c (shown_exact e old.reading r p s at);
  shown = rw c p.shown;
  kind = λ i t w m. shown_kind e r t i p.shown (rw c at w) m;
}

-- a code that is inherited
pub inherited_code : (f : EncodingCodes) (s : List ℕ) → code_at (under f) s ≡ Ok (f, s)
inherited_code f s = rw (any_again f) refl

pub looks_under : (old : Decoding) (f : EncodingCodes) → old.ended ≡ false → stands_under old ≡ under f → Looks old old f
looks_under old f a c = record {
  looked = rw c (stays_same old.reading);
  not_ended = a;
  inherited = refl;
  described = refl;
  begun = refl;
  exact = λ s at. (s, rw c (inherited_code f s));
  shown = rw c tt;
  kind = λ i t w m. under_kind f t i (rw c at w);
}

pub pair_code : (d : Descriptor) (f : EncodingCodes) (s : List ℕ) → code_at (under_pair d f) s ≡ Ok (DescribedType, s)
pair_code d f s = rw zero_any refl

pub looks_pair : (old : Decoding) (d : Descriptor) (f : EncodingCodes) → old.ended ≡ false → stands_under old ≡ under_pair d f → Looks old old DescribedType
looks_pair old d f a c = record {
  looked = rw c (stays_same old.reading);
  not_ended = a;
  inherited = refl;
  described = refl;
  begun = refl;
  exact = λ s at. (s, rw c (pair_code d f s));
  shown = rw c tt;
  kind = λ i t w m. looks_kind (under_pair d f) DescribedType t [] (t ++ []) i (rw c at w) (pair_code d f (t ++ []));
}

-- where an item stands, its code stands
pub code_stands : (c : Constructor) (t rest : List ℕ) (i : Item) → Wire lenient c t i → (x : EncodingCodes × List ℕ) × (code_at c (t ++ rest) ≡ Ok x)
code_stands bare _ rest i (of_code {x = x} {e = e} {b = b} p w) = ((e, b ++ rest), code_here x e _ (b ++ rest) refl (any_code_is x e p))
code_stands bare _ rest _ (of_described a b g w) = ((DescribedType, (a ++ b) ++ rest), code_here 0 DescribedType _ ((a ++ b) ++ rest) refl zero_any)
code_stands (under f) t rest i w = ((f, t ++ rest), inherited_code f (t ++ rest))
code_stands (under_pair d f) t rest i w = ((DescribedType, t ++ rest), pair_code d f (t ++ rest))
