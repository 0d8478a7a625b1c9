-- Sizes and counts, and the data of a list.
use Rattle.std.proofs.Common.{◌≡◌, ℕ, ◌+◌, ◌<◌, ◌≤◌, Bool, true, false, List, [], ◌++◌, length, Some, None, Ok, Err, refl, sym, ap, ◌∙◌, arith, inl, inr, ◌⊎◌, append_assoc, IsTrue, nat_lt, ◌&&◌}
use Rattle.std.proofs.lemmas.List.{length-append}
use Rattle.std.proofs.lemmas.Bool.{le-ltb, lt-ltb, ltb-false}
use Rattle.std.specs.declared.io.ErrorKind.TheVariants.{UnexpectedEof}
use Rattle.amqp_base.specs.declared.error.Error.{Error}
use Rattle.amqp_base.specs.declared.error.Error.TheVariants.{Io, InvalidValue, InvalidLength, InvalidFormatCode}
use Rattle.amqp_base.specs.declared.format_code.EncodingCodes.{EncodingCodes}
use Rattle.amqp_base.specs.declared.format_code.EncodingCodes.TheVariants.{DescribedType, List0, List8, List32}
use Rattle.amqp_base.specs.declared.format_code.Category.{Category}
use Rattle.amqp_base.specs.declared.format_code.Category.TheVariants.{Fixed, Compound}
use Rattle.amqp_base.specs.Codes.{Kind, row, code_of}
use Rattle.amqp_base.specs.Item.{Item, list, Items, none, more, count, items, items_in}
use Rattle.amqp_base.specs.Value.{number}
use Rattle.amqp_base.specs.Wire.{bare, under, Wire, lenient, of_data, Data, of_fixed, of_variable, list0, of_list, of_map, of_array, empty_array, Parts, no_part}
use Rattle.amqp_data.specs.Excuses.{IsCause, Excused}
use Rattle.amqp_base.proofs.Lists.{cut}
use Rattle.amqp_read.specs.Reading.{Reading}
use Rattle.amqp_base.specs.Parse.{Parsed, ◌>>=◌, number_at, header_rule, least_size, header_at, count_at, list_data, behind_byte}
use Rattle.amqp_data.specs.Steps.{Number, Unread, Rejects, ParsesAs}
use Rattle.amqp_data.specs.Parts.{Within, HasParts, HasPairs, items_of_all, shared_by, OpensData, Header}
use Rattle.amqp_data.proofs.Readings.{takes_nothing, takes_then, behind, unread_rejects, rejects_then, rejects_after, rejects_here}
use Rattle.amqp_data.proofs.Data.{bytes_there, bytes_short, behind_code}
use Rattle.amqp_data.proofs.FixedWidth.{other_byte, not_device}
use Rattle.amqp_data.proofs.KindCodes.{code_byte}

-- ---- the header

number_short : (w : ℕ) (s : List ℕ) → length s < w → number_at w s ≡ Err (Io UnexpectedEof)
number_short w s l = rw (bytes_short w s l) refl

pub number_there : (w : ℕ) (b s : List ℕ) → length b ≡ w → number_at w (b ++ s) ≡ Ok (number b, s)
number_there w b s l = rw (bytes_there w b s l) refl

size_short : (w : ℕ) (a : Bool) (s : List ℕ) → length s < w → header_at w a s ≡ Err (Io UnexpectedEof)
unfolding header_at
size_short w a s l = rw (number_short w s l) refl

behind_size : (w z : ℕ) (a : Bool) (b s : List ℕ) → length b ≡ w → number b ≡ z → header_at w a (b ++ s) ≡ (number_at w s >>= λ k. header_rule w a z k.0 k.1)
unfolding header_at
behind_size w z a b s l n = rw (number_there w b s l, n) refl

count_short : (w z : ℕ) (a : Bool) (s : List ℕ) → length s < w → (number_at w s >>= λ k. header_rule w a z k.0 k.1) ≡ Err (Io UnexpectedEof)
count_short w z a s l = rw (number_short w s l) refl

pub behind_count : (w z k : ℕ) (a : Bool) (b d s : List ℕ) → length b ≡ w → number b ≡ z → length d ≡ w → number d ≡ k → header_at w a ((b ++ d) ++ s) ≡ header_rule w a z k s
behind_count w z k a b d s l n m o = rw (append_assoc b d s) (behind_size w z a b (d ++ s) l n ∙ counted)
  where
    counted : (number_at w (d ++ s) >>= λ k. header_rule w a z k.0 k.1) ≡ header_rule w a z k s
    counted = rw (number_there w d s m, o) refl

pub no_size : (w : ℕ) (a : Bool) (buffers : Bool) (old new : Reading) (e : Error) → Unread buffers buffers w old new e → Rejects buffers buffers (header_at w a) old new e
no_size w a buffers old new e u = unread_rejects (header_at w a) w old new e (size_short w a) u

pub no_count : (w : ℕ) (a : Bool) (z : ℕ) (buffers : Bool) (old mid new : Reading) (e : Error) → Number w z old mid → Unread buffers buffers w mid new e → Rejects buffers buffers (header_at w a) old new e
no_count w a z buffers old mid new e n u =
    rejects_then (header_at w a) (λ s. number_at w s >>= λ k. header_rule w a z k.0 k.1) old mid new n.digits e n.step (λ s h. behind_size w z a n.digits s n.len n.value ∙ h)
    (unread_rejects (λ s. number_at w s >>= λ k. header_rule w a z k.0 k.1) w mid new e (count_short w z a) u)

pub bad_header : (w : ℕ) (a : Bool) (z k : ℕ) (buffers : Bool) (old mid new : Reading) (e : Error) → Number w z old mid → Number w k mid new → (IsCause e → ⊥)
    → ((s : List ℕ) → header_rule w a z k s ≡ Err e) → Rejects buffers buffers (header_at w a) old new e
bad_header w a z k buffers old mid new e n m d h =
    rejects_after (header_at w a) old new (n.digits ++ m.digits) e (takes_then old mid new n.digits m.digits n.step m.step) d
    (λ s. behind_count w z k a n.digits m.digits s n.len n.value m.len m.value ∙ h s)

pub too_many : (w : ℕ) (a : Bool) (z k : ℕ) (s : List ℕ) → 65536 < k → header_rule w a z k s ≡ Err InvalidValue
too_many w a z k s h = rw (lt-ltb 65536 k h) refl

pub above_size : (w : ℕ) (a : Bool) (z k : ℕ) (s : List ℕ) → k ≤ 65536 → (a && nat_lt z k) ≡ true → header_rule w a z k s ≡ Err InvalidValue
above_size w a z k s h l = rw (le-ltb 65536 k h, l) refl

pub small_size : (w : ℕ) (a : Bool) (z k : ℕ) (s : List ℕ) → k ≤ 65536 → (a && nat_lt z k) ≡ false → z < least_size w a k → header_rule w a z k s ≡ Err InvalidLength
small_size w a z k s h l m = rw (le-ltb 65536 k h, l, lt-ltb z (least_size w a k) m) refl

good_list : (w z k : ℕ) (s : List ℕ) → k ≤ 65536 → w ≤ z → header_rule w false z k s ≡ Ok ((z, k), s)
good_list w z k s h m = rw (le-ltb 65536 k h, le-ltb z w m) refl

pub within_size : (a : Bool) (z k : ℕ) → (a && nat_lt z k) ≡ false → IsTrue a → k ≤ z
within_size true z k h t = ltb-false z k h
within_size false z k h t = absurd cc t

pub header_of : (w : ℕ) (a : Bool) (z k : ℕ) (old mid new : Reading) → Number w z old mid → Number w k mid new → k ≤ 65536 → (a && nat_lt z k) ≡ false → least_size w a k ≤ z → Header w a z k old new
header_of w a z k old mid new n m few fits wide = record {
  zs = n.digits;
  ks = m.digits;
  len_z = n.len;
  len_k = m.len;
  size = n.value;
  count = m.value;
  step = takes_then old mid new n.digits m.digits n.step m.step;
  few = few;
  fits = within_size a z k fits;
  small = m.small;
  wide = wide;
}

-- ---- the data of a list

bare_items : (is : Items) → items_of_all bare is ≡ items_in is
bare_items none = refl
bare_items (more i is) = ap (λ (n : ℕ). items i + n) (bare_items is)

pub as_data : (e : EncodingCodes) (k : Kind) (c : Category) (b : List ℕ) (i : Item) → (row e).kind ≡ k → (row e).category ≡ c → Data lenient e k c b i → Wire lenient (under e) b i
as_data e k c b i p q d = of_data (rw (p, q) d)

-- size, count and parts of the data of a list or a map
pub record Body (w : ℕ) (t : List ℕ) (is : Items) : Type 0 where
  pub zs : List ℕ
  pub ks : List ℕ
  pub body : List ℕ
  pub is_all : t ≡ zs ++ (ks ++ body)
  pub len_z : length zs ≡ w
  pub len_k : length ks ≡ w
  pub count_is : number ks ≡ count is
  pub parts : Parts lenient bare body is
  pub wide : w ≤ number zs
  pub few : number ks ≤ 65536

list_body : {e : EncodingCodes} {k : Kind} {c : Category} {t : List ℕ} {i : Item} → Data lenient e k c t i → (w : ℕ) (is : Items) → k ≡ Kind.list → c ≡ Compound w → HasParts i is → Body w t is
list_body (of_fixed h) w is p q m = absurd m
list_body (of_variable h) w is p q m = absurd m
list_body list0 w is p q m = absurd cc
list_body (of_list {w = v} z k b {is = js} lz lk nk h f) w is p q m =
    let vw : v ≡ w = cc in
    record { zs = z; ks = k; body = b; is_all = refl; len_z = lz ∙ vw; len_k = lk ∙ vw; count_is = nk ∙ ap count m; parts = rw (← m) h; wide = rw (← vw) f.0; few = f.1 }
list_body (of_map z k b lz lk nk h f) w is p q m = absurd m
list_body (of_array z k m b lz lk nk g h f) w is p q m' = absurd m'
list_body (empty_array z k b lz lk nk f) w is p q m = absurd m

pub map_body : {e : EncodingCodes} {k : Kind} {c : Category} {t : List ℕ} {i : Item} → Data lenient e k c t i → (w : ℕ) (is : Items) → c ≡ Compound w → HasPairs i is → Body w t is
map_body (of_fixed h) w is q m = absurd m
map_body (of_variable h) w is q m = absurd m
map_body list0 w is q m = absurd m
map_body (of_list z k b lz lk nk h f) w is q m = absurd m
map_body (of_map {w = v} z k b {ps = ps} lz lk nk h f) w is q m =
    let vw : v ≡ w = cc in
    record { zs = z; ks = k; body = b; is_all = refl; len_z = lz ∙ vw; len_k = lk ∙ vw; count_is = nk ∙ ap count m; parts = rw (← m) h; wide = rw (← vw) f.0; few = f.1 }
map_body (of_array z k m b lz lk nk g h f) w is q m' = absurd m'
map_body (empty_array z k b lz lk nk f) w is q m = absurd m

pub under_data : {e : EncodingCodes} {t : List ℕ} {i : Item} → Wire lenient (under e) t i → Data lenient e (row e).kind (row e).category t i
under_data (of_data h) = h

-- behind the header of a list or a map stand its parts
pub header_opens : (Has : Item → Items → Type 0) (x : ℕ) (e : EncodingCodes) (w z k : ℕ) (old new : Reading) → code_of x ≡ Some e → 1 ≤ w → Header w false z k old new
    → ((zs ks b : List ℕ) (is : Items) → length zs ≡ w → length ks ≡ w → number ks ≡ count is → count is ≡ k → Parts lenient bare b is → (w ≤ number zs) × (number ks ≤ 65536)
    → (i : Item) × Wire lenient (under e) (zs ++ (ks ++ b)) i × Has i is × (items i ≡ 1 + items_in is))
    → ((t : List ℕ) (i : Item) (is : Items) → Has i is → Wire lenient (under e) t i → Body w t is)
    → OpensData Has x old new bare k None
header_opens Has x e w z k old new code_is some h makes splits = record {
  code = e;
  code_is = code_is;
  text = h.zs ++ h.ks;
  step = h.step;
  whole = λ b is ps n fits.
      let m = makes h.zs h.ks b is h.len_z h.len_k (h.count ∙ sym n) n ps (rw h.size h.wide, rw h.count h.few) in
      (m.0, rw (append_assoc h.zs h.ks b) m.1, m.2, omega (arith, bare_items is, m.3));
  only = λ t rest' i is m y at.
      let l = splits t i is m y in
      let f = behind old new (t ++ rest') (h.zs ++ h.ks) h.step at in
      let eq = sym f.2 ∙ ap (λ (u : List ℕ). u ++ rest') l.is_all in
      let one = cut h.zs l.zs (h.ks ++ f.0) (l.ks ++ (l.body ++ rest')) (h.len_z ∙ sym l.len_z) (sym (append_assoc h.zs h.ks f.0) ∙ eq ∙ append_assoc l.zs (l.ks ++ l.body) rest' ∙ ap (λ (u : List ℕ). l.zs ++ u) (append_assoc l.ks l.body rest')) in
      let two = cut h.ks l.ks f.0 (l.body ++ rest') (h.len_k ∙ sym l.len_k) one.1 in
      (l.body, l.parts, sym l.count_is ∙ ap number (sym two.0) ∙ h.count, tt, f.1 ∙ ap Some two.1);
  paid = inr (omega (arith, length-append h.zs h.ks, h.len_z, h.len_k, some));
  starts = tt;
  shares = λ z. refl;
}

pub list_opens : (x : ℕ) (e : EncodingCodes) (w z k : ℕ) (old new : Reading) → code_of x ≡ Some e → (row e).kind ≡ Kind.list → (row e).category ≡ Compound w → 1 ≤ w → Header w false z k old new → OpensData HasParts x old new bare k None
list_opens x e w z k old new code_is p q some h = header_opens HasParts x e w z k old new code_is some h
    (λ zs ks b is lz lk n c ps f. (list is, as_data e Kind.list (Compound w) _ (list is) p q (of_list zs ks b lz lk n ps f), refl, refl))
    (λ t i is m y. list_body (under_data y) w is p q m)

-- a list0 has no parts
list0_parts : {e : EncodingCodes} {k : Kind} {c : Category} {t : List ℕ} {i : Item} → Data lenient e k c t i → (is : Items) → c ≡ Fixed 0 → HasParts i is → (t ≡ []) × (is ≡ none)
list0_parts (of_fixed h) is q m = absurd m
list0_parts (of_variable h) is q m = absurd m
list0_parts list0 is q m = (refl, sym m)
list0_parts (of_list z k b lz lk nk h f) is q m = absurd cc
list0_parts (of_map z k b lz lk nk h f) is q m = absurd m
list0_parts (of_array z k m b lz lk nk g h f) is q m' = absurd m'
list0_parts (empty_array z k b lz lk nk f) is q m = absurd m

pub list0_opens : (r : Reading) → OpensData HasParts 0x45 r r bare 0 None
unfolding row code_of
list0_opens r = record {
  code = List0;
  code_is = refl;
  text = [];
  step = takes_nothing r;
  whole = whole;
  only = λ t rest' i is m y at.
      let l = list0_parts (under_data y) is refl m in
      ([], rw l.1 no_part, ap count l.1, tt, at ∙ ap (λ (u : List ℕ). Some (u ++ rest')) l.0);
  paid = inl refl;
  starts = tt;
  shares = λ z. refl;
}
  where
    whole : (b : List ℕ) (is : Items) → Parts lenient bare b is → count is ≡ 0 → Within None (r.taken + length b) → (i : Item) × Wire lenient (under List0) ([] ++ b) i × HasParts i is × (items i ≡ 1 + (shared_by bare + items_of_all bare is))
    whole b none no_part n fits = (list none, of_data list0, refl, refl)
    whole b (more i is) ps n fits = absurd (omega (arith, n))

-- ---- what is refused

-- a header that is refused, whatever is looked at behind it
pub header_rejected : (next : (ℕ × ℕ) × List ℕ → Parsed ℕ) (w : ℕ) (buffers : Bool) (old new : Reading) (err : Error) → Rejects buffers buffers (header_at w false) old new err → Rejects buffers buffers (λ s. header_at w false s >>= next) old new err
header_rejected next w buffers old new err n = record { why = λ s at h. tell s (n.why s at h); steady = n.steady; device = n.device; memory = n.memory }
  where
    tell : (s : List ℕ) → (header_at w false s ≡ Err err) ⊎ Excused buffers buffers old new err → ((header_at w false s >>= next) ≡ Err err) ⊎ Excused buffers buffers old new err
    tell s (inl p) = inl (rw p refl)
    tell s (inr y) = inr y

-- data behind their code that are refused
pub data_refused : (parse : EncodingCodes → List ℕ → Parsed ℕ) (front : List ℕ → Parsed ℕ) (x : ℕ) (e : EncodingCodes) (buffers : Bool) (old new : Reading) (err : Error) → code_of x ≡ Some e → ((s : List ℕ) → parse e s ≡ front s)
    → Rejects buffers buffers front old new err → Rejects buffers buffers (behind_byte parse x) old new err
data_refused parse front x e buffers old new err c is n = record { why = λ s at h. tell s (n.why s at h); steady = n.steady; device = n.device; memory = n.memory }
  where
    tell : (s : List ℕ) → (front s ≡ Err err) ⊎ Excused buffers buffers old new err → (behind_byte parse x s ≡ Err err) ⊎ Excused buffers buffers old new err
    tell s (inl p) = inl (behind_code parse x e s c ∙ (is s ∙ p))
    tell s (inr y) = inr y

pub list_refused : (x : ℕ) (e : EncodingCodes) (w : ℕ) (buffers : Bool) (old new : Reading) (err : Error) → code_of x ≡ Some e → ((s : List ℕ) → list_data e s ≡ count_at w s) → Rejects buffers buffers (header_at w false) old new err → Rejects buffers buffers (behind_byte list_data x) old new err
list_refused x e w buffers old new err c is n = data_refused list_data (count_at w) x e buffers old new err c is (header_rejected (λ h. Ok (h.0.1, h.1)) w buffers old new err n)

other_list : (e : EncodingCodes) (s : List ℕ) → (e ≡ List0 → ⊥) → (e ≡ List8 → ⊥) → (e ≡ List32 → ⊥) → list_data e s ≡ Err InvalidFormatCode
unfolding list_data
other_list List0 s p q r = absurd (p refl)
other_list List8 s p q r = absurd (q refl)
other_list List32 s p q r = absurd (r refl)
other_list _ s p q r = refl

pub byte_of : (b n : ℕ) (e f : EncodingCodes) → (code_of b ≡ Some e) ⊎ (e ≡ DescribedType) → (b ≡ n → ⊥) → (row f).byte ≡ n → (f ≡ DescribedType → ⊥) → e ≡ f → ⊥
byte_of b n e f (inl h) d k x q = d (sym (code_byte b e h) ∙ ap (λ (z : EncodingCodes). (row z).byte) q ∙ k)
byte_of b n e f (inr h) d k x q = x (sym q ∙ h)

pub not_a_list : (b : ℕ) (buffers : Bool) (r : Reading) → (b ≡ 0x45 → ⊥) → (b ≡ 0xc0 → ⊥) → (b ≡ 0xd0 → ⊥) → Rejects buffers buffers (behind_byte list_data b) r r InvalidFormatCode
unfolding row
not_a_list b buffers r p q k = rejects_here (behind_byte list_data b) r InvalidFormatCode not_device (λ s. other_byte list_data b s (λ e h.
    other_list e s (byte_of b 0x45 e List0 h p refl (λ y. cc)) (byte_of b 0xc0 e List8 h q refl (λ y. cc)) (byte_of b 0xd0 e List32 h k refl (λ y. cc))))

-- ---- a list that stands parses

list_codes : (e : EncodingCodes) → (row e).kind ≡ Kind.list → (e ≡ List0) ⊎ ((e ≡ List8) ⊎ (e ≡ List32))
unfolding row
list_codes List0 h = inl refl
list_codes List8 h = inr (inl refl)
list_codes List32 h = inr (inr refl)
list_codes _ h = absurd cc

list_kind : {e : EncodingCodes} {k : Kind} {c : Category} {t : List ℕ} {i : Item} → Data lenient e k c t i → (is : Items) → HasParts i is → k ≡ Kind.list
list_kind (of_fixed h) is m = absurd m
list_kind (of_variable h) is m = absurd m
list_kind list0 is m = refl
list_kind (of_list z k b lz lk nk h f) is m = refl
list_kind (of_map z k b lz lk nk h f) is m = absurd m
list_kind (of_array z k m b lz lk nk g h f) is m' = absurd m'
list_kind (empty_array z k b lz lk nk f) is m = absurd m

-- the header of data that stand
pub header_there : (w : ℕ) (t rest : List ℕ) (is : Items) → (l : Body w t is) → header_at w false (t ++ rest) ≡ Ok ((number l.zs, number l.ks), l.body ++ rest)
header_there w t rest' is l = whole ∙ good_list w (number l.zs) (number l.ks) (l.body ++ rest') l.few l.wide
  where
    whole : header_at w false (t ++ rest') ≡ header_rule w false (number l.zs) (number l.ks) (l.body ++ rest')
    whole = ap (λ (u : List ℕ). header_at w false (u ++ rest')) l.is_all ∙ ap (header_at w false) (append_assoc l.zs (l.ks ++ l.body) rest' ∙ ap (λ (u : List ℕ). l.zs ++ u) (append_assoc l.ks l.body rest') ∙ sym (append_assoc l.zs l.ks (l.body ++ rest')))
        ∙ behind_count w (number l.zs) (number l.ks) false l.zs l.ks (l.body ++ rest') l.len_z refl l.len_k refl

counted : (w : ℕ) (t rest : List ℕ) (is : Items) → Body w t is → (x : ℕ × List ℕ) × (count_at w (t ++ rest) ≡ Ok x)
counted w t rest' is l = ((number l.ks, l.body ++ rest'), rw (header_there w t rest' is l) refl)

pub list_parses : (e : EncodingCodes) (t rest : List ℕ) (i : Item) (is : Items) → HasParts i is → Wire lenient (under e) t i → (x : ℕ × List ℕ) × (list_data e (t ++ rest) ≡ Ok x)
unfolding list_data row
list_parses e t rest' i is m w = tell (list_codes e (list_kind (under_data w) is m))
  where
    tell : (e ≡ List0) ⊎ ((e ≡ List8) ⊎ (e ≡ List32)) → (x : ℕ × List ℕ) × (list_data e (t ++ rest') ≡ Ok x)
    tell (inl h) = ((0, t ++ rest'), rw h refl)
    tell (inr (inl h)) = let v : Wire lenient (under List8) t i = rw h at w in let p = counted 1 t rest' is (list_body (under_data v) 1 is refl refl m) in (p.0, rw h p.1)
    tell (inr (inr h)) = let v : Wire lenient (under List32) t i = rw h at w in let p = counted 4 t rest' is (list_body (under_data v) 4 is refl refl m) in (p.0, rw h p.1)

-- a header of a list or a map that was consumed is good
pub header_good : (w z k : ℕ) (old new : Reading) → (h : Header w false z k old new) → (r : List ℕ) → header_at w false ((h.zs ++ h.ks) ++ r) ≡ Ok ((z, k), r)
header_good w z k old new h r = behind_count w z k false h.zs h.ks r h.len_z h.size h.len_k h.count ∙ good_list w z k r h.few h.wide

-- the header that was consumed
pub header_exact : (parse : EncodingCodes → List ℕ → Parsed ℕ) (next : (ℕ × ℕ) × List ℕ → Parsed ℕ) (x : ℕ) (e : EncodingCodes) (w z k : ℕ) (old new : Reading) → code_of x ≡ Some e → ((s : List ℕ) → parse e s ≡ (header_at w false s >>= next)) → Header w false z k old new
    → ((r : List ℕ) → next ((z, k), r) ≡ Ok (k, r)) → ParsesAs (behind_byte parse x) old new k
header_exact parse next x e w z k old new c is h good = record {
  exact = λ s at.
      let f = behind old new s (h.zs ++ h.ks) h.step at in
      (f.0, f.1, behind_code parse x e s c ∙ is s ∙ ap (λ (u : List ℕ). header_at w false u >>= next) f.2 ∙ here f.0);
}
  where
    here : (r : List ℕ) → (header_at w false ((h.zs ++ h.ks) ++ r) >>= next) ≡ Ok (k, r)
    here r = rw (header_good w z k old new h r) (good r)

-- what was consumed of a list parses so
pub list_exact : (x : ℕ) (e : EncodingCodes) (w z k : ℕ) (old new : Reading) → code_of x ≡ Some e → ((s : List ℕ) → list_data e s ≡ count_at w s) → Header w false z k old new → ParsesAs (behind_byte list_data x) old new k
list_exact x e w z k old new c is h = header_exact list_data (λ h. Ok (h.0.1, h.1)) x e w z k old new c is h (λ r. refl)

pub list0_exact : (r : Reading) → ParsesAs (behind_byte list_data 0x45) r r 0
unfolding row code_of list_data
list0_exact r = record { exact = λ s at. (s, at, behind_code list_data 0x45 List0 s refl) }
