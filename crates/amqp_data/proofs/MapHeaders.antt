-- The data of a map, up to its first key.
use Rattle.std.proofs.Common.{◌≡◌, ℕ, ◌+◌, ◌≤◌, ◌%◌, Bool, false, List, ◌++◌, Some, None, Ok, Err, refl, sym, ap, ◌∙◌, arith, inl, inr, ◌⊎◌}
use Rattle.amqp_base.specs.declared.error.Error.{Error}
use Rattle.amqp_base.specs.declared.error.Error.TheVariants.{InvalidLength, InvalidFormatCode}
use Rattle.amqp_base.specs.declared.format_code.EncodingCodes.{EncodingCodes}
use Rattle.amqp_base.specs.declared.format_code.EncodingCodes.TheVariants.{Map8, Map32}
use Rattle.amqp_base.specs.declared.format_code.Category.{Category}
use Rattle.amqp_base.specs.declared.format_code.Category.TheVariants.{Compound}
use Rattle.amqp_base.specs.Codes.{Kind, row, code_of}
use Rattle.amqp_base.specs.Item.{Item, scalar, list, map, array, described, Items, none, more, Pairs, no_pairs, pair, count, in_turn, items, items_in, items_in_pairs}
use Rattle.amqp_base.specs.Value.{number}
use Rattle.amqp_base.specs.Wire.{bare, under, Wire, lenient, Data, of_fixed, of_variable, list0, of_list, of_map, of_array, empty_array}
use Rattle.amqp_read.specs.Reading.{Reading}
use Rattle.amqp_base.specs.Parse.{header_at, of_pairs, pairs_at, map_data, behind_byte}
use Rattle.amqp_data.specs.Steps.{Rejects, ParsesAs}
use Rattle.amqp_data.specs.Parts.{HasPairs, OpensData, Header}
use Rattle.amqp_data.proofs.Readings.{rejects_after, rejects_here}
use Rattle.amqp_data.proofs.FixedWidth.{other_byte, not_device}
use Rattle.amqp_data.proofs.Headers.{Body, map_body, as_data, under_data, header_opens, header_good, header_there, header_rejected, data_refused, header_exact, byte_of}

-- ---- keys and values in turn are even in number

even_turn : (ps : Pairs) → count (in_turn ps) % 2 ≡ 0
even_turn no_pairs = refl
even_turn (pair k v ps) = let e = even_turn ps in omega (arith, e)

even_pairs : (i : Item) (is : Items) → HasPairs i is → count is % 2 ≡ 0
even_pairs (map ps) is p = rw (← p) (even_turn ps)
even_pairs (list js) is p = absurd p
even_pairs (array js) is p = absurd p
even_pairs (scalar v) is p = absurd p
even_pairs (described d v) is p = absurd p

pairs_of : (is : Items) → count is % 2 ≡ 0 → (ps : Pairs) × (in_turn ps ≡ is)
pairs_of none e = (no_pairs, refl)
pairs_of (more k none) e = absurd (omega (arith, e))
pairs_of (more k (more v is)) e = let r = pairs_of is (omega (arith, e)) in (pair k v r.0, ap (λ (x : Items). more k (more v x)) r.1)

turn_items : (ps : Pairs) → items_in_pairs ps ≡ items_in (in_turn ps)
turn_items no_pairs = refl
turn_items (pair k v ps) = ap (λ (n : ℕ). items k + (items v + n)) (turn_items ps)

even_count : (k : ℕ) (s : List ℕ) → k % 2 ≡ 0 → of_pairs k s ≡ Ok (k, s)
even_count k s e = rw e refl

odd_count : (k : ℕ) (s : List ℕ) → k % 2 ≡ 1 → of_pairs k s ≡ Err InvalidLength
odd_count k s e = rw e refl

-- ---- a map is opened

pub map_opens : (x : ℕ) (e : EncodingCodes) (w z k : ℕ) (old new : Reading) → code_of x ≡ Some e → (row e).kind ≡ Kind.map → (row e).category ≡ Compound w → 1 ≤ w → k % 2 ≡ 0 → Header w false z k old new → OpensData HasPairs x old new bare k None
map_opens x e w z k old new code_is p q some even h = header_opens HasPairs x e w z k old new code_is some h
    (λ zs ks b is lz lk n c ps f.
    let t = pairs_of is (ap (λ (m : ℕ). m % 2) c ∙ even) in
    (map t.0, as_data e Kind.map (Compound w) _ (map t.0) p q (of_map zs ks b lz lk (n ∙ ap count (sym t.1)) (rw t.1 ps) f), t.1, ap (λ (m : ℕ). 1 + m) (turn_items t.0 ∙ ap items_in t.1)))
    (λ t i is m y. map_body (under_data y) w is q m)

-- what was consumed of a map parses so
pub map_exact : (x : ℕ) (e : EncodingCodes) (w z k : ℕ) (old new : Reading) → code_of x ≡ Some e → ((s : List ℕ) → map_data e s ≡ pairs_at w s) → k % 2 ≡ 0 → Header w false z k old new → ParsesAs (behind_byte map_data x) old new k
map_exact x e w z k old new c is even h = header_exact map_data (λ h. of_pairs h.0.1 h.1) x e w z k old new c is h (λ r. even_count k r even)

-- ---- what is refused

pub bad_pairs : (w : ℕ) (buffers : Bool) (old new : Reading) (err : Error) → Rejects buffers buffers (header_at w false) old new err → Rejects buffers buffers (pairs_at w) old new err
bad_pairs w buffers old new err n = header_rejected (λ h. of_pairs h.0.1 h.1) w buffers old new err n

pub odd_pairs : (w z k : ℕ) (buffers : Bool) (old new : Reading) → Header w false z k old new → k % 2 ≡ 1 → Rejects buffers buffers (pairs_at w) old new InvalidLength
odd_pairs w z k buffers old new h odd = rejects_after (pairs_at w) old new (h.zs ++ h.ks) InvalidLength h.step (λ d. d) (λ s. rw (header_good w z k old new h s) (odd_count k s odd))

pub map_refused : (x : ℕ) (e : EncodingCodes) (w : ℕ) (buffers : Bool) (old new : Reading) (err : Error) → code_of x ≡ Some e → ((s : List ℕ) → map_data e s ≡ pairs_at w s) → Rejects buffers buffers (pairs_at w) old new err → Rejects buffers buffers (behind_byte map_data x) old new err
map_refused x e w buffers old new err c is n = data_refused map_data (pairs_at w) x e buffers old new err c is n

other_map : (e : EncodingCodes) (s : List ℕ) → (e ≡ Map8 → ⊥) → (e ≡ Map32 → ⊥) → map_data e s ≡ Err InvalidFormatCode
unfolding map_data
other_map Map8 s p q = absurd (p refl)
other_map Map32 s p q = absurd (q refl)
other_map _ s p q = refl

pub not_a_map : (b : ℕ) (buffers : Bool) (r : Reading) → (b ≡ 0xc1 → ⊥) → (b ≡ 0xd1 → ⊥) → Rejects buffers buffers (behind_byte map_data b) r r InvalidFormatCode
unfolding row
not_a_map b buffers r p q = rejects_here (behind_byte map_data b) r InvalidFormatCode not_device (λ s. other_byte map_data b s (λ e h.
    other_map e s (byte_of b 0xc1 e Map8 h p refl (λ y. cc)) (byte_of b 0xd1 e Map32 h q refl (λ y. cc))))

-- ---- a map that stands parses

pub map_codes : (e : EncodingCodes) → (row e).kind ≡ Kind.map → (e ≡ Map8) ⊎ (e ≡ Map32)
unfolding row
map_codes Map8 h = inl refl
map_codes Map32 h = inr refl
map_codes _ h = absurd cc

map_kind : {e : EncodingCodes} {k : Kind} {c : Category} {t : List ℕ} {i : Item} → Data lenient e k c t i → (is : Items) → HasPairs i is → k ≡ Kind.map
map_kind (of_fixed h) is m = absurd m
map_kind (of_variable h) is m = absurd m
map_kind list0 is m = absurd m
map_kind (of_list z k b lz lk nk h f) is m = absurd m
map_kind (of_map z k b lz lk nk h f) is m = refl
map_kind (of_array z k m b lz lk nk g h f) is m' = absurd m'
map_kind (empty_array z k b lz lk nk f) is m = absurd m

counted : (w : ℕ) (t rest : List ℕ) (is : Items) → count is % 2 ≡ 0 → Body w t is → (x : ℕ × List ℕ) × (pairs_at w (t ++ rest) ≡ Ok x)
counted w t rest' is even l = ((number l.ks, l.body ++ rest'), rw (header_there w t rest' is l) (even_count (number l.ks) (l.body ++ rest') (ap (λ (m : ℕ). m % 2) l.count_is ∙ even)))

pub map_parses : (e : EncodingCodes) (t rest : List ℕ) (i : Item) (is : Items) → HasPairs i is → Wire lenient (under e) t i → (x : ℕ × List ℕ) × (map_data e (t ++ rest) ≡ Ok x)
unfolding map_data row
map_parses e t rest' i is m w = tell (map_codes e (map_kind (under_data w) is m))
  where
    tell : (e ≡ Map8) ⊎ (e ≡ Map32) → (x : ℕ × List ℕ) × (map_data e (t ++ rest') ≡ Ok x)
    tell (inl h) = let v : Wire lenient (under Map8) t i = rw h at w in let p = counted 1 t rest' is (even_pairs i is m) (map_body (under_data v) 1 is refl m) in (p.0, rw h p.1)
    tell (inr h) = let v : Wire lenient (under Map32) t i = rw h at w in let p = counted 4 t rest' is (even_pairs i is m) (map_body (under_data v) 4 is refl m) in (p.0, rw h p.1)
