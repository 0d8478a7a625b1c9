-- The data of an array up to its elements, and of a sequence in either form.
use Rattle.std.proofs.Common.{◌≡◌, ℕ, zero, suc, ◌+◌, ◌-◌, ◌*◌, ◌<◌, ◌≤◌, Bool, true, false, List, [], ◌++◌, length, Option, Some, None, Ok, Err, refl, sym, ap, ◌∙◌, arith, inl, inr, ◌⊎◌, append_assoc, IsTrue}
use Rattle.std.proofs.lemmas.List.{length-append, append-nil}
use Rattle.std.proofs.lemmas.Bool.{le-ltb, lt-ltb}
use Rattle.std.specs.declared.io.ErrorKind.TheVariants.{UnexpectedEof}
use Rattle.amqp_base.specs.declared.error.Error.{Error}
use Rattle.amqp_base.specs.declared.error.Error.TheVariants.{Io, InvalidLength}
use Rattle.amqp_base.specs.declared.format_code.EncodingCodes.{EncodingCodes}
use Rattle.amqp_base.specs.declared.format_code.EncodingCodes.TheVariants.{DescribedType, Array8, Array32}
use Rattle.amqp_base.specs.declared.format_code.Category.{Category}
use Rattle.amqp_base.specs.declared.format_code.Category.TheVariants.{Array}
use Rattle.amqp_base.specs.Codes.{Kind, row, code_of}
use Rattle.amqp_base.specs.Item.{Item, scalar, list, map, array, described, Items, none, more, count, items, elements, shared}
use Rattle.amqp_base.specs.Value.{number}
use Rattle.amqp_base.specs.Wire.{Constructor, bare, under, under_pair, Wire, lenient, of_code, of_described, of_data, of_pair, Data, of_fixed, of_variable, list0, of_list, of_map, of_array, empty_array, Parts, no_part, part, Spells}
use Rattle.amqp_base.specs.Laws.{items_under}
use Rattle.amqp_base.proofs.Lists.{cut, rest}
use Rattle.amqp_base.proofs.OneFront.{same_constructor}
use Rattle.amqp_base.proofs.Bounded.{element_of, spelled}
use Rattle.amqp_read.specs.Reading.{Reading}
use Rattle.amqp_read.specs.Steps.{Passes, PassesSome, NotTaken, IsShort}
use Rattle.amqp_data.specs.Excuses.{Excused}
use Rattle.amqp_base.specs.Parse.{Parsed, ◌>>=◌, Heading, list_heading, empty_heading, bytes_at, least_size, header_rule, header_at, list_data, any_code, behind_byte, constructor_at, elements_behind, array_at, seq_data}
use Rattle.amqp_data.specs.Places.{constructor_of, limit_of, room_of}
use Rattle.amqp_data.specs.Steps.{Rejects, ParsesAs}
use Rattle.amqp_data.specs.Parts.{Within, HasParts, HasElements, items_of_all, shared_by, cost, OpensData, Header}
use Rattle.amqp_data.specs.Arrays.{TakesConstructor, IsArray, Heads}
use Rattle.amqp_data.specs.declared.heading.Heading.{Heading as OwnHeading}
use Rattle.amqp_data.proofs.Readings.{takes_then, behind, onward, rejects_then, rejects_after, rejects_more, unread_why, unread_device, unread_memory}
use Rattle.amqp_data.proofs.Data.{bytes_there, bytes_short, behind_code}
use Rattle.amqp_data.proofs.Headers.{as_data, under_data, behind_count, byte_of, list_parses}
use Rattle.amqp_data.proofs.Descriptors.{rejects_front, constructor_parses}

-- ---- the data of an array

element_items : (c : Constructor) (b : List ℕ) (is : Items) → (c ≡ bare → ⊥) → Parts lenient c b is → elements is ≡ items_of_all c is
element_items c b is s no_part = refl
element_items c b is s (part a d {i = i} {is = js} h p) = element_of s h js ∙ ap (λ (n : ℕ). items_under c i + n) (element_items c d js s p)

shared_data : {e : EncodingCodes} {k : Kind} {c : Category} {a : List ℕ} {i : Item} → Data lenient e k c a i → (is : Items) → shared (more i is) ≡ 0
shared_data (of_fixed h) is = refl
shared_data (of_variable h) is = refl
shared_data list0 is = refl
shared_data (of_list z k b lz lk nk h f) is = refl
shared_data (of_map z k b lz lk nk h f) is = refl
shared_data (of_array z k m b lz lk nk s h f) is = refl
shared_data (empty_array z k b lz lk nk f) is = refl

shared_is : (c : Constructor) (a : List ℕ) (i : Item) (is : Items) → (c ≡ bare → ⊥) → Wire lenient c a i → shared (more i is) ≡ shared_by c
shared_is c a i is s (of_code p h) = absurd (s refl)
shared_is c a i is s (of_described x y g h) = absurd (s refl)
shared_is c a i is s (of_data h) = shared_data h is
shared_is c a i is s (of_pair h) = refl

array_items : (c : Constructor) (b : List ℕ) (i : Item) (is : Items) → (c ≡ bare → ⊥) → Parts lenient c b (more i is) → items (array (more i is)) ≡ 1 + (shared_by c + items_of_all c (more i is))
array_items c b i is s (part a d h p) = let x = shared_is c a i is s h in let y = element_items c (a ++ d) (more i is) s (part a d h p) in omega (arith, x, y)

-- size, count, constructor and elements
record ArrayBody (w : ℕ) (t : List ℕ) (is : Items) : Type 0 where
  pub zs : List ℕ
  pub ks : List ℕ
  pub ms : List ℕ
  pub body : List ℕ
  pub under_it : Constructor
  pub is_all : t ≡ zs ++ (ks ++ (ms ++ body))
  pub len_z : length zs ≡ w
  pub len_k : length ks ≡ w
  pub count_is : number ks ≡ count is
  pub spells : (number ks ≡ 0 → ⊥) → Spells ms under_it
  pub parts : (number ks ≡ 0 → ⊥) → Parts lenient under_it body is
  pub fits : (number ks ≡ 0 → ⊥) → w + (length ms + length body) ≤ number zs
  pub none_is : number ks ≡ 0 → (ms ≡ []) × (length body ≡ number zs - w) × (is ≡ none)
  pub few : number ks ≤ 65536
  pub least : number ks ≤ number zs
  pub wide : least_size w true (number ks) ≤ number zs

wide_enough : (w z k : ℕ) → (k ≡ 0 → ⊥) → w + 1 ≤ z → least_size w true k ≤ z
wide_enough w z zero n h = absurd (n refl)
wide_enough w z (suc k) n h = h

array_body : {e : EncodingCodes} {k : Kind} {c : Category} {t : List ℕ} {i : Item} → Data lenient e k c t i → (w : ℕ) (is : Items) → k ≡ Kind.array → c ≡ Array w → HasElements i is → ArrayBody w t is
array_body (of_fixed h) w is p q m = absurd m
array_body (of_variable h) w is p q m = absurd m
array_body list0 w is p q m = absurd cc
array_body (of_list z k b lz lk nk h f) w is p q m = absurd cc
array_body (of_map z k b lz lk nk h f) w is p q m = absurd m
array_body (of_array {w = v} z k m b {c = d} lz lk nk g h f) w is p q e =
    let vw : v ≡ w = cc in
    record { zs = z; ks = k; ms = m; body = b; under_it = d; is_all = refl; len_z = lz ∙ vw; len_k = lk ∙ vw; count_is = nk ∙ ap count e; spells = λ _. g; parts = λ _. rw (← e) h; fits = λ _. rw (← vw) f.0; none_is = λ o. absurd (omega (arith, nk, o)); few = f.1; least = f.2; wide = wide_enough w (number z) (number k) (λ o. omega (arith, nk, o)) (omega (arith, (spelled g).0, f.0, vw)) }
array_body (empty_array {w = v} z k b lz lk nk f) w is p q e =
    let vw : v ≡ w = cc in
    record { zs = z; ks = k; ms = []; body = b; under_it = bare; is_all = refl; len_z = lz ∙ vw; len_k = lk ∙ vw; count_is = nk ∙ ap count e; spells = λ o. absurd (o nk); parts = λ o. absurd (o nk); fits = λ o. absurd (o nk); none_is = λ _. (refl, rw (← vw) f, sym e); few = omega (arith, nk); least = omega (arith, nk); wide = rw nk (omega arith) }

cost_most : (c : Constructor) (n : ℕ) → shared_by c + cost c n ≤ 1 + 2 * n
cost_most bare n = omega arith
cost_most (under e) n = omega arith
cost_most (under_pair d e) n = omega arith

apart : (z k m b r : List ℕ) → (z ++ (k ++ (m ++ b))) ++ r ≡ z ++ (k ++ ((m ++ b) ++ r))
apart z k m b r = append_assoc z (k ++ (m ++ b)) r ∙ ap (λ (u : List ℕ). z ++ u) (append_assoc k (m ++ b) r)

-- the array that stands at the front has the header that was consumed
record Behind (w z k : ℕ) (r : List ℕ) (is : Items) (rest' : List ℕ) : Type 0 where
  pub ms : List ℕ
  pub body : List ℕ
  pub under_it : Constructor
  pub here : r ≡ (ms ++ body) ++ rest'
  pub spells : (k ≡ 0 → ⊥) → Spells ms under_it
  pub parts : (k ≡ 0 → ⊥) → Parts lenient under_it body is
  pub fits : (k ≡ 0 → ⊥) → w + (length ms + length body) ≤ z
  pub none_is : k ≡ 0 → (ms ≡ []) × (length body ≡ z - w) × (is ≡ none)
  pub count_is : count is ≡ k

behind_header : (x w z k : ℕ) (old mid : Reading) → (a : IsArray x w) → (h : Header w true z k old mid) → (s rest' r : List ℕ) (i : Item) (is : Items) → HasElements i is → Wire lenient (under a.code) s i → s ++ rest' ≡ (h.zs ++ h.ks) ++ r → Behind w z k r is rest'
behind_header x w z k old mid a h s rest' r i is m y eq =
    let l = array_body (under_data y) w is a.kind a.category m in
    let all = sym (append_assoc h.zs h.ks r) ∙ (sym eq ∙ (ap (λ (u : List ℕ). u ++ rest') l.is_all ∙ apart l.zs l.ks l.ms l.body rest')) in
    let one = cut h.zs l.zs (h.ks ++ r) (l.ks ++ ((l.ms ++ l.body) ++ rest')) (h.len_z ∙ sym l.len_z) all in
    let two = cut h.ks l.ks r ((l.ms ++ l.body) ++ rest') (h.len_k ∙ sym l.len_k) one.1 in
    let nk : number l.ks ≡ k = ap number (sym two.0) ∙ h.count in
    let nz : number l.zs ≡ z = ap number (sym one.0) ∙ h.size in
    record {
      ms = l.ms;
      body = l.body;
      under_it = l.under_it;
      here = two.1;
      spells = λ o. l.spells (λ p. o (sym nk ∙ p));
      parts = λ o. l.parts (λ p. o (sym nk ∙ p));
      fits = λ o. rw nz at l.fits (λ p. o (sym nk ∙ p));
      none_is = λ o. let y = l.none_is (nk ∙ o) in (y.0, y.1 ∙ ap (λ (n : ℕ). n - w) nz, y.2);
      count_is = sym l.count_is ∙ nk;
    }

-- an array with elements
array_opens : (x w z k : ℕ) (c : Constructor) (old mid new : Reading) → IsArray x w → Header w true z k old mid → (k ≡ 0 → ⊥) → (t : TakesConstructor c mid new) → w + length t.text ≤ z
    → OpensData HasElements x old new c k (Some (new.taken + (z - (w + length t.text))))
array_opens x w z k c old mid new a h some t room = record {
  code = a.code;
  code_is = a.code_is;
  text = (h.zs ++ h.ks) ++ t.text;
  step = takes_then old mid new (h.zs ++ h.ks) t.text h.step t.step;
  whole = whole;
  only = λ s rest' i is m y at.
      let f = behind old mid (s ++ rest') (h.zs ++ h.ks) h.step at in
      let l = behind_header x w z k old mid a h s rest' f.0 i is m y f.2 in
      let g = behind mid new f.0 t.text t.step f.1 in
      let three = sym g.2 ∙ (l.here ∙ append_assoc l.ms l.body rest') in
      let same = same_constructor t.spelled (l.spells some) g.0 (l.body ++ rest') three in
      let len : length t.text ≡ length l.ms = ap (λ (u : List ℕ). length u) same.0 in
      (l.body, rw same.1 (l.parts some), l.count_is, omega (arith, l.fits some, len), g.1 ∙ ap Some (rest t.text l.ms g.0 (l.body ++ rest') same.0 three));
  paid = inr (paid a.wide);
  starts = omega arith;
  shares = λ o. absurd (some o);
}
  where
    nothing : c ≡ bare → ⊥
    nothing = (spelled t.spelled).1

    whole : (b : List ℕ) (is : Items) → Parts lenient c b is → count is ≡ k → new.taken + length b ≤ new.taken + (z - (w + length t.text)) → (i : Item) × Wire lenient (under a.code) (((h.zs ++ h.ks) ++ t.text) ++ b) i × HasElements i is × (items i ≡ 1 + (shared_by c + items_of_all c is))
    whole b none ps n fits = absurd (some (sym n))
    whole b (more i is) ps n fits = (
      array (more i is),
      rw (append_assoc (h.zs ++ h.ks) t.text b, append_assoc h.zs h.ks (t.text ++ b)) (as_data a.code Kind.array (Array w) _ (array (more i is)) a.kind a.category (of_array h.zs h.ks t.text b h.len_z h.len_k (h.count ∙ sym n) t.spelled ps (rw h.size (omega (arith, fits, room)), rw h.count h.few, rw (h.count, h.size) (h.fits refl)))),
      refl,
      array_items c b i is nothing ps,
    )

    paid : (w ≡ 1) ⊎ (w ≡ 4) → shared_by c + cost c k + 3 ≤ 16384 * length ((h.zs ++ h.ks) ++ t.text)
    paid (inl o) = let small : k < 256 = rw o at h.small in omega (arith, cost_most c k, small, (spelled t.spelled).0, length-append (h.zs ++ h.ks) t.text, length-append h.zs h.ks, h.len_z, h.len_k, o)
    paid (inr o) = omega (arith, cost_most c k, h.few, (spelled t.spelled).0, length-append (h.zs ++ h.ks) t.text, length-append h.zs h.ks, h.len_z, h.len_k, o)

-- an array without
pub empty_opens : (x w z k : ℕ) (old mid new : Reading) → IsArray x w → Header w true z k old mid → k ≡ 0 → Passes (z - w) mid new → OpensData HasElements x old new bare 0 None
empty_opens x w z k old mid new a h zero_is t = record {
  code = a.code;
  code_is = a.code_is;
  text = (h.zs ++ h.ks) ++ t.bytes;
  step = takes_then old mid new (h.zs ++ h.ks) t.bytes h.step t.step;
  whole = whole;
  only = λ s rest' i is m y at.
      let f = behind old mid (s ++ rest') (h.zs ++ h.ks) h.step at in
      let l = behind_header x w z k old mid a h s rest' f.0 i is m y f.2 in
      let o = l.none_is zero_is in
      let g = behind mid new f.0 t.bytes t.step f.1 in
      let len : length t.bytes ≡ length (l.ms ++ l.body) = omega (arith, t.len, o.1, length-append l.ms l.body, ap (λ (u : List ℕ). length u) o.0) in
      let three = cut t.bytes (l.ms ++ l.body) g.0 rest' len (sym g.2 ∙ l.here) in
      ([], rw o.2 no_part, ap count o.2, tt, g.1 ∙ ap Some three.1);
  paid = inl refl;
  starts = tt;
  shares = λ o. refl;
}
  where
    whole : (b : List ℕ) (is : Items) → Parts lenient bare b is → count is ≡ 0 → Within None (new.taken + length b) → (i : Item) × Wire lenient (under a.code) (((h.zs ++ h.ks) ++ t.bytes) ++ b) i × HasElements i is × (items i ≡ 1 + (shared_by bare + items_of_all bare is))
    whole b (more i is) ps n fits = absurd (omega (arith, n))
    whole _ none no_part n fits =
        (array none, rw (append-nil, append_assoc h.zs h.ks t.bytes) (as_data a.code Kind.array (Array w) _ (array none) a.kind a.category (empty_array h.zs h.ks t.bytes h.len_z h.len_k (h.count ∙ zero_is) (rw h.size t.len))), refl, refl)

-- ---- what is called for

good_array : (w z k : ℕ) (s : List ℕ) → k ≤ 65536 → k ≤ z → least_size w true k ≤ z → header_rule w true z k s ≡ Ok ((z, k), s)
good_array w z k s few least wide = rw (le-ltb 65536 k few, le-ltb z k least, le-ltb z (least_size w true k) wide) refl

-- behind a header
array_head : (custom : Error) (w z k : ℕ) (zs ks r : List ℕ) → length zs ≡ w → number zs ≡ z → length ks ≡ w → number ks ≡ k → k ≤ 65536 → k ≤ z → least_size w true k ≤ z → array_at custom w ((zs ++ ks) ++ r) ≡ elements_behind custom w z k r
unfolding array_at
array_head custom w z k zs ks r lz nz lk nk few least wide = rw (behind_count w z k true zs ks r lz nz lk nk ∙ good_array w z k r few least wide) refl

head_is : (custom : Error) (w z k : ℕ) (old mid : Reading) → (h : Header w true z k old mid) → (r : List ℕ) → array_at custom w ((h.zs ++ h.ks) ++ r) ≡ elements_behind custom w z k r
head_is custom w z k old mid h r = array_head custom w z k h.zs h.ks r h.len_z h.size h.len_k h.count h.few (h.fits refl) h.wide

-- an element constructor that fits
elements_parse : (custom : Error) (w z k room : ℕ) (m t : List ℕ) (c : Constructor) → Spells m c → (k ≡ 0 → ⊥) → w + length m + room ≡ z → elements_behind custom w z k (m ++ t) ≡ Ok (record { of_array = true; count = k; stands = c; room = Some room }, t)
elements_parse custom w z zero room m t c g some fits = absurd (some refl)
elements_parse custom w z (suc k) room m t c g some fits =
    let len : length (m ++ t) - length t ≡ length m = omega (arith, length-append m t) in
    let left : (z - w) - length m ≡ room = omega (arith, fits) in
    rw (constructor_parses custom m t c g, len, le-ltb (z - w) (length m) (omega (arith, fits)), left) refl

-- and one that doesn't
elements_long : (custom : Error) (w z k : ℕ) (m t : List ℕ) (c : Constructor) → Spells m c → (k ≡ 0 → ⊥) → z < w + length m → elements_behind custom w z k (m ++ t) ≡ Err InvalidLength
elements_long custom w z zero m t c g some long = absurd (some refl)
elements_long custom w z (suc k) m t c g some long =
    let len : length (m ++ t) - length t ≡ length m = omega (arith, length-append m t) in
    rw (constructor_parses custom m t c g, len, lt-ltb (z - w) (length m) (omega (arith, long, (spelled g).0))) refl

empty_parse : (custom : Error) (w z k : ℕ) (b t : List ℕ) → k ≡ 0 → length b ≡ z - w → elements_behind custom w z k (b ++ t) ≡ Ok (empty_heading, t)
empty_parse custom w z k b t h l = rw (h, bytes_there (z - w) b t l) refl

-- what was consumed of an array parses so
parsed_array : (custom : Error) (x w z k : ℕ) (y : Heading) (old mid new : Reading) → IsArray x w → (h : Header w true z k old mid) → (m : List ℕ) → ((t : List ℕ) → elements_behind custom w z k (m ++ t) ≡ Ok (y, t))
    → ((s : List ℕ) → mid.to_come ≡ Some s → (r : List ℕ) × (new.to_come ≡ Some r) × (s ≡ m ++ r)) → ParsesAs (behind_byte (seq_data custom) x) old new y
parsed_array custom x w z k y old mid new a h m good step = record {
  exact = λ s at.
      let f = behind old mid s (h.zs ++ h.ks) h.step at in
      let g = step f.0 f.1 in
      (g.0, g.1, behind_code (seq_data custom) x a.code s a.code_is ∙ (a.parse custom s ∙ (ap (array_at custom w) f.2 ∙ (head_is custom w z k old mid h f.0 ∙ (ap (elements_behind custom w z k) g.2 ∙ good g.0)))));
}

array_exact : (custom : Error) (x w z k room : ℕ) (c : Constructor) (old mid new : Reading) → IsArray x w → Header w true z k old mid → (k ≡ 0 → ⊥) → (t : TakesConstructor c mid new) → w + length t.text + room ≡ z
    → ParsesAs (behind_byte (seq_data custom) x) old new (record { of_array = true; count = k; stands = c; room = Some room })
array_exact custom x w z k room c old mid new a h some t fits =
    parsed_array custom x w z k (record { of_array = true; count = k; stands = c; room = Some room }) old mid new a h t.text (λ b. elements_parse custom w z k room t.text b c t.spelled some fits) (λ s at. behind mid new s t.text t.step at)

empty_exact : (custom : Error) (x w z k : ℕ) (old mid new : Reading) → IsArray x w → Header w true z k old mid → k ≡ 0 → Passes (z - w) mid new → ParsesAs (behind_byte (seq_data custom) x) old new empty_heading
empty_exact custom x w z k old mid new a h o t = parsed_array custom x w z k empty_heading old mid new a h t.bytes (λ b. empty_parse custom w z k t.bytes b o t.len) (λ s at. behind mid new s t.bytes t.step at)

-- so an array was begun, with elements or without
pub array_heads : (x w z k : ℕ) (own : OwnHeading) (old mid new : Reading) → IsArray x w → Header w true z k old mid → (k ≡ 0 → ⊥) → (c : Constructor) → TakesConstructor c mid new
    → (start room taken : ℕ) → start ≡ new.taken → room ≡ z - w → taken ≡ new.taken - mid.taken → taken ≤ room
    → own.is_array ≡ true → own.left ≡ k → constructor_of own.stands ≡ c → limit_of own.limit ≡ Some (start + (room - taken)) → room_of own.limit ≡ Some (room - taken) → Heads x old new own
array_heads x w z k own old mid new a h some c t start room taken s r u fits e l p m q =
    let wide : w + 1 ≤ z = least k some h.wide in
    let len : taken ≡ length t.text = omega (arith, u, t.step.taken) in
    let roomy : w + length t.text ≤ z = omega (arith, len, r, fits, wide) in
    let all : w + length t.text + (room - taken) ≡ z = omega (arith, len, r, fits, roomy) in
    let same : start + (room - taken) ≡ new.taken + (z - (w + length t.text)) = omega (arith, s, r, len, roomy) in
    record {
      opens = rw (l, p, m, same) (array_opens x w z k c old mid new a h some t roomy);
      exact = λ custom. rw (e, l, p, q) (array_exact custom x w z k (room - taken) c old mid new a h some t all);
      limit = rw (m, q, s) refl;
    }
  where
    least : (k : ℕ) → (k ≡ 0 → ⊥) → least_size w true k ≤ z → w + 1 ≤ z
    least zero n h = absurd (n refl)
    least (suc k) n h = h

pub empty_heads : (x w z k : ℕ) (own : OwnHeading) (old mid new : Reading) → IsArray x w → Header w true z k old mid → k ≡ 0 → (room : ℕ) → room ≡ z - w → Passes room mid new
    → own.is_array ≡ true → own.left ≡ 0 → constructor_of own.stands ≡ bare → limit_of own.limit ≡ None → room_of own.limit ≡ None → Heads x old new own
empty_heads x w z k own old mid new a h o room r t e l p m q =
    let t' : Passes (z - w) mid new = rw r at t in
    record {
      opens = rw (l, p, m) (empty_opens x w z k old mid new a h o t');
      exact = λ custom. rw (e, l, p, q) (empty_exact custom x w z k old mid new a h o t');
      limit = rw (m, q) refl;
    }

-- ---- what is refused

-- bytes that could not be passed over
pub not_passed : (buffers : Bool) (n : ℕ) (old new : Reading) (e : Error) → PassesSome n old new → NotTaken buffers buffers n old new e → Rejects buffers buffers (bytes_at n) old new e
not_passed buffers n old new e p u = record {
  why = λ s at h. tell s at h (unread_why n old new e u);
  steady = onward p.step;
  device = unread_device n old new e u;
  memory = unread_memory n old new e u;
}
  where
    tell : (s : List ℕ) → old.to_come ≡ Some s → IsTrue old.honest → ((e ≡ Io UnexpectedEof) × IsShort n old) ⊎ Excused buffers buffers old new e → (bytes_at n s ≡ Err e) ⊎ Excused buffers buffers old new e
    tell s at h (inl q) = let l : length s < n = rw at at (q.1 h) in inl (bytes_short n s l ∙ ap Err (sym q.0))
    tell s at h (inr y) = inr y

in_array : {buffers : Bool} (custom : Error) (x w : ℕ) (old new : Reading) (e : Error) → IsArray x w → Rejects true buffers (array_at custom w) old new e → Rejects true buffers (behind_byte (seq_data custom) x) old new e
in_array {buffers = buffers} custom x w old new e a n = record { why = λ s at h. tell s (n.why s at h); steady = n.steady; device = n.device; memory = n.memory }
  where
    tell : (s : List ℕ) → (array_at custom w s ≡ Err e) ⊎ Excused true buffers old new e → (behind_byte (seq_data custom) x s ≡ Err e) ⊎ Excused true buffers old new e
    tell s (inl p) = inl (behind_code (seq_data custom) x a.code s a.code_is ∙ (a.parse custom s ∙ p))
    tell s (inr y) = inr y

pub no_header : (buffers : Bool) (custom : Error) (x w : ℕ) (old new : Reading) (e : Error) → IsArray x w → Rejects buffers buffers (header_at w true) old new e → Rejects true buffers (behind_byte (seq_data custom) x) old new e
unfolding array_at
no_header buffers custom x w old new e a n =
    in_array custom x w old new e a (rejects_front (header_at w true) (λ h. elements_behind custom w h.0.0 h.0.1 h.1) old new e (rejects_more (header_at w true) old new e (λ _. refl) n))

-- behind the header
behind_head : {buffers : Bool} (custom : Error) (x w z k : ℕ) (old mid new : Reading) (e : Error) → IsArray x w → Header w true z k old mid → Rejects true buffers (elements_behind custom w z k) mid new e → Rejects true buffers (behind_byte (seq_data custom) x) old new e
behind_head custom x w z k old mid new e a h n =
    in_array custom x w old new e a (rejects_then (array_at custom w) (elements_behind custom w z k) old mid new (h.zs ++ h.ks) e h.step (λ s p. head_is custom w z k old mid h s ∙ p) n)

pub no_slack : (buffers : Bool) (custom : Error) (x w z k : ℕ) (old mid new : Reading) (e : Error) → IsArray x w → Header w true z k old mid → k ≡ 0 → (room : ℕ) → room ≡ z - w → Rejects buffers buffers (bytes_at room) mid new e → Rejects true buffers (behind_byte (seq_data custom) x) old new e
no_slack buffers custom x w z k old mid new e a h o room r n =
    let n' : Rejects buffers buffers (bytes_at (z - w)) mid new e = rw r at n in
    behind_head custom x w z k old mid new e a h (rw o (rejects_front (bytes_at (z - w)) (λ b. Ok (empty_heading, b.1)) mid new e (rejects_more (bytes_at (z - w)) mid new e (λ _. refl) n')))

-- a constructor that is refused, whatever is looked at behind it
refused_first : {buffers : Bool} (custom : Error) (whole : List ℕ → Parsed Heading) (mid new : Reading) (e : Error) → ((s : List ℕ) → constructor_at custom s ≡ Err e → whole s ≡ Err e) → Rejects true buffers (constructor_at custom) mid new e → Rejects true buffers whole mid new e
refused_first {buffers = buffers} custom whole mid new e hand n = record { why = λ s at h. tell s (n.why s at h); steady = n.steady; device = n.device; memory = n.memory }
  where
    tell : (s : List ℕ) → (constructor_at custom s ≡ Err e) ⊎ Excused true buffers mid new e → (whole s ≡ Err e) ⊎ Excused true buffers mid new e
    tell s (inl p) = inl (hand s p)
    tell s (inr y) = inr y

elements_refused : (custom : Error) (w z k : ℕ) (s : List ℕ) (e : Error) → (k ≡ 0 → ⊥) → constructor_at custom s ≡ Err e → elements_behind custom w z k s ≡ Err e
elements_refused custom w z zero s e some h = absurd (some refl)
elements_refused custom w z (suc k) s e some h = rw h refl

pub no_elements : (buffers : Bool) (custom : Error) (x w z k : ℕ) (old mid new : Reading) (e : Error) → IsArray x w → Header w true z k old mid → (k ≡ 0 → ⊥) → Rejects true buffers (constructor_at custom) mid new e → Rejects true buffers (behind_byte (seq_data custom) x) old new e
no_elements buffers custom x w z k old mid new e a h some n = behind_head custom x w z k old mid new e a h (refused_first custom (elements_behind custom w z k) mid new e (λ s p. elements_refused custom w z k s e some p) n)

pub long_constructor : (buffers : Bool) (custom : Error) (x w z k : ℕ) (c : Constructor) (old mid new : Reading) → IsArray x w → Header w true z k old mid → (k ≡ 0 → ⊥) → TakesConstructor c mid new
    → (room taken : ℕ) → room ≡ z - w → taken ≡ new.taken - mid.taken → room < taken → Rejects true buffers (behind_byte (seq_data custom) x) old new InvalidLength
long_constructor buffers custom x w z k c old mid new a h some t room taken r u long =
    behind_head custom x w z k old mid new InvalidLength a h (rejects_after (elements_behind custom w z k) mid new t.text InvalidLength t.step (λ d. d)
    (λ s. elements_long custom w z k t.text s c t.spelled some (let q = t.step.taken in omega (arith, u, q, long, r))))

of_parts : (i : Item) (is : Items) → HasParts i is → HasElements i is
of_parts (list is) js p = p
of_parts (array is) js p = absurd p
of_parts (scalar v) js p = absurd p
of_parts (map ps) js p = absurd p
of_parts (described d v) js p = absurd p

-- data of another code than an array's are a list's
list_alone : {e : EncodingCodes} {k : Kind} {c : Category} {t : List ℕ} {i : Item} → Data lenient e k c t i → (is : Items) → HasElements i is → (k ≡ Kind.array → ⊥) → HasParts i is
list_alone (of_fixed h) is m n = absurd m
list_alone (of_variable h) is m n = absurd m
list_alone list0 is m n = m
list_alone (of_list z k b lz lk nk h f) is m n = m
list_alone (of_map z k b lz lk nk h f) is m n = absurd m
list_alone (of_array z k m b lz lk nk g h f) is m' n = absurd (n refl)
list_alone (empty_array z k b lz lk nk f) is m n = absurd (n refl)

pub array_codes : (e : EncodingCodes) → (row e).kind ≡ Kind.array → (e ≡ Array8 → ⊥) → (e ≡ Array32 → ⊥) → ⊥
unfolding row
array_codes Array8 h a b = a refl
array_codes Array32 h a b = b refl
array_codes _ h a b = absurd cc

not_code : (x n : ℕ) (e f : EncodingCodes) → code_of x ≡ Some e → (x ≡ n → ⊥) → (row f).byte ≡ n → (f ≡ DescribedType → ⊥) → e ≡ f → ⊥
not_code x n e f h d k y = byte_of x n e f (inl h) d k y

pub list_as_seq : (x k : ℕ) (old new : Reading) → (x ≡ 0xe0 → ⊥) → (x ≡ 0xf0 → ⊥) → OpensData HasParts x old new bare k None → OpensData HasElements x old new bare k None
unfolding row
list_as_seq x k old new p q d = record {
  code = d.code;
  code_is = d.code_is;
  text = d.text;
  step = d.step;
  whole = λ b is ps n fits. let w = d.whole b is ps n fits in (w.0, w.1, of_parts w.0 is w.2, w.3);
  only = λ t rest' i is m y at. d.only t rest' i is (list_alone (under_data y) is m (λ h. array_codes d.code h (not_code x 0xe0 d.code Array8 d.code_is p refl (λ z. cc)) (not_code x 0xf0 d.code Array32 d.code_is q refl (λ z. cc)))) y at;
  paid = d.paid;
  starts = d.starts;
  shares = d.shares;
}

other_form : (custom : Error) (e : EncodingCodes) (s : List ℕ) → (e ≡ Array8 → ⊥) → (e ≡ Array32 → ⊥) → seq_data custom e s ≡ (list_data e s >>= λ n. Ok (list_heading n.0, n.1))
unfolding seq_data
other_form custom Array8 s a b = absurd (a refl)
other_form custom Array32 s a b = absurd (b refl)
other_form custom _ s a b = refl

some_code : (custom : Error) (x : ℕ) (s : List ℕ) → (x ≡ 0xe0 → ⊥) → (x ≡ 0xf0 → ⊥) → behind_byte (seq_data custom) x s ≡ (behind_byte list_data x s >>= λ n. Ok (list_heading n.0, n.1))
unfolding any_code row
some_code custom zero s p q = other_form custom DescribedType s (λ z. cc) (λ z. cc)
some_code custom (suc n) s p q = tell (code_of (suc n)) refl
  where
    tell : (o : Option EncodingCodes) → code_of (suc n) ≡ o → behind_byte (seq_data custom) (suc n) s ≡ (behind_byte list_data (suc n) s >>= λ m. Ok (list_heading m.0, m.1))
    tell (Some e) h = rw h (other_form custom e s (not_code (suc n) 0xe0 e Array8 h p refl (λ z. cc)) (not_code (suc n) 0xf0 e Array32 h q refl (λ z. cc)))
    tell None h = rw h refl

-- a list was begun
pub list_heads : (x k : ℕ) (own : OwnHeading) (old new : Reading) → (x ≡ 0xe0 → ⊥) → (x ≡ 0xf0 → ⊥) → OpensData HasParts x old new bare k None → ParsesAs (behind_byte list_data x) old new k
    → own.is_array ≡ false → own.left ≡ k → constructor_of own.stands ≡ bare → limit_of own.limit ≡ None → room_of own.limit ≡ None → Heads x old new own
list_heads x k own old new p q d y e l c m r = record {
  opens = rw (l, c, m) (list_as_seq x k old new p q d);
  exact = λ custom. rw (e, l, c, r) record { exact = λ s at. let o = y.exact s at in (o.0, o.1, some_code custom x s p q ∙ rw o.2 refl) };
  limit = rw (m, r) refl;
}

pub list_as_refused : (buffers : Bool) (custom : Error) (x : ℕ) (old new : Reading) (e : Error) → (x ≡ 0xe0 → ⊥) → (x ≡ 0xf0 → ⊥) → Rejects buffers buffers (behind_byte list_data x) old new e → Rejects true buffers (behind_byte (seq_data custom) x) old new e
list_as_refused buffers custom x old new e p q n = rejects_more (behind_byte (seq_data custom) x) old new e (λ _. refl) (record { why = λ s at h. tell s (n.why s at h); steady = n.steady; device = n.device; memory = n.memory })
  where
    tell : (s : List ℕ) → (behind_byte list_data x s ≡ Err e) ⊎ Excused buffers buffers old new e → (behind_byte (seq_data custom) x s ≡ Err e) ⊎ Excused buffers buffers old new e
    tell s (inl h) = inl (some_code custom x s p q ∙ rw h refl)
    tell s (inr y) = inr y

pub is_array8 : (x : ℕ) → x ≡ 0xe0 → IsArray x 1
unfolding row code_of seq_data
is_array8 x h = record { code = Array8; code_is = rw h refl; kind = refl; category = refl; wide = inl refl; parse = λ custom s. refl }

pub is_array32 : (x : ℕ) → x ≡ 0xf0 → IsArray x 4
unfolding row code_of seq_data
is_array32 x h = record { code = Array32; code_is = rw h refl; kind = refl; category = refl; wide = inr refl; parse = λ custom s. refl }

-- ---- a sequence that stands parses

array_stands : (custom : Error) (w : ℕ) (t rest' : List ℕ) (is : Items) → ArrayBody w t is → (x : Heading × List ℕ) × (array_at custom w (t ++ rest') ≡ Ok x)
array_stands custom w t rest' is l = tell (number l.ks) refl
  where
    whole : array_at custom w (t ++ rest') ≡ elements_behind custom w (number l.zs) (number l.ks) ((l.ms ++ l.body) ++ rest')
    whole = ap (λ (u : List ℕ). array_at custom w (u ++ rest')) l.is_all ∙ (ap (array_at custom w) (apart l.zs l.ks l.ms l.body rest' ∙ sym (append_assoc l.zs l.ks ((l.ms ++ l.body) ++ rest')))
        ∙ array_head custom w (number l.zs) (number l.ks) l.zs l.ks ((l.ms ++ l.body) ++ rest') l.len_z refl l.len_k refl l.few l.least l.wide)

    tell : (n : ℕ) → number l.ks ≡ n → (x : Heading × List ℕ) × (array_at custom w (t ++ rest') ≡ Ok x)
    tell zero h =
        let o = l.none_is h in
        let b : length (l.ms ++ l.body) ≡ number l.zs - w = omega (arith, length-append l.ms l.body, o.1, ap (λ (u : List ℕ). length u) o.0) in
        ((empty_heading, rest'), whole ∙ empty_parse custom w (number l.zs) (number l.ks) (l.ms ++ l.body) rest' h b)
    tell (suc n) h =
        let some : number l.ks ≡ 0 → ⊥ = λ o. omega (arith, o, h) in
        let f = l.fits some in
        let room : ℕ = number l.zs - (w + length l.ms) in
        ((record { of_array = true; count = number l.ks; stands = l.under_it; room = Some room }, l.body ++ rest'), whole ∙ (ap (elements_behind custom w (number l.zs) (number l.ks)) (append_assoc l.ms l.body rest') ∙ elements_parse custom w (number l.zs) (number l.ks) room l.ms (l.body ++ rest') l.under_it (l.spells some) some (omega (arith, f))))

seq_kind : {e : EncodingCodes} {k : Kind} {c : Category} {t : List ℕ} {i : Item} → Data lenient e k c t i → (is : Items) → HasElements i is → (HasParts i is × (k ≡ Kind.list)) ⊎ (k ≡ Kind.array)
seq_kind (of_fixed h) is m = absurd m
seq_kind (of_variable h) is m = absurd m
seq_kind list0 is m = inl (m, refl)
seq_kind (of_list z k b lz lk nk h f) is m = inl (m, refl)
seq_kind (of_map z k b lz lk nk h f) is m = absurd m
seq_kind (of_array z k m b lz lk nk g h f) is m' = inr refl
seq_kind (empty_array z k b lz lk nk f) is m = inr refl

array_code : (e : EncodingCodes) → (row e).kind ≡ Kind.array → (e ≡ Array8) ⊎ (e ≡ Array32)
unfolding row
array_code Array8 h = inl refl
array_code Array32 h = inr refl
array_code _ h = absurd cc

list_code : (e f : EncodingCodes) → (row e).kind ≡ Kind.list → (row f).kind ≡ Kind.array → e ≡ f → ⊥
list_code e f h k p = absurd cc (sym h ∙ (ap (λ (z : EncodingCodes). (row z).kind) p ∙ k))

pub seq_parses : (custom : Error) (e : EncodingCodes) (t rest' : List ℕ) (i : Item) (is : Items) → HasElements i is → Wire lenient (under e) t i → (x : Heading × List ℕ) × (seq_data custom e (t ++ rest') ≡ Ok x)
unfolding row seq_data
seq_parses custom e t rest' i is m w = tell (seq_kind (under_data w) is m)
  where
    arrays : (e ≡ Array8) ⊎ (e ≡ Array32) → (x : Heading × List ℕ) × (seq_data custom e (t ++ rest') ≡ Ok x)
    arrays (inl h) = let v : Wire lenient (under Array8) t i = rw h at w in let p = array_stands custom 1 t rest' is (array_body (under_data v) 1 is refl refl m) in (p.0, rw h p.1)
    arrays (inr h) = let v : Wire lenient (under Array32) t i = rw h at w in let p = array_stands custom 4 t rest' is (array_body (under_data v) 4 is refl refl m) in (p.0, rw h p.1)

    tell : (HasParts i is × ((row e).kind ≡ Kind.list)) ⊎ ((row e).kind ≡ Kind.array) → (x : Heading × List ℕ) × (seq_data custom e (t ++ rest') ≡ Ok x)
    tell (inl h) = let p = list_parses e t rest' i is h.0 w in ((list_heading p.0.0, p.0.1), other_form custom e (t ++ rest') (list_code e Array8 h.1 refl) (list_code e Array32 h.1 refl) ∙ rw p.1 refl)
    tell (inr h) = arrays (array_code e h)
