-- Structs under a descriptor, part by part.
use Rattle.std.proofs.Common.{◌≡◌, ℕ, ◌+◌, ◌≤◌, Bool, true, false, List, ◌++◌, length, Some, Result, Ok, Err, refl, sym, ap, ◌∙◌, arith, inl, inr, ◌⊎◌, append_assoc, IsTrue}
use Rattle.std.proofs.lemmas.List.{length-append}
use Rattle.amqp_base.specs.declared.error.Error.{Error}
use Rattle.amqp_base.specs.declared.error.Error.TheVariants.{Message, OutOfMemory, InvalidValue}
use Rattle.amqp_base.specs.declared.format_code.EncodingCodes.{EncodingCodes}
use Rattle.amqp_base.specs.Codes.{Kind, row}
use Rattle.amqp_base.specs.Describing.{describing_at, kind_data}
use Rattle.amqp_base.specs.Item.{Item, scalar, list, map, array, described, Items, count, Descriptor}
use Rattle.amqp_base.specs.Parse.{Parsed, item_at, code_at}
use Rattle.amqp_base.specs.Refusals.{IsCustom, StandsFor}
use Rattle.amqp_base.specs.SameKind.{same_kind}
use Rattle.amqp_base.specs.Wire.{Constructor, bare, under, under_pair, Wire, lenient, Parts}
use Rattle.amqp_base.proofs.KindPlaces.{same_kind_is, kind_same}
use Rattle.amqp_data.specs.Arrays.{RejectsFor}
use Rattle.amqp_data.specs.Excuses.{Excused, no_memory}
use Rattle.amqp_data.specs.Parts.{Within, HasParts, HasPairs}
use Rattle.amqp_data.proofs.Descriptors.{rejects_front}
use Rattle.amqp_data.proofs.FixedWidth.{custom_device}
use Rattle.amqp_data.proofs.Readings.{advances_then, excused_before, excused_more, onward, rejects_more, stayed, takes_then}
use Rattle.amqp_de.specs.Access.{Listing, Opens, OpensExactly, OpensNot, Part, AllRead, Plain}
use Rattle.amqp_de.specs.Decoding.{Decoding, stands_under, behind_descriptor, as_ended}
use Rattle.amqp_de.specs.Describes.{Describes, NoDescriptor}
use Rattle.amqp_de.specs.DescribedStructs.{header_behind, described_at, one_left, PartsBehind, OpensBehind, NoneBehind, NoDescribed, Behind, OpensItem}
use Rattle.amqp_de.specs.Law.{Found}
use Rattle.amqp_de.specs.Look.{looked_at, Looks, LooksNot}
use Rattle.amqp_de.specs.declared.described_structs.Encoding.{Encoding}
use Rattle.amqp_de.specs.declared.described_structs.Encoding.TheVariants as by
use Rattle.amqp_de.proofs.DescribedRead.{described_found}
use Rattle.amqp_de.proofs.FormsOpened.{item_none, rejects_behind, exactly_behind, opens_behind}
use Rattle.amqp_de.proofs.Naming.{by_code}

-- ---- the header behind a descriptor

pub kind_is : (k : Kind) (parse : EncodingCodes → List ℕ → Parsed ℕ) (custom : Error) (x : EncodingCodes) (s : List ℕ) → (row x).kind ≡ k → kind_data k parse custom x s ≡ parse x s
unfolding kind_data
kind_is k parse custom x s h = rw (kind_same (row x).kind k h) refl

pub kind_not : (k : Kind) (parse : EncodingCodes → List ℕ → Parsed ℕ) (custom : Error) (x : EncodingCodes) (s : List ℕ) → ((row x).kind ≡ k → ⊥) → kind_data k parse custom x s ≡ Err custom
unfolding kind_data
kind_not k parse custom x s n = tell (same_kind (row x).kind k) refl
  where
    tell : (b : Bool) → same_kind (row x).kind k ≡ b → kind_data k parse custom x s ≡ Err custom
    tell true q = absurd (n (same_kind_is (row x).kind k q))
    tell false q = rw q refl

module _ (k : Kind) (parse : EncodingCodes → List ℕ → Parsed ℕ) (old : Decoding) where
  pub parts_behind : {Has : Item → Items → Type 0} (mid : Decoding) (x : EncodingCodes) (l : Listing) → (row x).kind ≡ k → Looks old mid x → old.ended ≡ false → Opens Has mid l → OpensExactly parse mid l → Plain l → PartsBehind Has (kind_data k parse) old l
  parts_behind mid x l h look a o e p = record {
    opens = opens_behind old mid x look l a o;
    exact = λ custom. exactly_behind old mid x look (kind_data k parse custom) parse (λ s. kind_is k parse custom x s h) l e;
    plain = p;
  }

  -- its header was refused
  pub header_refused : {Has : Item → Items → Type 0} (buffers : Bool) (mid new : Decoding) (x : EncodingCodes) (e : Error) → (row x).kind ≡ k → Looks old mid x → OpensNot Has parse buffers buffers mid new e → RejectsFor (λ custom. item_at (kind_data k parse custom) (stands_under old)) buffers old.reading new.reading e
  header_refused buffers mid new x e h look n = λ custom s. rejects_more (item_at (kind_data k parse custom) (stands_under old)) old.reading new.reading e (λ _. refl) (rejects_behind old mid x look (kind_data k parse custom) parse (λ t. kind_is k parse custom x t h) new.reading e (n.rejects look.not_ended))

  -- another code stands there
  pub other_code : (buffers : Bool) (mid : Decoding) (x : EncodingCodes) (text : List ℕ) (e : Error) → ((row x).kind ≡ k → ⊥) → Looks old mid x → IsCustom text e → RejectsFor (λ custom. item_at (kind_data k parse custom) (stands_under old)) buffers old.reading (as_ended mid).reading e
  other_code buffers mid x text e n look c = λ custom f. record {
    why = λ s at h. let y = look.exact s at in tell custom s y.0 y.1 e refl c f;
    steady = stayed look.looked.stays;
    device = λ d. absurd (custom_device text e c d);
    memory = λ _. refl;
  }
    where
      tell : (custom : Error) (s rest : List ℕ) → code_at (stands_under old) s ≡ Ok (x, rest) → (z : Error) → z ≡ e → IsCustom text z → StandsFor custom z
          → (item_at (kind_data k parse custom) (stands_under old) s ≡ Err e) ⊎ Excused true buffers old.reading mid.reading e
      tell custom s rest q (Message t) z i f = inl (by_code (kind_data k parse custom) (stands_under old) s rest x q ∙ (kind_not k parse custom x rest n ∙ ap Err (f tt ∙ z)))
      tell custom s rest q OutOfMemory z i f = inr (no_memory (sym z) refl)
      tell custom s rest q _ z i f = absurd i

  -- no code stands there
  pub no_code : (buffers : Bool) (new : Decoding) (e : Error) → old.ended ≡ false → LooksNot buffers old new e → RejectsFor (λ custom. item_at (kind_data k parse custom) (stands_under old)) buffers old.reading new.reading e
  no_code buffers new e a n = λ custom f. record {
    why = λ s at h. tell custom s ((n.rejects a).why s at h);
    steady = stayed n.stays;
    device = n.device;
    memory = λ m. refl;
  }
    where
      tell : (custom : Error) (s : List ℕ) → (code_at (stands_under old) s ≡ Err e) ⊎ Excused buffers buffers old.reading new.reading e → (item_at (kind_data k parse custom) (stands_under old) s ≡ Err e) ⊎ Excused true buffers old.reading new.reading e
      tell custom s (inl p) = inl (item_none (kind_data k parse custom) (stands_under old) s e p)
      tell custom s (inr y) = inr (excused_more old.reading new.reading e (λ _. refl) y)

-- ---- the descriptor, and what stands behind it

apart : {A : Type 0} (e f : Error) → (let r : Result A Error = Err e in r) ≡ Err f → e ≡ f
apart e f h = cc

pub none_at_all : {A : Type 0} (x : Encoding) (buffers : Bool) (old new : Decoding) (e : Error) → IsTrue new.ended → (IsTrue old.ended → ((let r : Result A Error = Err e in r) ≡ Err InvalidValue) × (new ≡ old)) → NoDescriptor buffers old new e → NoDescribed x buffers old new e
none_at_all x buffers old new e z s n = record {
  if_ended = λ h. let p = s h in (apart e InvalidValue p.0, p.1);
  rejects = λ a custom f. rejects_front (describing_at custom (stands_under old)) (λ d. header_behind x custom d.0.stands d.1) old.reading new.reading e (n.rejects a custom f);
  ended = z;
}

then_refused : (x : Encoding) (custom : Error) (c d : Constructor) (n : Descriptor) (s rest : List ℕ) (e : Error) → describing_at custom c s ≡ Ok (record { descriptor = n; stands = d }, rest) → header_behind x custom d rest ≡ Err e → described_at x custom c s ≡ Err e
then_refused x custom c d n s rest e p q = rw (p, q) refl

pub none_behind : (x : Encoding) (buffers : Bool) (d : Descriptor) (old mid new : Decoding) (e : Error) → Describes d old mid → NoneBehind x buffers mid new e → NoDescribed x buffers old new e
none_behind x buffers d old mid new e y n = record {
  if_ended = λ h. absurd cc (y.before, h);
  rejects = λ a custom f.
      let r = n.rejects y.not_ended custom f in
      record {
        why = λ s at h. let k = y.exact s at in tell custom s k.0 (k.2 custom) (r.why k.0 k.1 (y.step.steady.honest ∙ h));
        steady = advances_then old.reading mid.reading new.reading (onward y.step) r.steady;
        device = λ q. let g = y.step.steady.faults in let u = r.device q in omega (arith, g, u);
        memory = r.memory;
      };
  ended = n.ended;
}
  where
    tell : (custom : Error) (s rest : List ℕ) → describing_at custom (stands_under old) s ≡ Ok (record { descriptor = d; stands = stands_under mid }, rest) → (header_behind x custom (stands_under mid) rest ≡ Err e) ⊎ Excused true buffers mid.reading new.reading e
        → (described_at x custom (stands_under old) s ≡ Err e) ⊎ Excused true buffers old.reading new.reading e
    tell custom s rest k (inl p) = inl (then_refused x custom (stands_under old) (stands_under mid) d s rest e k p)
    tell custom s rest k (inr u) = inr (excused_before old.reading mid.reading new.reading y.text e y.step u)

-- ---- parts behind a descriptor

own_more : (n a b : ℕ) → n ≤ a → n ≤ a + b
own_more n a b h = omega (arith, h)

-- what is opened behind a descriptor is the described item that was opened
opens_described : (Has : Item → Items → Type 0) (d : Descriptor) (old mid : Decoding) (l : Listing) → Describes d old mid → Opens Has mid l → Opens (Behind d Has) old l
opens_described Has d old mid l x o = record {
  text = x.text ++ o.text;
  step = takes_then old.reading mid.reading l.state.reading x.text o.text x.step o.step;
  whole = λ b is p n fits.
      let w = o.whole b is p n fits in
      (described d w.0, rw (append_assoc x.text o.text b) (x.whole (o.text ++ b) w.0 w.1), (refl, w.2), sym (x.counts w.0) ∙ w.3);
  only = only;
  own = rw (length-append x.text o.text) (own_more (looked_at (stands_under old)) (length x.text) (length o.text) x.own);
  before = x.before;
  outer = o.outer ∙ x.inherited;
  described = o.described;
  not_ended = o.not_ended;
  starts = o.starts;
  spent = let p = o.spent in let q = x.spent in omega (arith, p, q);
}
  where
    only : (t rest : List ℕ) (i : Item) (is : Items) → Behind d Has i is → Wire lenient (stands_under old) t i → old.reading.to_come ≡ Some (t ++ rest)
        → (b : List ℕ) × Parts lenient l.state.inherited b is × (count is ≡ l.left) × Within l.limit (l.state.reading.taken + length b) × (l.state.reading.to_come ≡ Some (b ++ rest))
    only t rest (described e v) is p w at = let q = x.only t rest e v w at in o.only q.1 rest v is p.1 q.2 q.3
    only t rest (scalar v) is p w at = absurd p
    only t rest (list js) is p w at = absurd p
    only t rest (map ps) is p w at = absurd p
    only t rest (array js) is p w at = absurd p

-- ---- one value behind a descriptor

same_place : (c : Constructor) → behind_descriptor c false ≡ c
same_place bare = refl
same_place (under e) = refl
same_place (under_pair d e) = refl

value_read : (takes : Item → Bool) (mid : Decoding) (next : Listing) (new : Decoding) → (p : Part takes (λ i. Unit {0}) (one_left mid) next) → AllRead next new → Found takes (λ i. i ≡ p.front.item) mid new
value_read takes mid next new p r = rw r.is (record {
  front = λ a. record {
    item = p.front.item;
    text = p.front.text;
    spelled = rw same at (p.front.spelled);
    taken = p.front.taken;
    value = refl;
    step = p.front.step;
    not_ended = refl;
    inherited = p.outer;
    described = p.front.described;
    begun = rw same at (p.front.begun);
  };
  spent = λ a. record { most = rw same at (p.spent.most) };
  steady = onward p.front.step;
})
  where
    same : stands_under (one_left mid).state ≡ stands_under mid
    same = same_place (stands_under mid)

-- so the described item was opened
pub item_opened : (x : Encoding) (d : Descriptor) (old mid : Decoding) (l : Listing) → Describes d old mid → OpensBehind x mid l → OpensItem x d old l
item_opened by.List d old mid l h o = opens_described HasParts d old mid l h o.opens
item_opened by.Map d old mid l h o = opens_described HasPairs d old mid l h o.opens
item_opened by.Basic d old mid l h o = rw o (λ takes next new p r. described_found takes (λ i. i ≡ p.front.item) d old mid new h (value_read takes mid next new p r))
