-- An enum is read whose variants are told by descriptor.
use Rattle.std.proofs.Common.{◌≡◌, ℕ, zero, suc, Bool, true, IsTrue, List, [], ◌∷◌, ◌++◌, length, Option, Some, None, Ok, Err, refl, ap, ◌∙◌, arith, inl, inr, ◌⊎◌}
use Rattle.amqp_base.specs.declared.error.Error.{Error}
use Rattle.amqp_base.specs.declared.error.Error.TheVariants.{InvalidFormatCode}
use Rattle.amqp_base.specs.declared.format_code.EncodingCodes.{EncodingCodes}
use Rattle.amqp_base.specs.declared.format_code.EncodingCodes.TheVariants.{DescribedType}
use Rattle.amqp_base.specs.Codes.{code_of}
use Rattle.amqp_base.specs.Describing.{is_described, describing_at, undescribed, DescriptorStands, by_descriptor_refusal}
use Rattle.amqp_base.specs.Item.{Item, scalar, list, map, array, described, Descriptor}
use Rattle.amqp_base.specs.Parse.{Parsed, ◌>>=◌, with_rest, any_code, code_or_refusal, code_at}
use Rattle.amqp_base.specs.Wire.{Constructor, bare, under, under_pair, Wire, lenient}
use Rattle.amqp_data.specs.Excuses.{Excused}
use Rattle.amqp_data.proofs.Readings.{advances_then, stayed, excused_more}
use Rattle.amqp_data.proofs.Received.{keeps_known, may_known, may_be_taken}
use Rattle.amqp_de.specs.Decoding.{Decoding, stands_under, as_ended}
use Rattle.amqp_de.specs.DescribedEnums.{VariantsBehind, takes_by_descriptor, means_by_descriptor, BehindRead, BehindRefused, BehindNamed, DescribedRead, DescribedRefused, DescribedNamed}
use Rattle.amqp_de.specs.Identifies.{any_item, DescriptorUnseen, IsBehind, ShowsDescribed}
use Rattle.amqp_de.specs.Law.{Front, Missed, Named, Spent, free, refused_free}
use Rattle.amqp_de.specs.Look.{Looks, LooksNot}
use Rattle.amqp_de.proofs.DescribedAhead.{described_code, described_kind}
use Rattle.amqp_de.proofs.Identified.{unseen_here, missed_unseen_descriptor}
use Rattle.amqp_de.proofs.LookedFirst.{takes_behind, excused_kept, missed_unseen}
use Rattle.amqp_de.proofs.Looking.{same_ok, zero_any, pair_code, inherited_code}
use Rattle.amqp_de.proofs.VariantsRead.{missed_less, named_wider}

-- ---- what is taken behind a descriptor

of_described : (takes : Descriptor → Item → Bool) (d : Descriptor) (i v : Item) → i ≡ described d v → IsTrue (takes_by_descriptor takes i) → IsTrue (takes d i)
of_described takes d i v h t = rw h (rw h at t)

by_described : (takes : Descriptor → Item → Bool) (d : Descriptor) (i v : Item) → i ≡ described d v → IsTrue (takes d i) → IsTrue (takes_by_descriptor takes i)
by_described takes d i v h t = rw h (rw h at t)

meant_described : (means : Descriptor → Item → Type 0) (d : Descriptor) (i v : Item) → i ≡ described d v → means d i → means_by_descriptor means i
meant_described means d i v h t = rw h (rw h at t)

any_described : (takes : Descriptor → Item → Bool) (i : Item) → IsTrue (takes_by_descriptor takes i) → IsTrue (is_described i)
any_described takes (described d v) t = refl
any_described takes (scalar v) t = t
any_described takes (list is) t = t
any_described takes (map ps) t = t
any_described takes (array is) t = t

-- ---- a whole item behind a look at its descriptor

same_stand : (d : Descriptor) (old mid : Decoding) → ShowsDescribed d old mid → stands_under mid ≡ stands_under old
same_stand d old mid l = rw (l.inherited, l.described) refl

module _ {S : Type 0} (row : VariantsBehind S) (d : Descriptor) (old mid new : Decoding) (l : ShowsDescribed d old mid) where
  known : (s : List ℕ) → old.reading.to_come ≡ Some s → mid.reading.to_come ≡ Some s
  known s at = keeps_known old.reading.to_come mid.reading.to_come s l.stays.to_come at

  front_behind : (s : S) → Front (row.takes d) (λ i. row.means d i s) mid new → Front (takes_by_descriptor row.takes) (means_by_descriptor (λ e i. row.means e i s)) old new
  front_behind s o =
      let same = same_stand d old mid l in
      let w : Wire lenient (stands_under old) o.text o.item = rw same at (o.spelled) in
      let b : IsBehind d o.text o.item old.reading mid.reading = l.next o.text o.item w (may_be_taken mid.reading new.reading o.text o.step) in
      record {
        item = o.item;
        text = o.text;
        spelled = w;
        taken = by_described row.takes d o.item b.value b.is o.taken;
        value = meant_described (λ e i. row.means e i s) d o.item b.value b.is o.value;
        step = takes_behind (length o.text) old.reading mid.reading new.reading o.text record { stays = l.stays; received = b.received } (omega arith) o.step;
        not_ended = o.not_ended;
        inherited = o.inherited ∙ l.inherited;
        described = o.described;
        begun = rw (← same, ← l.begun) o.begun;
      }

  pub described_read : (s : S) → BehindRead row d s mid new → DescribedRead row s old new
  described_read s f = record {
    front = λ a. front_behind s (f.front l.not_ended);
    spent = λ a. let same = same_stand d old mid l in let p : Spent (free (stands_under old)) mid new = rw same at (f.spent l.not_ended) in record { most = omega (arith, p.most, l.begun, l.stays.taken) };
    steady = advances_then old.reading mid.reading new.reading (stayed l.stays) f.steady;
  }

  pub described_refused : (buffers : Bool) (e : Error) → BehindRefused row d buffers mid new e → DescribedRefused row buffers old new e
  described_refused buffers e m = record {
    why = λ a i t rest w q at h.
        let b = l.own t rest i w at in
        let same = same_stand d old mid l in
        let v : Wire lenient (stands_under mid) t i = rw same w in
        excused_kept old.reading mid.reading new.reading e l.stays (m.why l.not_ended i t rest v (of_described row.takes d i b.value b.is q) (known (t ++ rest) at) (l.stays.steady.honest ∙ h));
    spent = λ a. let same = same_stand d old mid l in let p : Spent (refused_free (stands_under old)) mid new = rw same at (m.spent l.not_ended) in record { most = omega (arith, p.most, l.begun, l.stays.taken) };
    steady = advances_then old.reading mid.reading new.reading (stayed l.stays) m.steady;
    device = λ x. let f = l.stays.steady.faults in let n = m.device x in omega (arith, f, n);
    memory = λ x. refl;
  }

  pub described_named : (buffers : Bool) (e : Error) → BehindNamed row d buffers mid new e → DescribedNamed row buffers old new e
  unfolding by_descriptor_refusal
  described_named buffers e n = record {
    why = λ a s at h.
        let k = l.exact s at in
        tell s k.0 k.1 k.2 (n.why l.not_ended s (known s at) (l.stays.steady.honest ∙ h));
  }
    where
      tell : (s : List ℕ) (stands : Constructor) (rest : List ℕ) → describing_at InvalidFormatCode (stands_under old) s ≡ Ok (record { descriptor = d; stands = stands }, rest)
          → row.refuses d (stands_under mid) s e ⊎ Excused true buffers mid.reading new.reading e
          → (undescribed (stands_under old) s e ⊎ DescriptorStands (λ f. row.refuses f (stands_under old) s e) (stands_under old) s) ⊎ Excused true buffers old.reading new.reading e
      tell s stands rest k (inl p) =
          let q : row.refuses d (stands_under old) s e = rw (same_stand d old mid l) at p in
          inl (inr (record { found = record { descriptor = d; stands = stands }; rest = rest; header = k; behind = q }))
      tell s stands rest k (inr y) = inr (excused_kept old.reading mid.reading new.reading e l.stays y)

-- ---- no descriptor stands there

module _ {S : Type 0} (row : VariantsBehind S) (buffers : Bool) (old new : Decoding) (e : Error) where
  pub undescribed_refused : Missed is_described true buffers old new e → DescribedRefused row buffers old new e
  undescribed_refused m = missed_less (λ i t. any_described row.takes i t) m

  pub undescribed_named : Named undescribed true buffers old new e → DescribedNamed row buffers old new e
  unfolding by_descriptor_refusal
  undescribed_named n = named_wider (λ c s p. inl p) n

pub unseen_missed : (buffers : Bool) (old mid new : Decoding) (e : Error) → Looks old mid DescribedType → DescriptorUnseen buffers mid new e → Missed is_described true buffers old new e
unseen_missed buffers old mid new e l n = missed_less {takes = any_item} (λ i t. refl) (missed_unseen_descriptor buffers old mid new e l n)

pub unseen_named : (buffers : Bool) (old mid new : Decoding) (e : Error) → Looks old mid DescribedType → DescriptorUnseen buffers mid new e → Named undescribed true buffers old new e
unseen_named buffers old mid new e l n = record { why = λ a s at h. unseen_here buffers old mid new e l n s at h }

-- another code stands there
pub other_missed : (buffers : Bool) (old mid : Decoding) (x : EncodingCodes) → (x ≡ DescribedType → ⊥) → Looks old mid x → Missed is_described true buffers old (as_ended mid) InvalidFormatCode
other_missed buffers old mid x n l = record {
  why = λ a i t rest w q at h. absurd (n (described_code x (l.kind i t w (may_known mid.reading t rest (keeps_known old.reading.to_come mid.reading.to_come (t ++ rest) l.looked.stays.to_come at)) ∙ described_kind i q)));
  spent = λ _. record { most = omega (arith, l.begun, l.looked.stays.taken) };
  steady = stayed l.looked.stays;
  device = λ d. absurd d;
  memory = λ m. refl;
}

zero_code : (s : List ℕ) → code_at bare (0 ∷ s) ≡ Ok (DescribedType, s)
zero_code s = rw zero_any refl

ok_not : (x : EncodingCodes × List ℕ) (e : Error) (p : Parsed EncodingCodes) → p ≡ Ok x → p ≡ Err e → ⊥
ok_not x e p g h = absurd cc

other_at : (c : Constructor) (s rest : List ℕ) (x : EncodingCodes) → (x ≡ DescribedType → ⊥) → code_at c s ≡ Ok (x, rest) → undescribed c s InvalidFormatCode
unfolding describing_at
other_at bare [] rest x n h = absurd cc
other_at bare (zero ∷ s) rest x n h = absurd (n (same_ok x DescribedType rest s (code_at bare (zero ∷ s)) h (zero_code s)))
other_at bare (suc b ∷ s) rest x n h = refl
other_at (under e) s rest x n h = refl
other_at (under_pair d e) s rest x n h = absurd (n (same_ok x DescribedType rest s (code_at (under_pair d e) s) h (pair_code d e s)))

pub other_named : (buffers : Bool) (old mid : Decoding) (x : EncodingCodes) → (x ≡ DescribedType → ⊥) → Looks old mid x → Named undescribed true buffers old (as_ended mid) InvalidFormatCode
other_named buffers old mid x n l = record { why = λ a s at h. let k = l.exact s at in inl (other_at (stands_under old) s k.0 x n k.1) }

-- no code stands there
refused_code : (o : Option EncodingCodes) (s : List ℕ) (e : Error) → (with_rest s (code_or_refusal o) >>= λ x. Ok (x.0, x.1)) ≡ Err e → InvalidFormatCode ≡ e
refused_code None s e h = cc
refused_code (Some x) s e h = absurd cc

none_byte : (b : ℕ) (s : List ℕ) (e : Error) → code_at bare (suc b ∷ s) ≡ Err e → InvalidFormatCode ≡ e
unfolding any_code
none_byte b s e h = refused_code (code_of (suc b)) s e h

none_at : (c : Constructor) (s : List ℕ) (e : Error) → code_at c s ≡ Err e → undescribed c s e
unfolding describing_at
none_at bare [] e h = cc
none_at bare (zero ∷ s) e h = absurd (ok_not (DescribedType, s) e (code_at bare (zero ∷ s)) (zero_code s) h)
none_at bare (suc b ∷ s) e h = ap Err (none_byte b s e h)
none_at (under f) s e h = absurd (ok_not (f, s) e (code_at (under f) s) (inherited_code f s) h)
none_at (under_pair d f) s e h = absurd (ok_not (DescribedType, s) e (code_at (under_pair d f) s) (pair_code d f s) h)

pub unlooked_missed : (buffers : Bool) (old new : Decoding) (e : Error) → LooksNot buffers old new e → Missed is_described true buffers old new e
unlooked_missed buffers old new e n = missed_unseen is_described true buffers old new e (λ _. refl) n

pub unlooked_named : (buffers : Bool) (old new : Decoding) (e : Error) → LooksNot buffers old new e → Named undescribed true buffers old new e
unlooked_named buffers old new e n = record { why = λ a s at h. tell s ((n.rejects a).why s at h) }
  where
    tell : (s : List ℕ) → (code_at (stands_under old) s ≡ Err e) ⊎ Excused buffers buffers old.reading new.reading e → undescribed (stands_under old) s e ⊎ Excused true buffers old.reading new.reading e
    tell s (inl p) = inl (none_at (stands_under old) s e p)
    tell s (inr y) = inr (excused_more old.reading new.reading e (λ _. refl) y)
