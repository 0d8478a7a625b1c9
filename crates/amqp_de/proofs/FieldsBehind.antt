-- Fields behind a descriptor.
use Rattle.std.proofs.Common.{◌≡◌, ℕ, Bool, true, false, List, ◌++◌, Ok, Err, refl, sym, ap, ◌∙◌, arith, inl, inr, ◌⊎◌, IsTrue}
use Rattle.amqp_base.specs.declared.error.Error.{Error}
use Rattle.amqp_base.specs.declared.error.Error.TheVariants.{Message, OutOfMemory}
use Rattle.amqp_base.specs.declared.format_code.EncodingCodes.{EncodingCodes}
use Rattle.amqp_base.specs.declared.format_code.EncodingCodes.TheVariants.{List0, List8, List32}
use Rattle.amqp_base.specs.Codes.{Kind, row}
use Rattle.amqp_base.specs.Describing.{is_described_of, means_described, describing_at, is_behind, means_behind, behind_refusal, kind_data, header_refusal}
use Rattle.amqp_base.specs.Leading.{takes_leading}
use Rattle.amqp_base.specs.NamedFields.{takes_map}
use Rattle.amqp_base.specs.Item.{Item, scalar, list, map, array, described, Descriptor}
use Rattle.amqp_base.specs.Parse.{Parsed, item_at, code_at}
use Rattle.amqp_base.specs.Refusals.{IsCustom, IsMessage}
use Rattle.amqp_base.specs.Refusing.{Refusing, PartsRefusing, one_or_other, opened_refusal}
use Rattle.amqp_base.specs.Wire.{Constructor}
use Rattle.amqp_data.specs.Excuses.{Excused, no_memory}
use Rattle.amqp_data.proofs.FixedWidth.{custom_device}
use Rattle.amqp_data.proofs.Readings.{excused_before, excused_more, stayed}
use Rattle.amqp_data.proofs.Received.{keeps_known, may_known}
use Rattle.amqp_de.specs.Decoding.{Decoding, stands_under, as_ended}
use Rattle.amqp_de.specs.Describes.{Describes, DescribesNone, none_among}
use Rattle.amqp_de.specs.Law.{Found, Missed, Named}
use Rattle.amqp_de.specs.Look.{item_kind, Looks, LooksNot}
use Rattle.amqp_de.proofs.DescribedRead.{described_found, described_missed}
use Rattle.amqp_de.proofs.FormsOpened.{item_none}
use Rattle.amqp_de.proofs.Naming.{by_code, named_behind}
use Rattle.amqp_de.proofs.PartsRead.{both, left_of}
use Rattle.amqp_de.proofs.StructsBehind.{kind_is, kind_not}
use Rattle.amqp_de.proofs.VariantsRead.{missed_less, named_wider}
use Rattle.amqp_de.proofs.WantedDescriptor.{is_one}
use Rattle.amqp_de.proofs.Weaker.{found_as}

-- ---- codes of lists

-- a code of no list
pub no_list_code : (x : EncodingCodes) → (x ≡ List0 → ⊥) → (x ≡ List8 → ⊥) → (x ≡ List32 → ⊥) → (row x).kind ≡ Kind.list → ⊥
unfolding row
no_list_code List0 a b c h = a refl
no_list_code List8 a b c h = b refl
no_list_code List32 a b c h = c refl
no_list_code _ a b c h = absurd cc

-- ---- an item of one kind

pub list_kind : (fields : List (Item → Bool)) (i : Item) → IsTrue (takes_leading fields i) → item_kind i ≡ Kind.list
unfolding takes_leading
list_kind fields (list is) t = refl
list_kind fields (scalar v) t = absurd cc
list_kind fields (map ps) t = absurd cc
list_kind fields (array is) t = absurd cc
list_kind fields (described d v) t = absurd cc

pub map_kind : (names : List (List ℕ)) (fields : List (Item → Bool)) (i : Item) → IsTrue (takes_map names fields i) → item_kind i ≡ Kind.map
unfolding takes_map
map_kind names fields (map ps) t = refl
map_kind names fields (list is) t = absurd cc
map_kind names fields (scalar v) t = absurd cc
map_kind names fields (array is) t = absurd cc
map_kind names fields (described d v) t = absurd cc

-- another code stands there
pub other_missed : (k : Kind) (takes : Item → Bool) → ((i : Item) → IsTrue (takes i) → item_kind i ≡ k) → (buffers : Bool) (old mid : Decoding) (x : EncodingCodes) (text : List ℕ) (e : Error) → Looks old mid x → ((row x).kind ≡ k → ⊥) → IsCustom text e → Missed takes true buffers old (as_ended mid) e
other_missed k takes of_it buffers old mid x text e l n c = record {
  why = λ a i t rest w q at h. absurd (n (l.kind i t w (may_known mid.reading t rest (keeps_known old.reading.to_come mid.reading.to_come (t ++ rest) l.looked.stays.to_come at)) ∙ of_it i q));
  spent = λ a. record { most = omega (arith, l.begun, l.looked.stays.taken) };
  steady = stayed l.looked.stays;
  device = λ d. absurd (custom_device text e c d);
  memory = λ _. refl;
}

other_kind : (k : Kind) (parse : EncodingCodes → List ℕ → Parsed ℕ) (custom : Error) (c : Constructor) (s rest : List ℕ) (x : EncodingCodes) → code_at c s ≡ Ok (x, rest) → ((row x).kind ≡ k → ⊥) → item_at (kind_data k parse custom) c s ≡ Err custom
other_kind k parse custom c s rest x h n = by_code (kind_data k parse custom) c s rest x h ∙ kind_not k parse custom x rest n

of_kind : (k : Kind) (parse : EncodingCodes → List ℕ → Parsed ℕ) (custom : Error) (c : Constructor) (s rest : List ℕ) (x : EncodingCodes) → code_at c s ≡ Ok (x, rest) → (row x).kind ≡ k → item_at (kind_data k parse custom) c s ≡ item_at parse c s
of_kind k parse custom c s rest x h n = by_code (kind_data k parse custom) c s rest x h ∙ (kind_is k parse custom x rest n ∙ sym (by_code parse c s rest x h))

module _ (k : Kind) (parse : EncodingCodes → List ℕ → Parsed ℕ) (later : PartsRefusing) (buffers : Bool) (old : Decoding) where
  pub other_named : (mid : Decoding) (x : EncodingCodes) (text : List ℕ) (e : Error) → Looks old mid x → ((row x).kind ≡ k → ⊥) → IsCustom text e → Named (header_refusal (kind_data k parse) later) true buffers old (as_ended mid) e
  unfolding header_refusal
  other_named mid x text e l n c = record { why = λ a s at h. let y = l.exact s at in tell s y.0 y.1 e refl c }
    where
      tell : (s rest : List ℕ) → code_at (stands_under old) s ≡ Ok (x, rest) → (z : Error) → z ≡ e → IsCustom text z → header_refusal (kind_data k parse) later (stands_under old) s e ⊎ Excused true buffers old.reading mid.reading e
      tell s rest h (Message t) q i = inl (inl (λ custom f. other_kind k parse custom (stands_under old) s rest x h n ∙ ap Err (f (of_message q))))
        where
          of_message : Message t ≡ e → IsMessage e
          of_message g = rw (← g) tt
      tell s rest h OutOfMemory q i = inr (no_memory (sym q) refl)
      tell s rest h _ q i = absurd i

  pub unseen_named : (new : Decoding) (e : Error) → LooksNot buffers old new e → Named (header_refusal (kind_data k parse) later) true buffers old new e
  unfolding header_refusal
  unseen_named new e n = record { why = λ a s at h. tell s ((n.rejects a).why s at h) }
    where
      tell : (s : List ℕ) → (code_at (stands_under old) s ≡ Err e) ⊎ Excused buffers buffers old.reading new.reading e → header_refusal (kind_data k parse) later (stands_under old) s e ⊎ Excused true buffers old.reading new.reading e
      tell s (inl p) = inl (inl (λ custom f. item_none (kind_data k parse custom) (stands_under old) s e p))
      tell s (inr y) = inr (excused_more old.reading new.reading e (λ _. refl) y)

  -- it is refused as it is anywhere
  pub kind_named : {grows : Bool} (mid new : Decoding) (x : EncodingCodes) (e : Error) → (row x).kind ≡ k → Looks old mid x → Named (opened_refusal parse later) grows buffers mid new e → Named (header_refusal (kind_data k parse) later) true buffers old new e
  unfolding header_refusal opened_refusal
  kind_named {grows} mid new x e n l m =
      let u = named_behind (opened_refusal parse later) grows buffers old mid new x e l m in
      record { why = λ a s at h. let y = l.exact s at in tell s y.0 y.1 (u.why a s at h) }
    where
      tell : (s rest : List ℕ) → code_at (stands_under old) s ≡ Ok (x, rest) → opened_refusal parse later (stands_under old) s e ⊎ Excused grows buffers old.reading new.reading e → header_refusal (kind_data k parse) later (stands_under old) s e ⊎ Excused true buffers old.reading new.reading e
      tell s rest h (inl (inl p)) = inl (inl (λ custom f. of_kind k parse custom (stands_under old) s rest x h n ∙ p))
      tell s rest h (inl (inr p)) = inl (inr (record { count = p.count; rest = p.rest; header = λ custom. of_kind k parse custom (stands_under old) s rest x h n ∙ p.header; behind = p.behind }))
      tell s rest h (inr y) = inr (excused_more old.reading new.reading e (λ _. refl) y)

-- ---- behind the descriptor

behind_is : (takes : Item → Bool) (means : Item → Type 0) (among : Descriptor → Bool) (e : Descriptor) → among e ≡ true → (i : Item) → IsTrue (is_described_of takes i) → means_described means e i → IsTrue (is_behind among takes i) × means_behind means i
behind_is takes means among e s (described f v) t m = (both (among f) (takes v) (ap among m.0 ∙ s) t, m.1)
behind_is takes means among e s (scalar v) t m = absurd m
behind_is takes means among e s (list is) t m = absurd m
behind_is takes means among e s (map ps) t m = absurd m
behind_is takes means among e s (array is) t m = absurd m

pub behind_found : (takes : Item → Bool) (means : Item → Type 0) (among : Descriptor → Bool) (e : Descriptor) (old mid new : Decoding) → among e ≡ true → Describes e old mid → Found takes means mid new → Found (is_behind among takes) (means_behind means) old new
behind_found takes means among e old mid new s x f = found_as (is_described_of takes) (is_behind among takes) (means_described means e) (means_behind means) old new (behind_is takes means among e s) (described_found takes means e old mid new x f)

pub behind_missed : (takes : Item → Bool) (grows buffers : Bool) (among : Descriptor → Bool) (e : Descriptor) (old mid new : Decoding) (err : Error) → Describes e old mid → Missed takes grows buffers mid new err → Missed (is_behind among takes) true buffers old new err
behind_missed takes grows buffers among e old mid new err x m = missed_less (is_one among takes) (described_missed takes grows buffers e old mid new err x m)

any_behind : (among : Descriptor → Bool) (takes : Item → Bool) (i : Item) → IsTrue (is_behind among takes i) → IsTrue (is_behind among (λ _. true) i)
any_behind among takes (described e v) t = both (among e) true (left_of (among e) (takes v) t) refl
any_behind among takes (scalar v) t = t
any_behind among takes (list is) t = t
any_behind among takes (map ps) t = t
any_behind among takes (array is) t = t

-- none of the descriptors stands there
pub none_missed : (takes : Item → Bool) (buffers : Bool) (among : Descriptor → Bool) (old new : Decoding) (err : Error) → DescribesNone among buffers old new err → Missed (is_behind among takes) true buffers old new err
none_missed takes buffers among old new err n = missed_less (any_behind among takes) n.missed

the_one : (A B : Type 0) (b : Bool) → b ≡ true → A → one_or_other b A B
the_one A B b h a = rw h a

the_other : (A B : Type 0) (b : Bool) → b ≡ false → B → one_or_other b A B
the_other A B b h a = rw h a

module _ (among : Descriptor → Bool) (behind : Refusing) (buffers : Bool) (old : Decoding) where
  pub none_named : (new : Decoding) (err : Error) → DescribesNone among buffers old new err → Named (behind_refusal among behind) true buffers old new err
  unfolding behind_refusal none_among
  none_named new err n = named_wider tell n.named
    where
      tell : (c : Constructor) (s : List ℕ) → none_among among c s err → behind_refusal among behind c s err
      tell c s (inl p) = inl p
      tell c s (inr d) = inr (record { found = d.found; rest = d.rest; header = d.header; behind = the_other _ _ _ d.behind.0 d.behind.1 })

  pub behind_named : (grows : Bool) (e : Descriptor) (mid new : Decoding) (err : Error) → among e ≡ true → Describes e old mid → Named behind grows buffers mid new err → Named (behind_refusal among behind) true buffers old new err
  unfolding behind_refusal
  behind_named grows e mid new err q x n = record { why = λ a s at h. let k = x.exact s at in tell s k.0 k.2 (n.why x.not_ended k.0 k.1 (x.step.steady.honest ∙ h)) }
    where
      tell : (s rest : List ℕ) → ((custom : Error) → describing_at custom (stands_under old) s ≡ Ok (record { descriptor = e; stands = stands_under mid }, rest)) → behind (stands_under mid) rest err ⊎ Excused grows buffers mid.reading new.reading err
          → behind_refusal among behind (stands_under old) s err ⊎ Excused true buffers old.reading new.reading err
      tell s rest k (inl p) = inl (inr (record { found = record { descriptor = e; stands = stands_under mid }; rest = rest; header = k; behind = the_one _ _ _ q p }))
      tell s rest k (inr y) = inr (excused_before old.reading mid.reading new.reading x.text err x.step (excused_more mid.reading new.reading err (λ _. refl) y))
