-- Refusals by the names that the bytes call for.
use Rattle.std.proofs.Common.{◌≡◌, ℕ, Bool, ◌||◌, IsTrue, List, length, Result, Ok, Err, IfErr, IsErrAnd, refl, sym, ap, subst, ◌∙◌, arith, inl, inr, ◌⊎◌}
use Rattle.amqp_base.specs.declared.error.Error.{Error}
use Rattle.amqp_base.specs.declared.error.Error.TheVariants.{InvalidValue}
use Rattle.amqp_base.specs.declared.format_code.EncodingCodes.{EncodingCodes}
use Rattle.amqp_base.specs.declared.format_code.EncodingCodes.TheVariants.{Null}
use Rattle.amqp_base.specs.Codes.{Kind, row}
use Rattle.amqp_base.specs.SameKind.{same_kind, place}
use Rattle.amqp_base.specs.Value.{payload, read}
use Rattle.std.proofs.lemmas.Bool.{le-ltb}
use Rattle.amqp_base.specs.Item.{null, Item}
use Rattle.amqp_base.specs.Wire.{Constructor}
use Rattle.amqp_base.specs.Parse.{Parsed, ◌>>=◌, byte_under, any_code, with_rest, behind_byte, item_at, code_at, data_at}
use Rattle.amqp_base.specs.Refusing.{Refusing, scalar_refusal, option_refusal}
use Rattle.amqp_de.specs.Decoding.{Decoding, stands_under, as_ended}
use Rattle.amqp_data.specs.Excuses.{Excused}
use Rattle.amqp_de.specs.Law.{Found, Named}
use Rattle.amqp_de.specs.Look.{Looks, LooksNot}
use Rattle.amqp_de.specs.Access.{Listing, PartNamed, PassesEnd}
use Rattle.amqp_data.specs.Parts.{Within}
use Rattle.amqp_data.proofs.Readings.{behind, excused_more}
use Rattle.amqp_data.proofs.Received.{keeps_known}
use Rattle.amqp_de.proofs.LookedFirst.{excused_kept, same_place}
use Rattle.amqp_de.proofs.ReadParts.{or_right}

pub named_more : {refuses : Refusing} {a b buffers : Bool} {old new : Decoding} {e : Error} → (IsTrue a → IsTrue b) → Named refuses a buffers old new e → Named refuses b buffers old new e
named_more {refuses = refuses} {a = a} {b = b} {buffers = buffers} {old = old} {new = new} {e = e} g n = record { why = λ x s at h. tell s (n.why x s at h) }
  where
    tell : (s : List ℕ) → refuses (stands_under old) s e ⊎ Excused a buffers old.reading new.reading e → refuses (stands_under old) s e ⊎ Excused b buffers old.reading new.reading e
    tell s (inl p) = inl p
    tell s (inr y) = inr (excused_more old.reading new.reading e g y)

-- ---- behind a look

pub named_behind : (refuses : Refusing) (grows buffers : Bool) (old mid new : Decoding) (x : EncodingCodes) (e : Error) → Looks old mid x → Named refuses grows buffers mid new e → Named refuses grows buffers old new e
named_behind refuses grows buffers old mid new x e l n = record {
  why = λ a s at h. tell s (n.why l.not_ended s (keeps_known old.reading.to_come mid.reading.to_come s l.looked.stays.to_come at) (l.looked.stays.steady.honest ∙ h));
}
  where
    tell : (s : List ℕ) → refuses (stands_under mid) s e ⊎ Excused grows buffers mid.reading new.reading e → refuses (stands_under old) s e ⊎ Excused grows buffers old.reading new.reading e
    tell s (inl p) = inl (subst (λ c. refuses c s e) (same_place old mid x l) p)
    tell s (inr y) = inr (excused_kept old.reading mid.reading new.reading e l.looked.stays y)

-- an item whose code is known
at_code : {A : Type 0} (f : EncodingCodes → List ℕ → Parsed A) (s rest : List ℕ) (r : Result EncodingCodes Error) (x : EncodingCodes) → (with_rest s r >>= λ e. Ok (e.0, e.1)) ≡ Ok (x, rest) → (with_rest s r >>= λ e. f e.0 e.1) ≡ f x rest
at_code f s rest (Ok e) x h = let p : (e, s) ≡ (x, rest) = cc in ap (λ (z : EncodingCodes × List ℕ). f z.0 z.1) p
at_code f s rest (Err e) x h = absurd cc

at_byte : {A : Type 0} (f : EncodingCodes → List ℕ → Parsed A) (rest : List ℕ) (p : Parsed ℕ) (x : EncodingCodes) → (p >>= λ b. behind_byte (λ e t. Ok (e, t)) b.0 b.1) ≡ Ok (x, rest) → (p >>= λ b. behind_byte f b.0 b.1) ≡ f x rest
at_byte f rest (Ok b) x h = at_code f b.1 rest (any_code b.0) x h
at_byte f rest (Err e) x h = absurd cc

pub by_code : {A : Type 0} (f : EncodingCodes → List ℕ → Parsed A) (c : Constructor) (s rest : List ℕ) (x : EncodingCodes) → code_at c s ≡ Ok (x, rest) → item_at f c s ≡ f x rest
by_code f c s rest x h = at_byte f rest (byte_under c s) x h

null_there : (rest : List ℕ) (e : Error) → data_at Kind.null Null rest ≡ Err e → ⊥
unfolding data_at row same_kind place payload read
null_there rest e h =
    let q : data_at Kind.null Null rest ≡ Ok (null, rest) = rw (le-ltb (length rest) 0 (omega arith)) refl in
    cc (sym q ∙ h)

-- ---- options

pub option_unseen : (refuses : Refusing) (grows buffers : Bool) (old new : Decoding) (e : Error) → LooksNot buffers old new e → Named (option_refusal refuses) (grows || buffers) buffers old new e
unfolding option_refusal
option_unseen refuses grows buffers old new e n = record { why = λ a s at h. tell s ((n.rejects a).why s at h) }
  where
    tell : (s : List ℕ) → (code_at (stands_under old) s ≡ Err e) ⊎ Excused buffers buffers old.reading new.reading e → ((code_at (stands_under old) s ≡ Err e) ⊎ refuses (stands_under old) s e) ⊎ Excused (grows || buffers) buffers old.reading new.reading e
    tell s (inl p) = inl (inl p)
    tell s (inr y) = inr (excused_more old.reading new.reading e (or_right grows buffers) y)

-- null has no data that could be refused
pub option_null : (refuses : Refusing) (grows buffers : Bool) (old mid new : Decoding) (x : EncodingCodes) (e : Error) → x ≡ Null → Looks old mid x → Named (scalar_refusal Kind.null) buffers buffers mid new e → Named (option_refusal refuses) (grows || buffers) buffers old new e
unfolding option_refusal scalar_refusal
option_null refuses grows buffers old mid new x e z l n = record {
  why = λ a s at h.
      let k = l.exact s at in
      tell s k.0 k.1 (n.why l.not_ended s (keeps_known old.reading.to_come mid.reading.to_come s l.looked.stays.to_come at) (l.looked.stays.steady.honest ∙ h));
}
  where
    tell : (s rest : List ℕ) → code_at (stands_under old) s ≡ Ok (x, rest) → (item_at (data_at Kind.null) (stands_under mid) s ≡ Err e) ⊎ Excused buffers buffers mid.reading new.reading e
        → ((code_at (stands_under old) s ≡ Err e) ⊎ refuses (stands_under old) s e) ⊎ Excused (grows || buffers) buffers old.reading new.reading e
    tell s rest k (inl p) =
        let q : item_at (data_at Kind.null) (stands_under old) s ≡ Err e = rw (same_place old mid x l) at p in
        let d : data_at Kind.null Null rest ≡ Err e = subst (λ (y : EncodingCodes). data_at Kind.null y rest ≡ Err e) z (sym (by_code (data_at Kind.null) (stands_under old) s rest x k) ∙ q) in
        absurd (null_there rest e d)
    tell s rest k (inr y) = inr (excused_kept old.reading mid.reading new.reading e l.looked.stays (excused_more mid.reading new.reading e (or_right grows buffers) y))

pub option_value : (refuses : Refusing) (grows buffers : Bool) (old mid new : Decoding) (x : EncodingCodes) (e : Error) → Looks old mid x → Named refuses grows buffers mid new e → Named (option_refusal refuses) grows buffers old new e
unfolding option_refusal
option_value refuses grows buffers old mid new x e l n =
    let m = named_behind refuses grows buffers old mid new x e l n in
    record { why = λ a s at h. tell s (m.why a s at h) }
  where
    tell : (s : List ℕ) → refuses (stands_under old) s e ⊎ Excused grows buffers old.reading new.reading e → ((code_at (stands_under old) s ≡ Err e) ⊎ refuses (stands_under old) s e) ⊎ Excused grows buffers old.reading new.reading e
    tell s (inl p) = inl (inr p)
    tell s (inr y) = inr y

-- a refusal that `?` passes on
pub named_on : {A : Type 0} {refuses : Refusing} {grows buffers : Bool} {old : Decoding} {e : Error} (r : Result A Error) (last x : Decoding) → IsErrAnd r (λ y. y ≡ e) → last ≡ x → Named refuses grows buffers old x e → IfErr r (λ y. Named refuses grows buffers old last y)
named_on (Ok v) last x h l n = absurd h
named_on (Err y) last x h l n = rw (h, l) n

-- where an access is dropped, its deserializer is ended
pub named_dropped : {refuses : Refusing} {grows buffers : Bool} {old x : Decoding} {e : Error} → Named refuses grows buffers old x e → Named refuses grows buffers old (as_ended x) e
named_dropped n = record { why = n.why }

-- ---- a part of an access

-- a part that was read goes past the end of its array
pub part_passes : {takes : Item → Bool} {means : Item → Type 0} (refuses : Refusing) (grows buffers : Bool) (old new : Listing) (last : Decoding) → Found takes means old.state last → (Within old.limit last.reading.taken → ⊥) → PartNamed takes refuses grows buffers old new InvalidValue
part_passes refuses grows buffers old new last f h = record {
  why = λ a s at q.
      let o = f.front a in
      let k = behind old.state.reading last.reading s o.text o.step at in
      inl (inr (record {
        item = o.item;
        text = o.text;
        rest = k.0;
        spelled = o.spelled;
        taken = o.taken;
        split = k.2;
        past = λ w. h (rw (← o.step.taken) at w);
        named = refl;
      }));
}

pub part_named : {takes : Item → Bool} (refuses : Refusing) (grows buffers : Bool) (old new : Listing) (last : Decoding) (e : Error) → Named refuses grows buffers old.state last e → new.state.reading ≡ last.reading → PartNamed takes refuses grows buffers old new e
part_named {takes = takes} refuses grows buffers old new last e n same = record { why = λ a s at h. tell s (n.why a s at h) }
  where
    tell : (s : List ℕ) → refuses (stands_under old.state) s e ⊎ Excused grows buffers old.state.reading last.reading e → (refuses (stands_under old.state) s e ⊎ PassesEnd takes old s e) ⊎ Excused grows buffers old.state.reading new.state.reading e
    tell s (inl p) = inl (inl p)
    tell s (inr y) = inr (rw same y)
