-- Opening a list of just so many parts.
use Rattle.std.proofs.Common.{◌≡◌, ℕ, suc, Bool, List, [], ◌∷◌, length, Result, Ok, Err, IfErr, refl, sym, ap, ◌∙◌, inl, inr, ◌⊎◌, IsTrue}
use Rattle.std.proofs.lemmas.Bool.{eq-eqb, ne_eqb}
use Rattle.amqp_base.specs.declared.error.Error.{Error}
use Rattle.amqp_base.specs.declared.error.Error.TheVariants.{SequenceLengthMismatch}
use Rattle.amqp_base.specs.declared.format_code.EncodingCodes.{EncodingCodes}
use Rattle.amqp_base.specs.Item.{Item, Items, none, more, count}
use Rattle.amqp_base.specs.Wire.{Constructor}
use Rattle.amqp_base.specs.Fields.{all_fields}
use Rattle.amqp_de.specs.Decoding.{Decoding, stands_under, as_ended}
use Rattle.amqp_data.specs.Excuses.{Excused}
use Rattle.amqp_base.specs.Parse.{Parsed, ◌>>=◌, byte_under, any_code, with_rest, behind_byte, item_at, list_data, of_length, tuple_data}
use Rattle.amqp_de.specs.Access.{Listing, Opens, OpensExactly, OpensNot}
use Rattle.amqp_data.specs.Parts.{HasParts}
use Rattle.amqp_de.specs.ReadParts.{NoTuple, RefusesTuple}
use Rattle.amqp_data.proofs.Readings.{onward}
use Rattle.amqp_de.proofs.PartsRead.{right_of, missed_more}
use Rattle.amqp_de.proofs.ReadParts.{fields_unopened, progress_start, not_taken}

pub count_fields : (fields : List (Item → Bool)) (is : Items) → IsTrue (all_fields fields is) → count is ≡ length fields
count_fields [] none t = refl
count_fields [] (more i is) t = absurd cc
count_fields (f ∷ fs) none t = absurd cc
count_fields (f ∷ fs) (more i is) t = ap suc (count_fields fs is (right_of (f i) _ t))

-- the number of parts is looked at once the list's own header was read
pub tuple_item : (len : ℕ) (c : Constructor) (s : List ℕ) → item_at (tuple_data len) c s ≡ (item_at list_data c s >>= λ n. of_length len n.0 n.1)
unfolding tuple_data
tuple_item len c s = at_byte (byte_under c s)
  where
    at_code : (s : List ℕ) (r : Result EncodingCodes Error) → (with_rest s r >>= λ e. tuple_data len e.0 e.1) ≡ ((with_rest s r >>= λ e. list_data e.0 e.1) >>= λ n. of_length len n.0 n.1)
    at_code s (Ok e) = refl
    at_code s (Err e) = refl

    at_byte : (p : Parsed ℕ) → (p >>= λ b. behind_byte (tuple_data len) b.0 b.1) ≡ ((p >>= λ b. behind_byte list_data b.0 b.1) >>= λ n. of_length len n.0 n.1)
    at_byte (Ok x) = at_code x.1 (any_code x.0)
    at_byte (Err e) = refl

same_length : (len n : ℕ) (s : List ℕ) → n ≡ len → of_length len n s ≡ Ok (n, s)
same_length len n s h = rw (eq-eqb n len h) refl

pub other_length : (len n : ℕ) (s : List ℕ) → (n ≡ len → ⊥) → of_length len n s ≡ Err SequenceLengthMismatch
other_length len n s h = rw (ne_eqb n len h) refl

pub tuple_exactly : (len : ℕ) (old : Decoding) (l : Listing) → OpensExactly list_data old l → l.left ≡ len → OpensExactly (tuple_data len) old l
tuple_exactly len old l o h = record {
  exact = λ s at.
      let p = o.exact s at in
      (p.0, p.1, tuple_item len (stands_under old) s ∙ (ap (λ (x : Parsed ℕ). x >>= λ n. of_length len n.0 n.1) p.2 ∙ same_length len l.left p.0 h));
}

-- no list was opened
pub tuple_unopened : (len : ℕ) (buffers : Bool) (old last : Decoding) (e : Error) → OpensNot HasParts list_data buffers buffers old last e → NoTuple len buffers old last e
tuple_unopened len buffers old last e o = record {
  if_ended = o.if_ended;
  rejects = λ a. let r = o.rejects a in record { why = λ s at h. tell s (r.why s at h); steady = r.steady; device = r.device; memory = r.memory };
  ended = o.ended;
  missed = λ fields n. fields_unopened fields buffers buffers old last e o;
}
  where
    tell : (s : List ℕ) → (item_at list_data (stands_under old) s ≡ Err e) ⊎ Excused buffers buffers old.reading last.reading e → (item_at (tuple_data len) (stands_under old) s ≡ Err e) ⊎ Excused buffers buffers old.reading last.reading e
    tell s (inl p) = inl (tuple_item len (stands_under old) s ∙ ap (λ (x : Parsed ℕ). x >>= λ n. of_length len n.0 n.1) p)
    tell s (inr y) = inr y

-- it has another number of parts
pub other_tuple : (len : ℕ) (buffers : Bool) (old : Decoding) (l : Listing) → Opens HasParts old l → OpensExactly list_data old l → (l.left ≡ len → ⊥) → NoTuple len buffers old (as_ended l.state) SequenceLengthMismatch
other_tuple len buffers old l o x h = record {
  if_ended = λ c. absurd cc (c, o.before);
  rejects = λ _. record {
    why = λ s at f.
        let p = x.exact s at in
        inl (tuple_item len (stands_under old) s ∙ (ap (λ (y : Parsed ℕ). y >>= λ n. of_length len n.0 n.1) p.2 ∙ other_length len l.left p.0 h));
    steady = (onward o.step);
    device = λ d. absurd d;
    memory = λ m. absurd cc;
  };
  ended = refl;
  missed = λ fields n. not_taken old fields fields none l (progress_start old l o fields) buffers buffers (as_ended l.state) refl refl (λ js c t. h (sym c ∙ (count_fields fields js t ∙ n)));
}

pub tuple_refused : {A : Type 0} (len : ℕ) (buffers : Bool) (old last : Decoding) (r : Result A Error) → IfErr r (λ e. NoTuple len buffers old last e) → RefusesTuple len buffers old r last
tuple_refused len buffers old last (Ok v) o = record { unopened = tt; law = tt }
tuple_refused len buffers old last (Err e) o = record { unopened = o; law = λ fields grows n g. missed_more g (o.missed fields n) }
