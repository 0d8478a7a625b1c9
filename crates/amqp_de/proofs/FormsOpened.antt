-- Opening a struct by its form, behind a look at its code.
use Rattle.std.proofs.Common.{◌≡◌, ℕ, Bool, true, false, List, ◌++◌, Some, Result, Ok, Err, refl, sym, ap, ◌∙◌, arith, inl, inr, ◌⊎◌}
use Rattle.amqp_base.specs.declared.error.Error.{Error}
use Rattle.amqp_base.specs.declared.error.Error.TheVariants.{InvalidValue}
use Rattle.amqp_base.specs.declared.format_code.EncodingCodes.{EncodingCodes}
use Rattle.amqp_base.specs.declared.format_code.EncodingCodes.TheVariants.{Map8, Map32}
use Rattle.amqp_base.specs.Codes.{Kind, row}
use Rattle.amqp_base.specs.Item.{Item, Items, no_pairs}
use Rattle.amqp_base.specs.NamedFields.{takes_map, takes_struct}
use Rattle.amqp_base.specs.Wire.{Constructor}
use Rattle.amqp_read.specs.Reading.{Reading}
use Rattle.amqp_de.specs.Decoding.{Decoding, stands_under}
use Rattle.amqp_data.specs.Excuses.{Excused}
use Rattle.amqp_de.specs.Look.{looked_at, Looks, LooksNot}
use Rattle.amqp_base.specs.Parse.{Parsed, ◌>>=◌, byte_under, any_code, with_rest, behind_byte, item_at, code_at, map_data, tuple_data, struct_data}
use Rattle.amqp_data.specs.Steps.{Rejects}
use Rattle.amqp_de.specs.Steps.{Stops}
use Rattle.amqp_de.specs.Access.{Listing, Opens, OpensExactly}
use Rattle.amqp_data.specs.Parts.{HasParts, HasPairs}
use Rattle.amqp_de.specs.ReadParts.{NoTuple}
use Rattle.amqp_de.specs.ReadPairs.{PairsRead, NoMap}
use Rattle.amqp_de.specs.Forms.{RowOpened, MapOpened, NoStruct}
use Rattle.amqp_de.proofs.LookedFirst.{same_place, takes_behind, excused_kept, missed_of_kind, missed_unseen}
use Rattle.amqp_data.proofs.MapHeaders.{map_codes}
use Rattle.amqp_de.proofs.Pairs.{pairs_start}
use Rattle.amqp_de.proofs.ReadParts.{progress_start}
use Rattle.amqp_data.proofs.Readings.{advances_then, stayed}
use Rattle.amqp_data.proofs.Received.{keeps_known}
use Rattle.amqp_de.proofs.StructForms.{struct_is_map, struct_is_row}
use Rattle.amqp_de.proofs.StructRead.{map_unopened}

-- ---- where a code stands, its data follow

abbrev given : EncodingCodes → List ℕ → Parsed EncodingCodes
given e s = Ok (e, s)

ok_is : (x y : EncodingCodes × List ℕ) → given x.0 x.1 ≡ given y.0 y.1 → x ≡ y
ok_is x y h = cc

code_data : {A : Type 0} (F : EncodingCodes → List ℕ → Parsed A) (s : List ℕ) (q : Result EncodingCodes Error) (e : EncodingCodes) (r : List ℕ) → (with_rest s q >>= λ e. given e.0 e.1) ≡ Ok (e, r) → (with_rest s q >>= λ e. F e.0 e.1) ≡ F e r
code_data F s (Err x) e r h = absurd cc
code_data F s (Ok f) e r h = let p = ok_is (f, s) (e, r) h in rw (ap (λ (z : EncodingCodes × List ℕ). z.0) p, ap (λ (z : EncodingCodes × List ℕ). z.1) p) refl

byte_data : {A : Type 0} (F : EncodingCodes → List ℕ → Parsed A) (p : Parsed ℕ) (e : EncodingCodes) (r : List ℕ) → (p >>= λ b. behind_byte given b.0 b.1) ≡ Ok (e, r) → (p >>= λ b. behind_byte F b.0 b.1) ≡ F e r
byte_data F (Err x) e r h = absurd cc
byte_data F (Ok x) e r h = code_data F x.1 (any_code x.0) e r h

pub item_data : {A : Type 0} (F : EncodingCodes → List ℕ → Parsed A) (c : Constructor) (s : List ℕ) (e : EncodingCodes) (r : List ℕ) → code_at c s ≡ Ok (e, r) → item_at F c s ≡ F e r
item_data F c s e r h = byte_data F (byte_under c s) e r h

code_none : {A : Type 0} (F : EncodingCodes → List ℕ → Parsed A) (s : List ℕ) (q : Result EncodingCodes Error) (x : Error) → (with_rest s q >>= λ e. given e.0 e.1) ≡ Err x → (with_rest s q >>= λ e. F e.0 e.1) ≡ Err x
code_none F s (Err y) x h = let a : y ≡ x = cc in rw a refl
code_none F s (Ok f) x h = absurd cc

byte_none : {A : Type 0} (F : EncodingCodes → List ℕ → Parsed A) (p : Parsed ℕ) (x : Error) → (p >>= λ b. behind_byte given b.0 b.1) ≡ Err x → (p >>= λ b. behind_byte F b.0 b.1) ≡ Err x
byte_none F (Err y) x h = let a : y ≡ x = cc in rw a refl
byte_none F (Ok y) x h = code_none F y.1 (any_code y.0) x h

pub item_none : {A : Type 0} (F : EncodingCodes → List ℕ → Parsed A) (c : Constructor) (s : List ℕ) (x : Error) → code_at c s ≡ Err x → item_at F c s ≡ Err x
item_none F c s x h = byte_none F (byte_under c s) x h

pub struct_map_data : (len : ℕ) (e : EncodingCodes) (s : List ℕ) → (row e).kind ≡ Kind.map → struct_data len e s ≡ map_data e s
unfolding struct_data
struct_map_data len e s h = tell (map_codes e h)
  where
    tell : (e ≡ Map8) ⊎ (e ≡ Map32) → struct_data len e s ≡ map_data e s
    tell (inl p) = rw p refl
    tell (inr p) = rw p refl

pub struct_row_data : (len : ℕ) (e : EncodingCodes) (s : List ℕ) → ((row e).kind ≡ Kind.map → ⊥) → struct_data len e s ≡ tuple_data len e s
unfolding struct_data row
struct_row_data len Map8 s n = absurd (n refl)
struct_row_data len Map32 s n = absurd (n refl)
struct_row_data len _ s n = refl

-- a look that was answered
pub answered : {A : Type 0} {x : A} (old mid : Decoding) → Stops old (Ok x) mid → old.ended ≡ false
answered {A} {x} old mid s = tell old.ended refl
  where
    apart : Ok x ≡ Err InvalidValue → ⊥
    apart h = cc

    tell : (b : Bool) → old.ended ≡ b → old.ended ≡ false
    tell false h = h
    tell true h = absurd (apart (s.if_ended h).0)

-- ---- behind a look

module _ (old mid : Decoding) (x : EncodingCodes) (l : Looks old mid x) where
  known : (s : List ℕ) → old.reading.to_come ≡ Some s → mid.reading.to_come ≡ Some s
  known s at = keeps_known old.reading.to_come mid.reading.to_come s l.looked.stays.to_come at

  parses_behind : {A : Type 0} (F G : EncodingCodes → List ℕ → Parsed A) → ((s : List ℕ) → F x s ≡ G x s) → (s : List ℕ) → old.reading.to_come ≡ Some s → item_at F (stands_under old) s ≡ item_at G (stands_under mid) s
  parses_behind F G same s at =
      let k = l.exact s at in
      item_data F (stands_under old) s x k.0 k.1 ∙ (same k.0 ∙ (sym (item_data G (stands_under old) s x k.0 k.1) ∙ ap (λ (c : Constructor). item_at G c s) (sym (same_place old mid x l))))

  pub rejects_behind : {buffers : Bool} (F G : EncodingCodes → List ℕ → Parsed ℕ) → ((s : List ℕ) → F x s ≡ G x s) → (last : Reading) (e : Error) → Rejects buffers buffers (item_at G (stands_under mid)) mid.reading last e → Rejects buffers buffers (item_at F (stands_under old)) old.reading last e
  rejects_behind {buffers} F G same last e n = record {
    why = λ s at h. tell s at (n.why s (known s at) (l.looked.stays.steady.honest ∙ h));
    steady = advances_then old.reading mid.reading last (stayed l.looked.stays) n.steady;
    device = λ d. let f = l.looked.stays.steady.faults in let g = n.device d in omega (arith, f, g);
    memory = n.memory;
  }
    where
      tell : (s : List ℕ) → old.reading.to_come ≡ Some s → (item_at G (stands_under mid) s ≡ Err e) ⊎ Excused buffers buffers mid.reading last e → (item_at F (stands_under old) s ≡ Err e) ⊎ Excused buffers buffers old.reading last e
      tell s at (inl p) = inl (parses_behind F G same s at ∙ p)
      tell s at (inr y) = inr (excused_kept old.reading mid.reading last e l.looked.stays y)

  pub exactly_behind : (F G : EncodingCodes → List ℕ → Parsed ℕ) → ((s : List ℕ) → F x s ≡ G x s) → (a : Listing) → OpensExactly G mid a → OpensExactly F old a
  exactly_behind F G same a o = record { exact = λ s at. let k = o.exact s (known s at) in (k.0, k.1, parses_behind F G same s at ∙ k.2) }

  pub opens_behind : {Has : Item → Items → Type 0} (a : Listing) → old.ended ≡ false → Opens Has mid a → Opens Has old a
  opens_behind a answered o =
      let same = same_place old mid x l in
      record {
        text = o.text;
        step = takes_behind (looked_at (stands_under old)) old.reading mid.reading a.state.reading o.text l.looked (rw same at o.own) o.step;
        whole = λ b is p n w. let q = o.whole b is p n w in (q.0, rw same at (q.1), q.2, rw (← same, ← l.begun) q.3);
        only = λ t rest i is h w at. o.only t rest i is h (rw same w) (known (t ++ rest) at);
        own = rw same at o.own;
        before = answered;
        outer = o.outer ∙ l.inherited;
        described = o.described;
        not_ended = o.not_ended;
        starts = o.starts;
        spent = let s = o.spent in let u = rw same at s in omega (arith, u, l.begun, l.looked.stays.taken);
      }

  module _ (answered : old.ended ≡ false) where
    pub row_form : (len : ℕ) (a : Listing) → ((row x).kind ≡ Kind.map → ⊥) → Opens HasParts mid a → OpensExactly (tuple_data len) mid a → a.left ≡ len → RowOpened len old a
    row_form len a n o e left =
        let b = opens_behind a answered o in
        record {
          opens = b;
          exact = exactly_behind (struct_data len) (tuple_data len) (λ s. struct_row_data len x s n) a e;
          left = left;
          progress = progress_start old a b;
        }

    pub map_form : (len : ℕ) (a : Listing) → (row x).kind ≡ Kind.map → Opens HasPairs mid a → OpensExactly map_data mid a → ((key value : Item → Bool) → PairsRead mid key value no_pairs a) → MapOpened len old a
    map_form len a k o e p =
        let b = opens_behind a answered o in
        record {
          opens = b;
          exact = exactly_behind (struct_data len) map_data (λ s. struct_map_data len x s k) a e;
          pairs = λ key value. pairs_start key value old a b (p key value).turn;
        }

    pub no_row : (len : ℕ) (buffers : Bool) (last : Decoding) (e : Error) → ((row x).kind ≡ Kind.map → ⊥) → NoTuple len buffers mid last e → NoStruct len buffers old last e
    no_row len buffers last e n t = record {
      if_ended = λ u. absurd cc (u, answered);
      rejects = λ _. rejects_behind (struct_data len) (tuple_data len) (λ s. struct_row_data len x s n) last.reading e (t.rejects l.not_ended);
      ended = t.ended;
      missed = λ names fields h. missed_of_kind _ (takes_struct names fields) buffers buffers buffers old mid last x e (λ b. b) (λ i q k. struct_is_row names fields (row x).kind i n q k) l (t.missed fields h);
    }

    pub no_map : (len : ℕ) (buffers : Bool) (last : Decoding) (e : Error) → (row x).kind ≡ Kind.map → NoMap buffers mid last e → NoStruct len buffers old last e
    no_map len buffers last e k t = record {
      if_ended = λ u. absurd cc (u, answered);
      rejects = λ _. rejects_behind (struct_data len) map_data (λ s. struct_map_data len x s k) last.reading e (t.not_opened.rejects l.not_ended);
      ended = t.not_opened.ended;
      missed = λ names fields h. missed_of_kind (takes_map names fields) (takes_struct names fields) buffers buffers buffers old mid last x e (λ b. b) (λ i q s. struct_is_map names fields (row x).kind i k q s) l (map_unopened names fields t.not_opened);
    }

abbrev refused_code : Error → Result EncodingCodes Error
refused_code e = Err e

-- no code stands there
pub no_form : (len : ℕ) (buffers : Bool) (old last : Decoding) (e : Error) → LooksNot buffers old last e → Stops old (refused_code e) last → NoStruct len buffers old last e
no_form len buffers old last e n s = record {
  if_ended = λ u. let p = s.if_ended u in (err_is p.0, p.1);
  rejects = λ a. let r = n.rejects a in record { why = λ t at h. tell t (r.why t at h); steady = r.steady; device = r.device; memory = r.memory };
  ended = s.err;
  missed = λ names fields h. missed_unseen (takes_struct names fields) buffers buffers old last e (λ b. b) n;
}
  where
    err_is : refused_code e ≡ refused_code InvalidValue → e ≡ InvalidValue
    err_is h = cc

    tell : (t : List ℕ) → (code_at (stands_under old) t ≡ Err e) ⊎ Excused buffers buffers old.reading last.reading e → (item_at (struct_data len) (stands_under old) t ≡ Err e) ⊎ Excused buffers buffers old.reading last.reading e
    tell t (inl p) = inl (byte_none (struct_data len) (byte_under (stands_under old) t) e p)
    tell t (inr y) = inr y
