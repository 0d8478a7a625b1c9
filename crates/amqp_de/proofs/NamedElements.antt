-- Refusals by name, of lists and arrays.
use Rattle.std.proofs.Common.{◌≡◌, ℕ, zero, suc, ◌+◌, ◌-◌, ◌<◌, ◌≤◌, Bool, true, false, if◌then◌else◌, IsTrue, List, ◌++◌, length, Option, Some, None, Ok, Err, nat_lt, refl, sym, ap, subst, ◌∙◌, arith, inl, inr, ◌⊎◌}
use Rattle.std.proofs.lemmas.List.{length-append}
use borrow.Author.Tests.{ltb-true}
use Rattle.std.proofs.lemmas.Bool.{le-ltb, lt-ltb, ltb-false}
use Rattle.amqp_base.specs.declared.error.Error.{Error}
use Rattle.amqp_base.specs.declared.error.Error.TheVariants.{Message, Io, InvalidFormatCode, InvalidValue, InvalidUtf8Encoding, SequenceLengthMismatch, InvalidLength, OutOfMemory}
use Rattle.amqp_base.specs.declared.format_code.EncodingCodes.{EncodingCodes}
use Rattle.amqp_base.specs.declared.format_code.EncodingCodes.TheVariants.{Array8, Array32}
use Rattle.amqp_base.specs.Codes.{row}
use Rattle.amqp_base.specs.Item.{Descriptor, Item, Items}
use Rattle.amqp_base.specs.Parse.{Parsed, ◌>>=◌, byte_at, byte_under, any_code, behind_byte, by_category, item_at, list_data, header_at, descriptor_data, descriptor_at, descriptor_or, described_by, is_descriptor_kind, primitive_at, constructor_at, constructor_behind, with_rest, of_room, elements_behind, array_at, seq_data, list_heading}
use Rattle.amqp_base.specs.Refusals.{StandsFor}
use Rattle.amqp_base.specs.Refusing.{Refusing, in_room, element_refusal, HeadingThen, seq_refusal}
use Rattle.amqp_base.specs.Wire.{Constructor, under_pair, Wire, lenient}
use Rattle.amqp_de.specs.Decoding.{Decoding, stands_under}
use Rattle.amqp_data.specs.Excuses.{Excused}
use Rattle.amqp_de.specs.Law.{Named}
use Rattle.amqp_de.specs.Access.{Listing, Part, PartNamed, PassesEnd}
use Rattle.amqp_data.specs.Parts.{Within, limit_at}
use Rattle.amqp_de.specs.Openings.{OpensElements, OpensEither}
use Rattle.amqp_de.specs.ReadParts.{PartsRead, RefusesElements}
use Rattle.amqp_de.proofs.NamedParts.{taken_since}
use Rattle.amqp_de.proofs.PartsRead.{stands_is}
use Rattle.amqp_data.proofs.Readings.{behind, excused_before, excused_more}

-- ---- where a message is called for, the answer has its text; else the answer is the same for all

pub data Uniform {A : Type 0} (f : Error → Parsed A) : Type 0 where
  for_each : (z : Parsed A) → ((custom : Error) → f custom ≡ z) → Uniform f
  message : ((custom : Error) → f custom ≡ Err custom) → Uniform f

pub constant : {A : Type 0} (z : Parsed A) → Uniform (λ _. z)
constant z = for_each z (λ _. refl)

pub bind : {A B : Type 0} (f : Error → Parsed A) (g : Error → A × List ℕ → Parsed B) → Uniform f → ((x : A × List ℕ) → Uniform (λ custom. g custom x)) → Uniform (λ custom. f custom >>= g custom)
bind f g (for_each (Ok x) h) u = tell (u x)
  where
    tell : Uniform (λ custom. g custom x) → Uniform (λ custom. f custom >>= g custom)
    tell (for_each z k) = for_each z (λ custom. rw (h custom) (k custom))
    tell (message k) = message (λ custom. rw (h custom) (k custom))
bind f g (for_each (Err e) h) u = for_each (Err e) (λ custom. rw (h custom) refl)
bind f g (message h) u = message (λ custom. rw (h custom) refl)

or_descriptor : (o : Option Descriptor) (s : List ℕ) → Uniform (λ custom. descriptor_or custom o s)
or_descriptor (Some d) s = for_each (Ok (d, s)) (λ _. refl)
or_descriptor None s = message (λ _. refl)

pub of_descriptor : (e : EncodingCodes) (s : List ℕ) → Uniform (λ custom. descriptor_data custom e s)
unfolding descriptor_data
of_descriptor e s = tell (is_descriptor_kind (row e).kind)
  where
    tell : (b : Bool) → Uniform (λ custom. if b then (by_category e (row e).category s >>= λ v. descriptor_or custom (described_by v.0) v.1) else Err custom)
    tell true = bind (λ _. by_category e (row e).category s) (λ custom v. descriptor_or custom (described_by v.0) v.1) (constant _) (λ v. or_descriptor (described_by v.0) v.1)
    tell false = message (λ _. refl)

pub at_byte : {A : Type 0} (f : Error → EncodingCodes → List ℕ → Parsed A) → ((e : EncodingCodes) (s : List ℕ) → Uniform (λ custom. f custom e s)) → (p : Parsed ℕ) → Uniform (λ custom. p >>= λ b. behind_byte (f custom) b.0 b.1)
at_byte f u p = bind (λ _. p) (λ custom b. behind_byte (f custom) b.0 b.1) (constant p) (λ b. bind (λ _. with_rest b.1 (any_code b.0)) (λ custom e. f custom e.0 e.1) (constant _) (λ e. u e.0 e.1))

of_constructor : (s : List ℕ) → Uniform (λ custom. constructor_at custom s)
unfolding constructor_at
of_constructor s = bind (λ _. byte_at s) (λ custom b. constructor_behind custom b.0 b.1) (constant _) (λ b. tell b.0 b.1)
  where
    tell : (n : ℕ) (t : List ℕ) → Uniform (λ custom. constructor_behind custom n t)
    tell zero t = bind (λ custom. descriptor_at custom t) (λ _ d. primitive_at d.1 >>= λ e. Ok (under_pair d.0 e.0, e.1)) (at_byte descriptor_data of_descriptor (byte_at t)) (λ d. constant _)
    tell (suc n) t = constant _

of_array : (w : ℕ) (s : List ℕ) → Uniform (λ custom. array_at custom w s)
unfolding array_at
of_array w s = bind (λ _. header_at w true s) (λ custom h. elements_behind custom w h.0.0 h.0.1 h.1) (constant _) (λ h. tell h.0.0 h.0.1 h.1)
  where
    tell : (z k : ℕ) (t : List ℕ) → Uniform (λ custom. elements_behind custom w z k t)
    tell z zero t = constant _
    tell z (suc k) t = bind (λ custom. constructor_at custom t) (λ _ c. of_room w z (length t - length c.1) (suc k) c.0 c.1) (of_constructor t) (λ c. constant _)

of_seq : (e : EncodingCodes) (s : List ℕ) → Uniform (λ custom. seq_data custom e s)
unfolding seq_data
of_seq Array8 s = of_array 1 s
of_seq Array32 s = of_array 4 s
of_seq e s = constant (list_data e s >>= λ n. Ok (list_heading n.0, n.1))

-- so what holds for each message holds for all
pub for_all : {A : Type 0} (parse : Error → Parsed A) → Uniform parse → (e : Error) (P : Type 0) → ((custom : Error) → StandsFor custom e → (parse custom ≡ Err e) ⊎ P) → ((custom : Error) → StandsFor custom e → parse custom ≡ Err e) ⊎ P
for_all parse (for_each z h) e P n = tell (n e (λ _. refl))
  where
    tell : (parse e ≡ Err e) ⊎ P → ((custom : Error) → StandsFor custom e → parse custom ≡ Err e) ⊎ P
    tell (inl p) = inl (λ custom s. h custom ∙ (sym (h e) ∙ p))
    tell (inr y) = inr y
for_all {A} parse (message h) e P n = tell e n
  where
    other : (d e : Error) → (d ≡ e → ⊥) → (parse d ≡ Err e) ⊎ P → ((custom : Error) → StandsFor custom e → parse custom ≡ Err e) ⊎ P
    other d e x (inl p) = let q : (let z : Parsed A = Err d in z) ≡ Err e = sym (h d) ∙ p in absurd (x cc)
    other d e x (inr y) = inr y

    tell : (e : Error) → ((custom : Error) → StandsFor custom e → (parse custom ≡ Err e) ⊎ P) → ((custom : Error) → StandsFor custom e → parse custom ≡ Err e) ⊎ P
    tell (Message t) k = inl (λ custom s. h custom ∙ ap Err (s tt))
    tell OutOfMemory k = other InvalidValue OutOfMemory (λ x. cc) (k InvalidValue (λ m. absurd m))
    tell (Io x) k = other OutOfMemory (Io x) (λ y. cc) (k OutOfMemory (λ m. absurd m))
    tell InvalidFormatCode k = other OutOfMemory InvalidFormatCode (λ y. cc) (k OutOfMemory (λ m. absurd m))
    tell InvalidValue k = other OutOfMemory InvalidValue (λ y. cc) (k OutOfMemory (λ m. absurd m))
    tell InvalidUtf8Encoding k = other OutOfMemory InvalidUtf8Encoding (λ y. cc) (k OutOfMemory (λ m. absurd m))
    tell SequenceLengthMismatch k = other OutOfMemory SequenceLengthMismatch (λ y. cc) (k OutOfMemory (λ m. absurd m))
    tell InvalidLength k = other OutOfMemory InvalidLength (λ y. cc) (k OutOfMemory (λ m. absurd m))

-- no list and no array was opened
pub seq_unopened : (takes : Item → Bool) (refuses : Refusing) (buffers : Bool) (old last : Decoding) (e : Error) → RefusesElements buffers old last e → Named (seq_refusal takes refuses) true buffers old last e
unfolding seq_refusal
seq_unopened takes refuses buffers old last e o = record {
  why = λ a s at h. tell s (for_all (λ custom. item_at (seq_data custom) (stands_under old) s) (at_byte seq_data of_seq (byte_under (stands_under old) s)) e (Excused true buffers old.reading last.reading e)
      (λ custom x. ((o.not_opened custom x).rejects a).why s at h));
}
  where
    tell : (s : List ℕ) → ((custom : Error) → StandsFor custom e → item_at (seq_data custom) (stands_under old) s ≡ Err e) ⊎ Excused true buffers old.reading last.reading e
        → (((custom : Error) → StandsFor custom e → item_at (seq_data custom) (stands_under old) s ≡ Err e) ⊎ HeadingThen (λ h rest. element_refusal takes refuses h.stands h.room h.count rest e) (stands_under old) s) ⊎ Excused true buffers old.reading last.reading e
    tell s (inl p) = inl (inl p)
    tell s (inr y) = inr y

-- ---- the elements

-- so many bytes are left behind an element of n bytes, which fits
abbrev less_by : Option ℕ → ℕ → Option ℕ
less_by None n = None
less_by (Some m) n = Some (m - n)

abbrev Fits : Option ℕ → ℕ → Type 0
Fits None n = Unit {0}
Fits (Some m) n = n ≤ m

fits_on : (left l : Option ℕ) (t u n : ℕ) → l ≡ limit_at t left → u ≡ t + n → Within l u → Fits left n
fits_on None l t u n a b w = tt
fits_on (Some m) l t u n a b w = let v : u ≤ t + m = rw a at w in omega (arith, v, b)

limit_on : (left l : Option ℕ) (t u n : ℕ) → l ≡ limit_at t left → u ≡ t + n → Fits left n → l ≡ limit_at u (less_by left n)
limit_on None l t u n a b f = a
limit_on (Some m) l t u n a b f = let e : t + m ≡ u + (m - n) = omega (arith, f, b) in a ∙ ap Some e

fits_in : (left : Option ℕ) (n : ℕ) (past : Type 0) (behind_it : Option ℕ → Type 0) → Fits left n → behind_it (less_by left n) → in_room left n past behind_it
fits_in None n past behind_it f b = b
fits_in (Some m) n past behind_it f b = rw (le-ltb m n f) b

passes_room : (left l : Option ℕ) (t n : ℕ) (past : Type 0) (behind_it : Option ℕ → Type 0) → l ≡ limit_at t left → (Within l (t + n) → ⊥) → past → in_room left n past behind_it
passes_room None l t n past behind_it a x p = let w : Within l (t + n) = rw a tt in absurd (x w)
passes_room (Some m) l t n past behind_it a x p =
    let long : m < n = tell (nat_lt m n) refl in
    rw (lt-ltb m n long) p
  where
    tell : (b : Bool) → nat_lt m n ≡ b → m < n
    tell true h = ltb-true m n h
    tell false h = let w : Within l (t + n) = rw a (omega (arith, ltb-false m n h)) in absurd (x w)

module _ (takes : Item → Bool) (refuses : Refusing) (c : Constructor) where
  -- What an element is refused as here, the elements are refused as.
  pub record ReachesElements (room : Option ℕ) (from now : Listing) : Type 0 where
    -- how many bytes are left for them
    pub left : Option ℕ
    pub limit : now.limit ≡ limit_at now.state.reading.taken left
    pub back : (s : List ℕ) → from.state.reading.to_come ≡ Some s
        → (rest : List ℕ) × (now.state.reading.to_come ≡ Some rest) × ((e : Error) → element_refusal takes refuses c left now.left rest e → element_refusal takes refuses c room from.left s e)

  pub elements_start : (room : Option ℕ) (from : Listing) → from.limit ≡ limit_at from.state.reading.taken room → ReachesElements room from from
  elements_start room from l = record { left = room; limit = l; back = λ s at. (s, at, λ e p. p) }

  -- it is refused behind an element that was taken
  behind_element : (left : Option ℕ) (k : ℕ) (text rest : List ℕ) (item : Item) (e : Error) → Wire lenient c text item → IsTrue (takes item) → Fits left (length text) → element_refusal takes refuses c (less_by left (length text)) k rest e → element_refusal takes refuses c left (suc k) (text ++ rest) e
  behind_element left k text rest item e w t f p =
      let len : length (text ++ rest) - length rest ≡ length text = omega (arith, length-append text rest) in
      inr (record { item = item; text = text; rest = rest; spelled = w; taken = t; split = refl; behind = rw len (fits_in left (length text) (e ≡ InvalidValue) (λ l. element_refusal takes refuses c l k rest e) f p) })

  pub elements_step : {means : Item → Type 0} {room : Option ℕ} (from now next : Listing) → stands_under now.state ≡ c → ReachesElements room from now → Part takes means now next → ReachesElements room from next
  elements_step from now next h r p =
      let f = fits_on r.left now.limit now.state.reading.taken next.state.reading.taken (length p.front.text) r.limit p.front.step.taken p.within in
      record {
        left = less_by r.left (length p.front.text);
        limit = p.limit ∙ limit_on r.left now.limit now.state.reading.taken next.state.reading.taken (length p.front.text) r.limit p.front.step.taken f;
        back = λ s at.
            let y = r.back s at in
            let k = behind now.state.reading next.state.reading y.0 p.front.text p.front.step y.1 in
            (k.0, k.1, λ e q. y.2 e (rw (p.left, k.2) (behind_element r.left next.left p.front.text k.0 p.front.item e (rw h at p.front.spelled) p.front.taken f q)));
      }

  -- it is refused itself, or goes past the room
  refused_here : (left : Option ℕ) (now : Listing) (k : ℕ) (s : List ℕ) (e : Error) → stands_under now.state ≡ c → now.limit ≡ limit_at now.state.reading.taken left → refuses (stands_under now.state) s e ⊎ PassesEnd takes now s e → element_refusal takes refuses c left (suc k) s e
  refused_here left now k s e h l (inl p) = inl (subst (λ (d : Constructor). refuses d s e) h p)
  refused_here left now k s e h l (inr p) =
      let len : length (p.text ++ p.rest) - length p.rest ≡ length p.text = omega (arith, length-append p.text p.rest) in
      inr (record { item = p.item; text = p.text; rest = p.rest; spelled = rw h at p.spelled; taken = p.taken; split = p.split; behind = rw (p.split, len) (passes_room left now.limit now.state.reading.taken (length p.text) (e ≡ InvalidValue) (λ m. element_refusal takes refuses c m k p.rest e) l p.past p.named) })

some_more : (n : ℕ) → 0 < n → (k : ℕ) × (n ≡ suc k)
some_more zero h = absurd (omega (arith, h))
some_more (suc k) h = (k, refl)

-- an element was refused
pub element_named : {grows is_array : Bool} {parts : Items} (takes : Item → Bool) (refuses : Refusing) (buffers : Bool) (old last : Decoding) (e : Error) (from now next : Listing) → (o : OpensElements is_array old from) → PartsRead from parts now
    → ReachesElements takes refuses from.state.inherited o.heading.room from now → 0 < now.left → PartNamed takes refuses grows buffers now next e → last.reading ≡ next.state.reading → Named (seq_refusal takes refuses) true buffers old last e
unfolding seq_refusal
element_named {grows} {is_array} takes refuses buffers old last e from now next o so_far r some n same = record {
  why = λ a s at h.
      let z = o.heading.exact s at in
      let y = r.back z.0 z.1 in
      tell s z.0 y.0 z.2 (y.2 e) (n.why so_far.not_ended y.0 y.1 ((taken_since o.opens so_far).steady.honest ∙ h));
}
  where
    here : stands_under now.state ≡ from.state.inherited
    here = stands_is now.state so_far.described ∙ so_far.inherited

    tell : (s behind_it rest : List ℕ) → ((custom : Error) → item_at (seq_data custom) (stands_under old) s ≡ Ok (record { of_array = is_array; count = from.left; stands = from.state.inherited; room = o.heading.room }, behind_it))
        → (element_refusal takes refuses from.state.inherited r.left now.left rest e → element_refusal takes refuses from.state.inherited o.heading.room from.left behind_it e)
        → (refuses (stands_under now.state) rest e ⊎ PassesEnd takes now rest e) ⊎ Excused grows buffers now.state.reading next.state.reading e
        → (((custom : Error) → StandsFor custom e → item_at (seq_data custom) (stands_under old) s ≡ Err e) ⊎ HeadingThen (λ h rest. element_refusal takes refuses h.stands h.room h.count rest e) (stands_under old) s) ⊎ Excused true buffers old.reading last.reading e
    tell s behind_it rest header back (inl p) =
        let k = some_more now.left some in
        inl (inr (record { heading = record { of_array = is_array; count = from.left; stands = from.state.inherited; room = o.heading.room }; rest = behind_it; header = header; behind = back (rw k.1 (refused_here takes refuses from.state.inherited r.left now k.0 rest e here r.limit p)) }))
    tell s behind_it rest header back (inr y) = inr (rw same (excused_before old.reading now.state.reading next.state.reading (o.opens.text ++ so_far.text) e (taken_since o.opens so_far) (excused_more now.state.reading next.state.reading e (λ _. refl) y)))

-- ---- through a loop, whatever room there is

module _ (takes : Item → Bool) (refuses : Refusing) where
  abbrev pub Reach : Listing → Listing → Type 0
  Reach from now = (room : Option ℕ) → from.limit ≡ limit_at from.state.reading.taken room → ReachesElements takes refuses from.state.inherited room from now

  pub reach_start : (from : Listing) → Reach from from
  reach_start from = λ room l. elements_start takes refuses from.state.inherited room from l

  pub reach_step : {means : Item → Type 0} {parts : Items} (from now next : Listing) → PartsRead from parts now → Reach from now → Part takes means now next → Reach from next
  reach_step from now next s r p = λ room l. elements_step takes refuses from.state.inherited from now next (stands_is now.state s.described ∙ s.inherited) (r room l) p

  pub reach_named : {grows : Bool} {parts : Items} (buffers : Bool) (old last : Decoding) (e : Error) (from now next : Listing) → OpensEither old from → PartsRead from parts now → Reach from now → 0 < now.left → PartNamed takes refuses grows buffers now next e → last.reading ≡ next.state.reading
      → Named (seq_refusal takes refuses) true buffers old last e
  reach_named buffers old last e from now next o s r some n same = element_named takes refuses buffers old last e from now next o.1 s (r o.1.heading.room o.1.heading.limit) some n same
