-- Which variant of an enum stands there.
use Rattle.std.proofs.Common.{◌≡◌, ℕ, Bool, true, false, IsTrue, List, Some, Result, Ok, Err, refl, ap, subst, ◌∙◌, arith, inl, inr, ◌⊎◌}
use Rattle.std.proofs.lemmas.Bool.{ne_eqb}
use Rattle.amqp_base.specs.declared.error.Error.{Error}
use Rattle.amqp_base.specs.declared.error.Error.TheVariants.{InvalidLength}
use Rattle.amqp_base.specs.declared.format_code.EncodingCodes.{EncodingCodes}
use Rattle.amqp_base.specs.Identifiers.{Identifier, is_key, IsKey, key_data, key_of, key_at}
use Rattle.amqp_base.specs.Item.{Scalar, Item, scalar, Items, none, more, count}
use Rattle.amqp_base.specs.Parse.{Parsed, ◌>>=◌, byte_under, any_code, with_rest, behind_byte, item_at}
use Rattle.amqp_base.specs.Variants as base
use Rattle.amqp_base.specs.Variants.{two_of, of_two}
use Rattle.amqp_base.specs.Wire.{Constructor, bare}
use Rattle.amqp_data.specs.Excuses.{Excused}
use Rattle.amqp_data.specs.Keys.{key_scalar}
use Rattle.amqp_data.specs.declared.keys.Key.{Key}
use Rattle.amqp_data.proofs.Readings.{onward, advances_then, excused_before, excused_more}
use Rattle.amqp_de.specs.Access.{Listing, Opens, OpensExactly, OpensNot, Part, NoPart, Plain}
use Rattle.amqp_de.specs.Decoding.{Decoding, stands_under}
use Rattle.amqp_de.specs.Law.{Found, Missed}
use Rattle.amqp_de.specs.Steps.{Exact}
use Rattle.amqp_de.specs.VariantsRead.{NoTwo, KeyFirst, PairOpened, NoPair, pair_by}
use Rattle.amqp_de.proofs.Identified.{named_key}
use Rattle.amqp_de.proofs.PartsRead as read
use Rattle.amqp_de.proofs.PartsRead.{missed_more}

-- ---- a header of two parts

two_item : (parse : EncodingCodes → List ℕ → Parsed ℕ) (c : Constructor) (s : List ℕ) → item_at (two_of parse) c s ≡ (item_at parse c s >>= λ n. of_two n.0 n.1)
two_item parse c s = at_byte (byte_under c s)
  where
    at_code : (s : List ℕ) (r : Result EncodingCodes Error) → (with_rest s r >>= λ e. two_of parse e.0 e.1) ≡ ((with_rest s r >>= λ e. parse e.0 e.1) >>= λ n. of_two n.0 n.1)
    at_code s (Ok e) = refl
    at_code s (Err e) = refl

    at_byte : (p : Parsed ℕ) → (p >>= λ b. behind_byte (two_of parse) b.0 b.1) ≡ ((p >>= λ b. behind_byte parse b.0 b.1) >>= λ n. of_two n.0 n.1)
    at_byte (Ok x) = at_code x.1 (any_code x.0)
    at_byte (Err e) = refl

not_two : (n : ℕ) (s : List ℕ) → (n ≡ 2 → ⊥) → of_two n s ≡ Err InvalidLength
not_two n s h = rw (ne_eqb n 2 h) refl

pub two_unopened : (Has : Item → Items → Type 0) (parse : EncodingCodes → List ℕ → Parsed ℕ) (buffers : Bool) (old last : Decoding) (e : Error) → OpensNot Has parse buffers buffers old last e → NoTwo Has parse buffers old last e
two_unopened Has parse buffers old last e o = record {
  rejects = λ a. let r = o.rejects a in record { why = λ s at h. tell s (r.why s at h); steady = r.steady; device = r.device; memory = r.memory };
  ended = o.ended;
  missed = λ takes h. read.unopened takes (λ is. count is ≡ 2) h o;
}
  where
    tell : (s : List ℕ) → (item_at parse (stands_under old) s ≡ Err e) ⊎ Excused buffers buffers old.reading last.reading e → (item_at (two_of parse) (stands_under old) s ≡ Err e) ⊎ Excused buffers buffers old.reading last.reading e
    tell s (inl p) = inl (two_item parse (stands_under old) s ∙ ap (λ (x : Parsed ℕ). x >>= λ n. of_two n.0 n.1) p)
    tell s (inr y) = inr y

-- ---- a pair

bare_stands : (d : Decoding) → d.inherited ≡ bare → stands_under d ≡ bare
bare_stands d h = rw h refl

key_here : (c : Constructor) (s rest : List ℕ) (v : Scalar) (k : Identifier) → key_of v ≡ Some k → item_at key_data c s ≡ Ok (v, rest) → key_at c s ≡ Ok (k, rest)
key_here c s rest v k h p = rw (p, h) refl

key_not : (c : Constructor) (s : List ℕ) (e : Error) → item_at key_data c s ≡ Err e → key_at c s ≡ Err e
key_not c s e p = rw p refl

pair_here : (parse : EncodingCodes → List ℕ → Parsed ℕ) (c : Constructor) (s t rest : List ℕ) (n : ℕ) (k : Identifier) → item_at (two_of parse) c s ≡ Ok (n, t) → key_at bare t ≡ Ok (k, rest) → pair_by parse c s ≡ Ok (base.is k base.second, rest)
pair_here parse c s t rest n k p q = ap (λ (x : Parsed ℕ). x >>= λ n. key_at bare n.1 >>= λ k. Ok (base.is k.0 base.second, k.1)) p ∙ ap (λ (x : Parsed Identifier). x >>= λ k. Ok (base.is k.0 base.second, k.1)) q

pair_keyless : (parse : EncodingCodes → List ℕ → Parsed ℕ) (c : Constructor) (s t : List ℕ) (n : ℕ) (e : Error) → item_at (two_of parse) c s ≡ Ok (n, t) → key_at bare t ≡ Err e → pair_by parse c s ≡ Err e
pair_keyless parse c s t n e p q = ap (λ (x : Parsed ℕ). x >>= λ n. key_at bare n.1 >>= λ k. Ok (base.is k.0 base.second, k.1)) p ∙ ap (λ (x : Parsed Identifier). x >>= λ k. Ok (base.is k.0 base.second, k.1)) q

no_pair_here : (parse : EncodingCodes → List ℕ → Parsed ℕ) (c : Constructor) (s : List ℕ) (e : Error) → item_at (two_of parse) c s ≡ Err e → pair_by parse c s ≡ Err e
no_pair_here parse c s e p = ap (λ (x : Parsed ℕ). x >>= λ n. key_at bare n.1 >>= λ k. Ok (base.is k.0 base.second, k.1)) p

-- the access behind the key
abbrev pub behind_key : Listing → Decoding → Listing
behind_key from new = record { state = new; left = 1; outer = from.outer; limit = from.limit }

key_part : (k : Identifier) (from : Listing) (new : Decoding) → Plain from → from.state.ended ≡ false → from.left ≡ 2 → Found is_key (IsKey k) from.state new → Part is_key (IsKey k) from (behind_key from new)
key_part k from new p a two f = record {
  front = f.front a;
  within = rw p.limit tt;
  spent = f.spent a;
  left = two;
  outer = refl;
  limit = refl;
}

pub pair_opened : (Has : Item → Items → Type 0) (parse : EncodingCodes → List ℕ → Parsed ℕ) (buffers : Bool) (k : Identifier) (key : Key) (old : Decoding) (from : Listing) (new : Decoding) → key_of (key_scalar key) ≡ Some k → Opens Has old from → OpensExactly (two_of parse) old from → Plain from → from.left ≡ 2
    → Found is_key (λ i. i ≡ scalar (key_scalar key)) from.state new → (from.state.ended ≡ false → Exact key_scalar true buffers (item_at key_data (stands_under from.state)) from.state.reading (Ok key) new.reading)
    → PairOpened Has parse k base.second old (behind_key from new)
pair_opened Has parse buffers k key old from new h o x p two f e =
    let q = key_part k from new p o.not_ended two (named_key k (key_scalar key) from.state new h f) in
    record {
      payload = refl;
      pair = record { from = from; opened = o; plain = p; key = q.front.item; is_key = q.front.value; reads = read.parts_more from none from (behind_key from new) (read.parts_begun old from o) q; left = refl };
      exact = λ s at honest.
          let z = x.exact s at in
          let y = (e o.not_ended).answer z.0 z.1 (o.step.steady.honest ∙ honest) in
          (y.0, y.1, pair_here parse (stands_under old) s z.0 y.0 from.left k z.2 (key_here bare z.0 y.0 (key_scalar key) k h (subst (λ (c : Constructor). item_at key_data c z.0 ≡ Ok (key_scalar key, y.0)) (bare_stands from.state p.inherited) y.2)));
    }

pub pair_unopened : (Has : Item → Items → Type 0) (parse : EncodingCodes → List ℕ → Parsed ℕ) (buffers : Bool) (old last : Decoding) (e : Error) → NoTwo Has parse buffers old last e → NoPair Has parse buffers old last e
pair_unopened Has parse buffers old last e n = record {
  rejects = λ a. let r = n.rejects a in record { why = λ s at h. tell s (r.why s at h); steady = r.steady; device = r.device; memory = λ _. refl };
  missed = λ takes sorts. missed_more (λ _. refl) (n.missed takes (λ i t. let p = sorts i t in (p.0, p.1, ap count p.2.two)));
  ended = n.ended;
}
  where
    tell : (s : List ℕ) → (item_at (two_of parse) (stands_under old) s ≡ Err e) ⊎ Excused buffers buffers old.reading last.reading e → (pair_by parse (stands_under old) s ≡ Err e) ⊎ Excused true buffers old.reading last.reading e
    tell s (inl p) = inl (no_pair_here parse (stands_under old) s e p)
    tell s (inr y) = inr (excused_more old.reading last.reading e (λ _. refl) y)

-- the key is refused
no_key_part : (buffers : Bool) (from : Listing) (new : Decoding) (e : Error) → from.state.ended ≡ false → from.left ≡ 2 → IsTrue new.ended → Missed is_key true buffers from.state new e → NoPart is_key true buffers from (behind_key from new) e
no_key_part buffers from new e a two z m = record {
  if_ended = λ h. absurd cc (a, h);
  ended = z;
  steady = m.steady;
  device = m.device;
  memory = m.memory;
  spent = m.spent;
  some_left = λ _. rw two (omega arith);
  why = λ i text rest w t at f h b. m.why b i text rest w t at h;
}

pub key_refused : (Has : Item → Items → Type 0) (parse : EncodingCodes → List ℕ → Parsed ℕ) (buffers : Bool) (old : Decoding) (from : Listing) (new : Decoding) (e : Error) → Opens Has old from → OpensExactly (two_of parse) old from → Plain from → from.left ≡ 2 → IsTrue new.ended
    → Missed is_key true buffers from.state new e → (from.state.ended ≡ false → Exact {V = Key} key_scalar true buffers (item_at key_data (stands_under from.state)) from.state.reading (Err e) new.reading)
    → NoPair Has parse buffers old new e
key_refused Has parse buffers old from new e o x p two z m g = record {
  rejects = λ a. record {
    why = λ s at honest.
        let y = x.exact s at in
        tell s y.0 y.2 ((g o.not_ended).answer y.0 y.1 (o.step.steady.honest ∙ honest));
    steady = advances_then old.reading from.state.reading new.reading (onward o.step) m.steady;
    device = λ d. let f = o.step.steady.faults in let h = m.device d in omega (arith, f, h);
    memory = λ _. refl;
  };
  missed = λ takes sorts. read.part_missed old from none from o (read.parts_begun old from o) takes KeyFirst sorts is_key heads true buffers (behind_key from new) new e (no_key_part buffers from new e o.not_ended two z m) refl;
  ended = z;
}
  where
    heads : (j : Item) (js : Items) → KeyFirst (more j js) → IsTrue (is_key j)
    heads j js h = let q : j ≡ h.key = cc (h.two) in rw q h.is_key

    tell : (s r : List ℕ) → item_at (two_of parse) (stands_under old) s ≡ Ok (from.left, r) → (item_at key_data (stands_under from.state) r ≡ Err e) ⊎ Excused true buffers from.state.reading new.reading e → (pair_by parse (stands_under old) s ≡ Err e) ⊎ Excused true buffers old.reading new.reading e
    tell s r q (inl k) = inl (pair_keyless parse (stands_under old) s r from.left e q (key_not bare r e (subst (λ (c : Constructor). item_at key_data c r ≡ Err e) (bare_stands from.state p.inherited) k)))
    tell s r q (inr y) = inr (excused_before old.reading from.state.reading new.reading o.text e o.step y)
