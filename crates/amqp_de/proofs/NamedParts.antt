-- Refusals by name, of what is read part by part.
use Rattle.std.proofs.Common.{◌≡◌, ℕ, suc, ◌+◌, Bool, true, IsTrue, List, ◌++◌, length, Some, Ok, Err, refl, subst, ◌∙◌, inl, inr, ◌⊎◌, false}
use Rattle.amqp_base.specs.declared.error.Error.{Error}
use Rattle.amqp_base.specs.declared.error.Error.TheVariants.{OutOfMemory}
use Rattle.amqp_base.specs.declared.format_code.EncodingCodes.{EncodingCodes}
use Rattle.amqp_base.specs.Item.{Item, Items}
use Rattle.amqp_base.specs.Wire.{Constructor, bare, Wire, lenient}
use Rattle.amqp_base.specs.Parse.{Parsed, item_at}
use Rattle.amqp_base.specs.Refusing.{Refusing, HeaderThen, PartsRefusing, opened_refusal}
use Rattle.amqp_read.specs.Reading.{Takes}
use Rattle.amqp_de.specs.Decoding.{Decoding, stands_under}
use Rattle.amqp_data.specs.Excuses.{Excused, no_memory}
use Rattle.amqp_de.specs.Law.{Named}
use Rattle.amqp_de.specs.Access.{Listing, Opens, OpensExactly, OpensNot, Part, PartNamed, PassesEnd, Plain, NoEnd}
use Rattle.amqp_data.specs.Parts.{Within}
use Rattle.amqp_de.specs.ReadParts.{PartsRead}
use Rattle.amqp_de.proofs.PartsRead.{end_refused}
use Rattle.amqp_data.proofs.Readings.{takes_then, behind, excused_before, excused_more}

-- what is refused at this place, the whole is refused as; the parts have constructors of their own
pub record Reaches (whole left : PartsRefusing) (from now : Listing) : Type 0 where
  pub plain : Plain now
  pub back : (s : List ℕ) → from.state.reading.to_come ≡ Some s → (rest : List ℕ) × (now.state.reading.to_come ≡ Some rest) × ((e : Error) → left now.left rest e → whole from.left s e)

pub reaches_start : (whole : PartsRefusing) (from : Listing) → Plain from → Reaches whole whole from from
reaches_start whole from l = record { plain = l; back = λ s at. (s, at, λ e p. p) }

pub stands_bare : (d : Decoding) → d.inherited ≡ bare → stands_under d ≡ bare
stands_bare d h = rw h refl

-- behind one more part
pub plain_on : {takes : Item → Bool} {means : Item → Type 0} (now next : Listing) → Plain now → Part takes means now next → Plain next
plain_on now next l p = record { inherited = p.front.inherited ∙ l.inherited; limit = p.limit ∙ l.limit }

pub reaches_on : (whole left after : PartsRefusing) {takes : Item → Bool} {means : Item → Type 0} (from now next : Listing) → Reaches whole left from now → (p : Part takes means now next)
    → (Wire lenient bare p.front.text p.front.item → (rest : List ℕ) (e : Error) → after next.left rest e → left (suc next.left) (p.front.text ++ rest) e) → Reaches whole after from next
reaches_on whole left after from now next r p more = record {
  plain = plain_on now next r.plain p;
  back = λ s at.
      let y = r.back s at in
      let k = behind now.state.reading next.state.reading y.0 p.front.text p.front.step y.1 in
      let w : Wire lenient bare p.front.text p.front.item = subst (λ (c : Constructor). Wire lenient c p.front.text p.front.item) (stands_bare now.state r.plain.inherited) p.front.spelled in
      (k.0, k.1, λ e q. y.2 e (rw (p.left, k.2) (more w k.0 e q)));
}

-- what a part is refused as
pub part_told : {takes : Item → Bool} {refuses : Refusing} {grows buffers : Bool} (now next : Listing) (last : Decoding) (e : Error) (P : List ℕ → Type 0) → Plain now → now.state.ended ≡ false → last.reading ≡ next.state.reading → ((rest : List ℕ) → refuses bare rest e → P rest)
    → PartNamed takes refuses grows buffers now next e → (rest : List ℕ) → now.state.reading.to_come ≡ Some rest → IsTrue now.state.reading.honest → P rest ⊎ Excused grows buffers now.state.reading last.reading e
part_told {takes} {refuses} {grows} {buffers} now next last e P l a same here n rest at h = tell (n.why a rest at h)
  where
    tell : (refuses (stands_under now.state) rest e ⊎ PassesEnd takes now rest e) ⊎ Excused grows buffers now.state.reading next.state.reading e → P rest ⊎ Excused grows buffers now.state.reading last.reading e
    tell (inl (inl p)) = inl (here rest (subst (λ (c : Constructor). refuses c rest e) (stands_bare now.state l.inherited) p))
    tell (inl (inr p)) = let w : Within now.limit (now.state.reading.taken + length p.text) = rw l.limit tt in absurd (p.past w)
    tell (inr y) = inr (rw same y)

module _ (parse : EncodingCodes → List ℕ → Parsed ℕ) (whole : PartsRefusing) (grows buffers : Bool) (old last : Decoding) (e : Error) where
  -- no item with parts was opened
  pub unopened_as : {Has : Item → Items → Type 0} {memory : Bool} → (IsTrue memory → IsTrue grows) → OpensNot Has parse memory buffers old last e → Named (opened_refusal parse whole) grows buffers old last e
  unfolding opened_refusal
  unopened_as {Has} {memory} g o = record { why = λ a s at h. tell s ((o.rejects a).why s at h) }
    where
      tell : (s : List ℕ) → (item_at parse (stands_under old) s ≡ Err e) ⊎ Excused memory buffers old.reading last.reading e
          → ((item_at parse (stands_under old) s ≡ Err e) ⊎ HeaderThen parse (λ n rest. whole n rest e) (stands_under old) s) ⊎ Excused grows buffers old.reading last.reading e
      tell s (inl p) = inl (inl p)
      tell s (inr y) = inr (excused_more old.reading last.reading e g y)

  -- something was refused behind what was read of its parts
  pub refused_behind : {left : PartsRefusing} {memory : Bool} {text : List ℕ} (from now : Listing) → (IsTrue memory → IsTrue grows) → OpensExactly parse old from → Takes old.reading now.state.reading text → Reaches whole left from now
      → ((rest : List ℕ) → now.state.reading.to_come ≡ Some rest → IsTrue now.state.reading.honest → left now.left rest e ⊎ Excused memory buffers now.state.reading last.reading e) → Named (opened_refusal parse whole) grows buffers old last e
  unfolding opened_refusal
  refused_behind {left} {memory} {text} from now g x step r told = record {
    why = λ a s at h.
        let z = x.exact s at in
        let y = r.back z.0 z.1 in
        tell s z.0 y.0 z.2 (y.2 e) (told y.0 y.1 (step.steady.honest ∙ h));
  }
    where
      tell : (s behind_it rest : List ℕ) → item_at parse (stands_under old) s ≡ Ok (from.left, behind_it) → (left now.left rest e → whole from.left behind_it e)
          → left now.left rest e ⊎ Excused memory buffers now.state.reading last.reading e
          → ((item_at parse (stands_under old) s ≡ Err e) ⊎ HeaderThen parse (λ n y. whole n y e) (stands_under old) s) ⊎ Excused grows buffers old.reading last.reading e
      tell s behind_it rest header back (inl p) = inl (inr (record { count = from.left; rest = behind_it; header = header; behind = back p }))
      tell s behind_it rest header back (inr y) = inr (excused_before old.reading now.state.reading last.reading text e step (excused_more now.state.reading last.reading e g y))

-- no memory was there
pub no_room_as : (refuses : Refusing) (buffers : Bool) (old last : Decoding) → Named refuses true buffers old last OutOfMemory
no_room_as refuses buffers old last = record { why = λ a s at h. inr (no_memory refl refl) }

-- the end isn't refused, as all was read
pub no_end : {Has : Item → Items → Type 0} {parts : Items} (refuses : Refusing) (grows buffers : Bool) (old last : Decoding) (e : Error) (from now : Listing) → Opens Has old from → PartsRead from parts now → now.left ≡ 0 → NoEnd now last e → Named refuses grows buffers old last e
no_end {parts = parts} refuses grows buffers old last e from now o so_far z n = absurd ((end_refused old from parts now o so_far last e n).0 z)

-- since `old`
pub taken_since : {Has : Item → Items → Type 0} {old : Decoding} {from now : Listing} {parts : Items} (o : Opens Has old from) (r : PartsRead from parts now) → Takes old.reading now.state.reading (o.text ++ r.text)
taken_since {old = old} {from = from} {now = now} o r = takes_then old.reading from.state.reading now.state.reading o.text r.text o.step r.step
