-- The pair of a variant's index and its fields.
use Rattle.std.proofs.Common.{◌≡◌, ℕ, ◌+◌, true, false, List, [], ◌∷◌, Result, refl, sym, ap, subst, ◌∙◌}
use Rattle.std.specs.declared.vec.Vec.{Vec}
use Rattle.std.specs.Global.{Global}
use Rattle.amqp_base.specs.declared.error.Error.{Error}
use Rattle.amqp_base.specs.declared.shape.Shape.{Shape}
use Rattle.amqp_base.specs.Item.{Item, scalar, uint}
use Rattle.amqp_base.specs.Shapes.{whole}
use Rattle.amqp_write.specs.declared.pass.Opened.{Opened}
use Rattle.amqp_ser.specs.State.{State, Serializing}
use Rattle.amqp_ser.specs.Law.{Wrote, Refused}
use Rattle.amqp_ser.specs.Compound.{Back, Holds, EndsCompound, open_parts, inner_of, outer_of, outer_in, outside_in, part_in, turned}
use Rattle.amqp_ser.specs.declared.compound.Parts.{Parts}
use Rattle.amqp_ser.specs.declared.paired.Paired.{Paired}
use Rattle.amqp_ser.specs.Variants.{fields_item, InBuffer, OnItself, HoldsAs, beneath}
use Rattle.amqp_ser.proofs.Compounds.{Lives, element_more, element_refused, direct_more, direct_refused, inner_lives, inner_answers}

inner_buffered : (k : Opened) (o : State) (b : Serializing (Vec ℕ Global)) → k ≡ Opened.Buffered → inner_of k o b ≡ b.state
inner_buffered k o b is = ap (λ z. inner_of z o b) is

outer_buffered : (k : Opened) (o : State) (b : Back) → k ≡ Opened.Buffered → outer_of k o b ≡ o
outer_buffered k o b is = ap (λ z. outer_of z o b) is

-- ---- in the buffer of the pair

-- the list of the fields was written: it is the pair's value
pub buffer_more : (s : State) (index len : ℕ) (xs : List Item) (o : State) (p f : Parts) (b : Serializing (Vec ℕ Global)) (w : State) → p.opened ≡ Opened.Buffered → (h : InBuffer s index len xs o p f) → Wrote h.had.state (whole (Shape.Tuple len) xs) w → b.state ≡ record w { mark = turned w.mark w.found }
    → Holds s Shape.Map (scalar (uint index) ∷ whole (Shape.Tuple len) xs ∷ []) (open_parts true o (record p { buffer = b; count = 2 }))
buffer_more s index len xs o p f b w is h wrote at_b =
    let item = whole (Shape.Tuple len) xs in
    let q = open_parts true o (record p { buffer = h.had }) in
    let r = open_parts true o (record p { buffer = b; count = 2 }) in
    element_more s Shape.Map (scalar (uint index) ∷ []) (λ _. item) q r w
    (subst (λ v. Wrote v item w) (sym (inner_buffered p.opened o h.had is)) wrote)
    (inner_buffered p.opened o b is ∙ at_b)
    refl refl refl refl (sym (ap (λ n. n + 1) h.pair.count)) h.pair

-- a field, or the list of them, was refused: so is the pair
pub buffer_refused : (s : State) (index len : ℕ) (all : List Item) (o : State) (p : Parts) (had : Serializing (Vec ℕ Global)) (w : State) (e : Error) → p.opened ≡ Opened.Buffered → Holds s Shape.Map (scalar (uint index) ∷ []) (open_parts true o (record p { buffer = had })) → w.faults ≡ 0 → Refused had.state (whole (Shape.Tuple len) all) e w → Refused s (fields_item index len all) e o
buffer_refused s index len all o p had w e is pair none refused =
    let item = whole (Shape.Tuple len) all in
    let q = open_parts true o (record p { buffer = had }) in
    let inner = inner_buffered p.opened o had is in
    subst (λ t. Refused s (fields_item index len all) e t) (outer_buffered p.opened o (outer_in p.outer) is)
    (element_refused s Shape.Map (scalar (uint index) ∷ []) (scalar (uint index) ∷ item ∷ []) (λ _. item) e q w
    none
    (subst (λ v. Refused v item e w) (sym inner) refused) pair (refl, (refl, tt)) refl)

-- ---- on the serializer itself

unended : (s was : State) (p : Parts) (xs : List Item) → Holds s Shape.Map xs (open_parts true was p) → p.buffer.state.ended ≡ false
unended s was p xs h = sym (inner_answers p.opened was p.buffer) ∙ h.run.answers

stands : (s was : State) (p : Parts) (xs : List Item) → Lives p.opened → Holds s Shape.Map xs (open_parts true was p) → (open_parts true was p).inner ≡ record was { ended = false }
stands s was p xs live h = inner_lives p.opened was p.buffer live ∙ ap (λ z. record was { ended = z }) (unended s was p xs h)

pub itself_more : (s : State) (index len : ℕ) (xs : List Item) (o : State) (p f : Parts) (w t : State) → Lives p.opened → (h : OnItself s index len xs o p f) → Wrote (outside_in Shape.Map h.was) (whole (Shape.Tuple len) xs) w → t ≡ record w { ended = true; mark = turned w.mark w.found }
    → Holds s Shape.Map (scalar (uint index) ∷ whole (Shape.Tuple len) xs ∷ []) (open_parts true t (record p { count = 2 }))
itself_more s index len xs o p f w t live h wrote at_t =
    let item = whole (Shape.Tuple len) xs in
    let q = open_parts true h.was p in
    let r = open_parts true t (record p { count = 2 }) in
    direct_more s Shape.Map (scalar (uint index) ∷ []) (λ _. item) q r (outer_in p.outer) h.was w t live (stands s h.was p _ live h.pair) refl
    (subst (λ k. Wrote (part_in k h.was) item w) (sym h.pair.shape_is) wrote) at_t
    (inner_lives p.opened t p.buffer live ∙ ap (λ z. record t { ended = z }) (unended s h.was p _ h.pair))
    refl refl refl refl (sym (ap (λ n. n + 1) h.pair.count)) h.pair

pub itself_refused : (s : State) (index len : ℕ) (all : List Item) (was : State) (p : Parts) (w t : State) (e : Error) → Lives p.opened → Holds s Shape.Map (scalar (uint index) ∷ []) (open_parts true was p) → Refused (outside_in Shape.Map was) (whole (Shape.Tuple len) all) e w → t ≡ record w { ended = true } → Refused s (fields_item index len all) e t
itself_refused s index len all was p w t e live pair refused at_t =
    let item = whole (Shape.Tuple len) all in
    direct_refused s Shape.Map (scalar (uint index) ∷ []) (scalar (uint index) ∷ item ∷ []) (λ _. item) e (open_parts true was p) (outer_in p.outer) was w t (stands s was p _ live pair) refl
    (subst (λ k. Refused (part_in k was) item e w) (sym pair.shape_is) refused) at_t pair (refl, (refl, tt)) refl

-- whether the serializer answers still is nothing to a refusal
pub refused_held : (s : State) (i : Item) (e : Error) (t : State) → Refused s i e (record t { ended = true }) → Refused s i e t
refused_held s i e t r = record {
  kept = record { bytes = r.kept.bytes; faults = r.kept.faults; grows = r.kept.grows };
  device = r.device;
  cause = r.cause;
}

-- ---- either way

pub in_buffer : {s : State} {index len : ℕ} {xs : List Item} {o : State} {p f : Parts} → (k : Opened) → k ≡ Opened.Buffered → HoldsAs k s index len xs o p f → InBuffer s index len xs o p f
in_buffer Opened.Buffered is h = h
in_buffer (Opened.Measured at before) is h = cc
in_buffer (Opened.Written size from) is h = cc

pub from_buffer : {s : State} {index len : ℕ} {xs : List Item} {o : State} {p f : Parts} → (k : Opened) → k ≡ Opened.Buffered → InBuffer s index len xs o p f → HoldsAs k s index len xs o p f
from_buffer Opened.Buffered is h = h
from_buffer (Opened.Measured at before) is h = cc
from_buffer (Opened.Written size from) is h = cc

pub on_itself : {s : State} {index len : ℕ} {xs : List Item} {o : State} {p f : Parts} → (k : Opened) → Lives k → HoldsAs k s index len xs o p f → OnItself s index len xs o p f
on_itself Opened.Buffered live h = absurd (live refl)
on_itself (Opened.Measured at before) live h = h
on_itself (Opened.Written size from) live h = h

pub from_itself : {s : State} {index len : ℕ} {xs : List Item} {o : State} {p f : Parts} → (k : Opened) → Lives k → OnItself s index len xs o p f → HoldsAs k s index len xs o p f
from_itself Opened.Buffered live h = absurd (live refl)
from_itself (Opened.Measured at before) live h = h
from_itself (Opened.Written size from) live h = h

-- a refusal ends the list of the fields
pub ends_in_buffer : {A : Type 0} (k : Opened) → k ≡ Opened.Buffered → (o n : State) (v u : Paired) (r : Result A Error) → EndsCompound (open_parts false v.pair.buffer.state v.fields) r (open_parts false u.pair.buffer.state u.fields) → EndsCompound (open_parts false (beneath k o v) v.fields) r (open_parts false (beneath k n u) u.fields)
ends_in_buffer Opened.Buffered is o n v u r h = h
ends_in_buffer (Opened.Measured at before) is o n v u r h = cc
ends_in_buffer (Opened.Written size from) is o n v u r h = cc

pub ends_on_itself : {A : Type 0} (k : Opened) → Lives k → (o n : State) (v u : Paired) (r : Result A Error) → EndsCompound (open_parts false o v.fields) r (open_parts false n u.fields) → EndsCompound (open_parts false (beneath k o v) v.fields) r (open_parts false (beneath k n u) u.fields)
ends_on_itself Opened.Buffered live o n v u r h = absurd (live refl)
ends_on_itself (Opened.Measured at before) live o n v u r h = h
ends_on_itself (Opened.Written size from) live o n v u r h = h
