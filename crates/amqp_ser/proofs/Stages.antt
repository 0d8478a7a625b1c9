-- The stages of a struct that is written field by field.
use Rattle.std.proofs.Common.{◌≡◌, ℕ, Option, Some, None, Bool, true, false, List, [], ◌∷◌, ◌++◌, Result, Ok, Err, OnOk, OnErr, IfErr, refl, sym, ap, subst, ◌∙◌}
use Rattle.std.proofs.lemmas.Result.{IfErr-weaker}
use Rattle.amqp_base.specs.declared.error.Error.{Error}
use Rattle.amqp_base.specs.declared.shape.Setting.{Setting}
use Rattle.amqp_base.specs.declared.shape.Shape.{Shape}
use Rattle.amqp_base.specs.Item.{Descriptor, Item, described}
use Rattle.amqp_types.specs.declared.described.Descriptor.{Descriptor as OwnDescriptor}
use Rattle.amqp_types.specs.Descriptors.{descriptor_of}
use Rattle.amqp_ser.specs.State.{State, answering}
use Rattle.amqp_ser.specs.Law.{Kept, Wrote, Refused}
use Rattle.amqp_ser.specs.Compound.{HoldsUnder, open_parts, is_map, BeginsWith, EndsWhole, RefusesOpen, Back, outer_of, outer_in}
use Rattle.amqp_ser.specs.Compound.{Keeps as KeepsOpen}
use Rattle.amqp_write.specs.declared.pass.Opened.{Opened}
use Rattle.amqp_base.specs.Shapes.{whole}
use Rattle.amqp_base.specs.Structs.{FieldItem, named, fields_parts, struct_shape, struct_item}
use Rattle.amqp_base.specs.declared.shape.Setting.TheVariants.{Plain}
use Rattle.amqp_write.proofs.PartTexts.{true_false}
use Rattle.amqp_ser.proofs.Fronts.{stands_refused}
use Rattle.amqp_ser.proofs.FieldParts.{fields_complete, fields_lack}
use Rattle.amqp_ser.specs.declared.compound.Parts.{Parts}
use Rattle.amqp_ser.specs.Front.{Stands, renamed}
use Rattle.amqp_ser.specs.Staged.{Before, plain, behind, IsListed, setting_behind, shape_behind, item_under, value_behind, HoldsPlain, PartsBehind, HoldsBehind, HoldsValue, HoldsNone, HoldsAt, HoldsParts, HoldsStruct, IsApart, is_apart, struct_under, shape_under, AllThere, lacks_field, ClosesBehind, RefusesStart, EndRefused, KeepsHeld, EndsHeld, Keeps, Awaits, OpensBehind}
use Rattle.amqp_ser.specs.declared.front.Front.{Front}
use Rattle.amqp_ser.specs.declared.front.Front.TheVariants as front
use Rattle.amqp_ser.specs.declared.staged.Encoding.{Encoding}
use Rattle.amqp_ser.specs.declared.staged.Encoding.TheVariants as by
use Rattle.amqp_ser.specs.declared.staged.Stage.{Stage}
use Rattle.amqp_ser.specs.declared.staged.Stage.TheVariants as at
use Rattle.amqp_ser.specs.declared.staged.Staged.{Staged}

-- the serializer that the struct holds is as it was, but that it answers again
pub answers_as : (s o : State) → s.ended ≡ false → o ≡ record s { ended = true } → answering o ≡ s
answers_as s o a h = ap answering h ∙ ap (λ z. record s { ended = z }) (sym a)

encoding_in : Encoding → Stage → Encoding
encoding_in y (at.Awaited x) = x
encoding_in y at.Plain = y
encoding_in y at.Behind = y
encoding_in y at.Given = y
encoding_in y (at.Written m) = y
encoding_in y at.Ended = y

awaited_one : (x y : Encoding) (g : Stage) → g ≡ at.Awaited x → g ≡ at.Awaited y → x ≡ y
unfolding encoding_in
awaited_one x y g a b = ap (encoding_in y) (sym a ∙ b)

-- the descriptor was written, and a list or a map opened behind it
pub opened_parts : (s o n : State) (x y : Encoding) (d : Descriptor) (g h : Staged) → g.stage ≡ at.Awaited y → IsListed y → h.stage ≡ at.Behind
    → OpensBehind (answering o) d (setting_behind y) (shape_behind y) h.front (open_parts (is_map (shape_behind y)) n h.parts) → Awaits s x o g → HoldsParts s (behind x d) [] n h
opened_parts s o n x y d g h e listed st opens a =
    subst (λ z. HoldsAt s (behind x d) [] n h.front h.parts z) (sym st)
    (subst (λ z. PartsBehind s z d [] h.front (λ pairs. open_parts pairs n h.parts)) (awaited_one y x g.stage e a.stage) (record {
      listed = listed;
      front = opens.front;
      answered = a.answered;
      stands = subst (λ z. Stands z d h.front opens.front) (answers_as s o a.answered a.held) opens.stands;
      holds = opens.holds;
    }))

-- the only field was written behind the descriptor that was kept
pub wrote_value : (s o w : State) (b : Before) (xs : List Item) (g : Staged) (k : Setting) (own : OwnDescriptor) (i j : Item) → g.stage ≡ at.Given → g.front ≡ front.First k own → j ≡ i
    → Wrote (answering o) (described (descriptor_of own) j) w → HoldsParts s b xs o g → HoldsValue s b (xs ++ i ∷ []) false (record w { ended = true })
wrote_value s o w b xs g k own i j e f same h holds =
    let n : HoldsNone s b xs g.front o = subst (λ z. HoldsAt s b xs o g.front g.parts z) e holds in
    let d : descriptor_of own ≡ n.descriptor = subst (λ z. Keeps z n.descriptor) f n.known in
    record {
      descriptor = n.descriptor;
      is = n.is;
      value = i;
      rest = [];
      parts = ap (λ z. z ++ i ∷ []) n.parts;
      more = refl;
      behind = w;
      answered = n.answered;
      wrote = subst (λ z. Wrote z (described n.descriptor i) w) (answers_as s o n.answered n.held) (subst (λ z. Wrote (answering o) (described z i) w) d (subst (λ z. Wrote (answering o) (described (descriptor_of own) z) w) same h));
      held = refl;
    }

-- ---- where its fields are parts of a compound

plain_at : (s o : State) (b : Before) (xs : List Item) (g : Staged) → g.stage ≡ at.Plain → HoldsParts s b xs o g → HoldsPlain s b xs (λ pairs. open_parts pairs o g.parts)
plain_at s o b xs g e h = subst (λ z. HoldsAt s b xs o g.front g.parts z) e h

behind_at : (s o : State) (b : Before) (xs : List Item) (g : Staged) → g.stage ≡ at.Behind → HoldsParts s b xs o g → HoldsBehind s b xs g.front (λ pairs. open_parts pairs o g.parts)
behind_at s o b xs g e h = subst (λ z. HoldsAt s b xs o g.front g.parts z) e h

pub plain_more : (s o n : State) (b : Before) (fs gs : List FieldItem) (g h : Staged) → g.stage ≡ at.Plain → h.stage ≡ at.Plain
    → ((k : Setting) → HoldsUnder k s fs (open_parts false o g.parts) → HoldsUnder k s gs (open_parts false n h.parts)) → HoldsStruct s b fs o g → HoldsStruct s b gs n h
unfolding HoldsUnder
plain_more s o n b fs gs g h e f more held = subst (λ z. HoldsAt s b (fields_parts (shape_under b) gs) n h.front h.parts z) (sym f) (go b (plain_at s o b (fields_parts (shape_under b) fs) g e held))
  where
    go : (c : Before) → HoldsPlain s c (fields_parts (shape_under c) fs) (λ pairs. open_parts pairs o g.parts) → HoldsPlain s c (fields_parts (shape_under c) gs) (λ pairs. open_parts pairs n h.parts)
    go (plain k) held = more k held
    go (behind x d) held = absurd held

pub plain_refused : (s o t : State) (b : Before) (fs all : List FieldItem) (e : Error) (g : Staged) → g.stage ≡ at.Plain
    → ((k : Setting) → HoldsUnder k s fs (open_parts false o g.parts) → Refused s (struct_item k all) e t) → HoldsStruct s b fs o g → Refused s (struct_under b all) e t
unfolding HoldsUnder
plain_refused s o t b fs all e g st refuses held = go b (plain_at s o b (fields_parts (shape_under b) fs) g st held)
  where
    go : (c : Before) → HoldsPlain s c (fields_parts (shape_under c) fs) (λ pairs. open_parts pairs o g.parts) → Refused s (struct_under c all) e t
    go (plain k) held = refuses k held
    go (behind x d) held = absurd held

-- behind a descriptor they are those of a struct under a setting of their own
pub behind_more : (s o n : State) (b : Before) (fs gs : List FieldItem) (g h : Staged) → g.stage ≡ at.Behind → h.stage ≡ at.Behind → h.front ≡ g.front
    → ((m : State) (k : Setting) → HoldsUnder k m fs (open_parts false o g.parts) → HoldsUnder k m gs (open_parts false n h.parts)) → HoldsStruct s b fs o g → HoldsStruct s b gs n h
unfolding HoldsUnder
behind_more s o n b fs gs g h e f same more held =
    subst (λ z. HoldsAt s b (fields_parts (shape_under b) gs) n h.front h.parts z) (sym f)
    (subst (λ z. HoldsBehind s b (fields_parts (shape_under b) gs) z (λ pairs. open_parts pairs n h.parts)) (sym same) (go b (behind_at s o b (fields_parts (shape_under b) fs) g e held)))
  where
    go : (c : Before) → HoldsBehind s c (fields_parts (shape_under c) fs) g.front (λ pairs. open_parts pairs o g.parts) → HoldsBehind s c (fields_parts (shape_under c) gs) g.front (λ pairs. open_parts pairs n h.parts)
    go (plain k) held = absurd held
    go (behind x d) held = record { listed = held.listed; front = held.front; answered = held.answered; stands = held.stands; holds = more (record held.front { setting = setting_behind x }) (setting_behind x) held.holds }

pub behind_refused : (s o t : State) (b : Before) (fs all : List FieldItem) (e : Error) (g : Staged) → g.stage ≡ at.Behind
    → ((m : State) (k : Setting) → HoldsUnder k m fs (open_parts false o g.parts) → Refused m (struct_item k all) e t) → HoldsStruct s b fs o g → Refused s (struct_under b all) (renamed g.front e) (record t { ended = true })
unfolding HoldsUnder
behind_refused s o t b fs all e g st refuses held = go b (behind_at s o b (fields_parts (shape_under b) fs) g st held)
  where
    refused_behind : (x : Encoding) (d : Descriptor) → PartsBehind s x d (fields_parts (shape_behind x) fs) g.front (λ pairs. open_parts pairs o g.parts) → Refused s (described d (struct_item (setting_behind x) all)) (renamed g.front e) (record t { ended = true })
    refused_behind x d held = stands_refused s held.front t d g.front (setting_behind x) (struct_item (setting_behind x) all) e held.answered held.stands (refuses (record held.front { setting = setting_behind x }) (setting_behind x) held.holds)

    go : (c : Before) → HoldsBehind s c (fields_parts (shape_under c) fs) g.front (λ pairs. open_parts pairs o g.parts) → Refused s (struct_under c all) (renamed g.front e) (record t { ended = true })
    go (plain k) held = absurd held
    go (behind by.List d) held = refused_behind by.List d held
    go (behind by.Map d) held = refused_behind by.Map d held
    go (behind by.Basic d) held = absurd held.listed

-- where there is no compound the fields are just one behind a descriptor
apart_go : (s o : State) (b : Before) (xs : List Item) (f : Front) (p : Parts) (st : Stage) → is_apart st ≡ true → HoldsAt s b xs o f p st → (d : Descriptor) × (b ≡ behind by.Basic d)
apart_go s o b xs f p at.Plain e h = absurd (true_false (sym e))
apart_go s o b xs f p at.Behind e h = absurd (true_false (sym e))
apart_go s o b xs f p at.Given e h = (h.descriptor, h.is)
apart_go s o b xs f p (at.Written m) e h = (h.descriptor, h.is)
apart_go s o b xs f p (at.Awaited x) e h = absurd h
apart_go s o b xs f p at.Ended e h = absurd h

list_more : (fs : List FieldItem) (name : List ℕ) (item : Setting → Item) → fields_parts Shape.List (fs ++ named name item ∷ []) ≡ fields_parts Shape.List fs ++ item Plain ∷ []
list_more [] name item = refl
list_more (named n i ∷ fs) name item = ap (λ ys. i Plain ∷ ys) (list_more fs name item)

pub apart_more : (s o n : State) (b : Before) (fs : List FieldItem) (name : List ℕ) (item : Setting → Item) (g h : Staged) → IsApart g
    → ((xs : List Item) → HoldsParts s b xs o g → HoldsParts s b (xs ++ item Plain ∷ []) n h) → HoldsStruct s b fs o g → HoldsStruct s b (fs ++ named name item ∷ []) n h
apart_more s o n b fs name item g h apart more held =
    let a = apart_go s o b _ g.front g.parts g.stage apart held in
    subst (λ z. HoldsStruct s z (fs ++ named name item ∷ []) n h) (sym a.1) (subst (λ ys. HoldsParts s (behind by.Basic a.0) ys n h) (sym (list_more fs name item))
    (subst (λ z. HoldsParts s z (fields_parts Shape.List fs ++ item Plain ∷ []) n h) a.1 (more (fields_parts Shape.List fs) (subst (λ z. HoldsParts s z (fields_parts Shape.List fs) o g) (sym a.1) (subst (λ z. HoldsStruct s z fs o g) a.1 held)))))

begins_list : (all fs : List FieldItem) → BeginsWith all fs → BeginsWith (fields_parts Shape.List all) (fields_parts Shape.List fs)
begins_list all [] h = tt
begins_list [] (f ∷ fs) h = absurd h
begins_list (named n i ∷ all) (named m j ∷ fs) h = (ap (λ z. field_value z) h.0, begins_list all fs h.1)
  where
    field_value : FieldItem → Item
    field_value (named n i) = i Plain

pub apart_refused : (s o t : State) (b : Before) (fs all : List FieldItem) (name : List ℕ) (item : Setting → Item) (e : Error) (g : Staged) → IsApart g
    → ((xs ys : List Item) → HoldsParts s b xs o g → BeginsWith ys (xs ++ item Plain ∷ []) → Refused s (item_under b ys) e t) → HoldsStruct s b fs o g → BeginsWith all (fs ++ named name item ∷ []) → Refused s (struct_under b all) e t
apart_refused s o t b fs all name item e g apart refuses held begins =
    let a = apart_go s o b _ g.front g.parts g.stage apart held in
    subst (λ z. Refused s (struct_under z all) e t) (sym a.1) (subst (λ z. Refused s (item_under z (fields_parts Shape.List all)) e t) a.1
    (refuses (fields_parts Shape.List fs) (fields_parts Shape.List all) (subst (λ z. HoldsParts s z (fields_parts Shape.List fs) o g) (sym a.1) (subst (λ z. HoldsStruct s z fs o g) a.1 held))
    (subst (λ ys. BeginsWith (fields_parts Shape.List all) ys) (list_more fs name item) (begins_list all (fs ++ named name item ∷ []) begins))))

pub apart_else : (g : Staged) → (g.stage ≡ at.Plain → ⊥) → (g.stage ≡ at.Behind → ⊥) → IsApart g
apart_else g p q = go g.stage p q
  where
    go : (st : Stage) → (st ≡ at.Plain → ⊥) → (st ≡ at.Behind → ⊥) → is_apart st ≡ true
    go at.Plain p q = absurd (p refl)
    go at.Behind p q = absurd (q refl)
    go at.Given p q = refl
    go (at.Written m) p q = refl
    go (at.Awaited x) p q = refl
    go at.Ended p q = refl

-- ---- the end

pub plain_wrote : {A : Type 0} (r : Result A Error) (o t : State) (g : Staged) → g.stage ≡ at.Plain → ((pairs : Bool) → EndsWhole (open_parts pairs o g.parts) o r t)
    → OnOk r ((s : State) (b : Before) (xs : List Item) → HoldsParts s b xs o g → AllThere b xs → Wrote s (item_under b xs) t)
plain_wrote (Err x) o t g e law = tt
plain_wrote (Ok x) o t g e law = λ s b xs h there. go s xs b (plain_at s o b xs g e h)
  where
    go : (s : State) (xs : List Item) (b : Before) → HoldsPlain s b xs (λ pairs. open_parts pairs o g.parts) → Wrote s (item_under b xs) t
    go s xs (plain k) h = (law (is_map (struct_shape k))).ok s (struct_shape k) xs h
    go s xs (behind x d) h = absurd h

pub plain_end_refused : {A : Type 0} (r : Result A Error) (o t : State) (g : Staged) → g.stage ≡ at.Plain → ((pairs : Bool) → EndsWhole (open_parts pairs o g.parts) o r t)
    → IfErr r (λ e. (s : State) (b : Before) (xs : List Item) → HoldsParts s b xs o g → AllThere b xs → lacks_field b xs ≡ false → Refused s (item_under b xs) e t)
plain_end_refused (Ok x) o t g e law = tt
plain_end_refused (Err x) o t g e law = λ s b xs h there lack. go s xs b (plain_at s o b xs g e h) there
  where
    go : (s : State) (xs : List Item) (b : Before) → HoldsPlain s b xs (λ pairs. open_parts pairs o g.parts) → AllThere b xs → Refused s (item_under b xs) x t
    go s xs (plain k) h there = (law (is_map (struct_shape k))).err s (struct_shape k) xs h there.1
    go s xs (behind x d) h there = absurd h

value_of : (x : Encoding) (xs : List Item) → IsListed x → whole (shape_behind x) xs ≡ value_behind x xs
value_of by.List xs h = refl
value_of by.Map xs h = refl
value_of by.Basic xs h = absurd h

pub behind_wrote : (r : Result (Unit {0}) Error) (o t : State) (g : Staged) → g.stage ≡ at.Behind → ClosesBehind g.front (λ pairs. open_parts pairs o g.parts) r t
    → OnOk r ((s : State) (b : Before) (xs : List Item) → HoldsParts s b xs o g → AllThere b xs → Wrote s (item_under b xs) t)
behind_wrote (Err x) o t g e law = tt
behind_wrote (Ok x) o t g e law = λ s b xs h there. go s xs b (behind_at s o b xs g e h) there
  where
    go : (s : State) (xs : List Item) (b : Before) → HoldsBehind s b xs g.front (λ pairs. open_parts pairs o g.parts) → AllThere b xs → Wrote s (item_under b xs) t
    go s xs (plain k) h there = absurd h
    go s xs (behind y d) h there = subst (λ v. Wrote s (described d v) t) (value_of y xs h.listed) (law.ok s h.front d (setting_behind y) (shape_behind y) xs h.answered h.stands h.holds there)

pub behind_end_refused : (r : Result (Unit {0}) Error) (o t : State) (g : Staged) → g.stage ≡ at.Behind → ClosesBehind g.front (λ pairs. open_parts pairs o g.parts) r t
    → IfErr r (λ e. (s : State) (b : Before) (xs : List Item) → HoldsParts s b xs o g → AllThere b xs → lacks_field b xs ≡ false → Refused s (item_under b xs) e t)
behind_end_refused (Ok x) o t g e law = tt
behind_end_refused (Err x) o t g e law = λ s b xs h there lack. go s xs b (behind_at s o b xs g e h) there
  where
    go : (s : State) (xs : List Item) (b : Before) → HoldsBehind s b xs g.front (λ pairs. open_parts pairs o g.parts) → AllThere b xs → Refused s (item_under b xs) x t
    go s xs (plain k) h there = absurd h
    go s xs (behind y d) h there = subst (λ v. Refused s (described d v) x t) (value_of y xs h.listed) (law.err s h.front d (setting_behind y) (shape_behind y) xs h.answered h.stands h.holds there)

-- all is there of a struct
pub struct_there : (b : Before) (fs : List FieldItem) → AllThere b (fields_parts (shape_under b) fs)
struct_there (plain k) fs = (fields_complete (struct_shape k) fs, fields_lack k fs)
struct_there (behind x d) fs = fields_complete (shape_behind x) fs

-- ---- the beginning

pub starts_plain : {A : Type 0} (before : Option Encoding) (k : Setting) (s : State) (r : Result A Error) (t : State) → before ≡ None → RefusesOpen (struct_shape k) s r t → RefusesStart before k s r t
unfolding struct_item
starts_plain before k s r t none h = record {
  law = λ is. IfErr-weaker r _ _ (λ e w fs. w (fields_parts (struct_shape k) fs)) h.law;
  stops = h.stops;
  opens = λ x is. absurd (none_some x (sym none ∙ is));
}
  where
    none_some : (x : Encoding) → None ≡ Some x → ⊥
    none_some x h = cc

-- a struct is the item of its parts
pub struct_is : (b : Before) (fs : List FieldItem) → item_under b (fields_parts (shape_under b) fs) ≡ struct_under b fs
unfolding struct_item
struct_is (plain k) fs = refl
struct_is (behind by.List d) fs = refl
struct_is (behind by.Map d) fs = refl
struct_is (behind by.Basic d) fs = refl

pub ends_refused : (s t : State) (b : Before) (fs : List FieldItem) (e : Error) → (lacks_field b (fields_parts (shape_under b) fs) ≡ false → Refused s (item_under b (fields_parts (shape_under b) fs)) e t) → EndRefused s b fs e t
unfolding struct_item
ends_refused s t (plain k) fs e h = h refl
ends_refused s t (behind x d) fs e h = λ lack. subst (λ i. Refused s i e t) (struct_is (behind x d) fs) (h lack)

-- ---- what is kept

-- a serializer that a compound holds keeps what it is to be when the compound has ended
outer_keeps : (a b : Opened) (o n : State) (x y : Back) → Kept (outer_of a o x) (outer_of b n y) → Kept o n
outer_keeps Opened.Buffered Opened.Buffered o n x y h = h
outer_keeps Opened.Buffered (Opened.Measured i j) o n x y h = record { bytes = h.bytes; faults = h.faults; grows = h.grows }
outer_keeps Opened.Buffered (Opened.Written i j) o n x y h = record { bytes = h.bytes; faults = h.faults; grows = h.grows }
outer_keeps (Opened.Measured k l) Opened.Buffered o n x y h = record { bytes = h.bytes; faults = h.faults; grows = h.grows }
outer_keeps (Opened.Measured k l) (Opened.Measured i j) o n x y h = record { bytes = h.bytes; faults = h.faults; grows = h.grows }
outer_keeps (Opened.Measured k l) (Opened.Written i j) o n x y h = record { bytes = h.bytes; faults = h.faults; grows = h.grows }
outer_keeps (Opened.Written k l) Opened.Buffered o n x y h = record { bytes = h.bytes; faults = h.faults; grows = h.grows }
outer_keeps (Opened.Written k l) (Opened.Measured i j) o n x y h = record { bytes = h.bytes; faults = h.faults; grows = h.grows }
outer_keeps (Opened.Written k l) (Opened.Written i j) o n x y h = record { bytes = h.bytes; faults = h.faults; grows = h.grows }

outer_ended : (a : Opened) (o : State) (x : Back) → (outer_of a o x).ended ≡ o.ended
outer_ended Opened.Buffered o x = refl
outer_ended (Opened.Measured i j) o x = refl
outer_ended (Opened.Written i j) o x = refl

pub parts_keep : (p r : Parts) (o n : State) → KeepsOpen (open_parts false o p) (open_parts false n r) → KeepsHeld o n
parts_keep p r o n h = record {
  kept = outer_keeps p.opened r.opened o n (outer_in p.outer) (outer_in r.outer) h.kept;
  held = λ e. sym (outer_ended r.opened n (outer_in r.outer)) ∙ h.ended (outer_ended p.opened o (outer_in p.outer) ∙ e);
}

pub ends_held : {A : Type 0} (s : State) (r : Result A Error) (t : State) → Kept s t → OnErr r (s.ended ≡ true → t.ended ≡ true) → EndsHeld s r t
ends_held s r t k h = record { kept = k; held = h }
