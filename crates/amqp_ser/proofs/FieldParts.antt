-- The fields of a struct, as parts of its compound.
use Rattle.std.proofs.Common.{◌≡◌, ℕ, List, [], ◌∷◌, ◌++◌, refl, sym, ◌∙◌, ap, subst, append_assoc, false, Bool, Result, Ok, Err, OnOk, IfErr, None}
use Rattle.std.proofs.lemmas.Result.{IfErr-weaker}
use Rattle.amqp_base.specs.Item.{Item}
use Rattle.amqp_base.specs.Shapes.{whole}
use Rattle.amqp_base.specs.Structs.{FieldItem, named, struct_shape, struct_item, field_parts, fields_parts}
use Rattle.amqp_base.specs.declared.error.Error.{Error}
use Rattle.amqp_base.specs.declared.shape.Shape.{Shape}
use Rattle.amqp_base.specs.declared.shape.Setting.{Setting}
use Rattle.amqp_base.specs.declared.shape.Setting.TheVariants.{Plain, Symbol, DescribedList, DescribedMap, DescribedBasic}
use Rattle.amqp_ser.specs.State.{State}
use Rattle.amqp_ser.specs.Law.{Wrote, Refused}
use Rattle.amqp_ser.specs.Compound.{Open, Holds, HoldsUnder, HoldsFields, RefusesNamed, Complete, BeginsWith, EndsWhole, EndsStruct, lacking, is_map}
use Rattle.amqp_ser.proofs.Compounds.{begins_rest, begins_front}

-- no name is without its value
pub fields_complete : (shape : Shape) (fs : List FieldItem) → Complete (is_map shape) (fields_parts shape fs)
fields_complete Shape.List fs = refl
fields_complete Shape.Array fs = refl
fields_complete (Shape.Tuple n) fs = refl
fields_complete Shape.Map [] = refl
fields_complete Shape.Map (named name item ∷ fs) = fields_complete Shape.Map fs
fields_complete Shape.Fields [] = refl
fields_complete Shape.Fields (named name item ∷ fs) = fields_complete Shape.Fields fs

fields_append : (shape : Shape) (fs gs : List FieldItem) → fields_parts shape (fs ++ gs) ≡ fields_parts shape fs ++ fields_parts shape gs
fields_append shape [] gs = refl
fields_append shape (f ∷ fs) gs = ap (λ ys. field_parts shape f ++ ys) (fields_append shape fs gs) ∙ sym (append_assoc (field_parts shape f) (fields_parts shape fs) (fields_parts shape gs))

one_field : (shape : Shape) (f : FieldItem) → fields_parts shape (f ∷ []) ≡ field_parts shape f
one_field Shape.List (named name item) = refl
one_field Shape.Array (named name item) = refl
one_field (Shape.Tuple n) (named name item) = refl
one_field Shape.Map (named name item) = refl
one_field Shape.Fields (named name item) = refl

-- the parts of the fields, as a shape that is known has them
abbrev pub HoldsAs : Shape → State → List Item → Open → Type 0
HoldsAs shape s xs q = Holds s shape xs (record q { pairs = is_map shape })

pub fields_as : (shape : Shape) (k : Setting) (s : State) (fs : List FieldItem) (q : Open) → struct_shape k ≡ shape → HoldsUnder k s fs q → HoldsAs shape s (fields_parts shape fs) q
unfolding HoldsUnder
fields_as shape k s fs q e h = subst (λ x. HoldsAs x s (fields_parts x fs) q) e h

-- no field yet
pub fields_none : (shape : Shape) (s : State) (q : Open) → shape ≡ struct_shape s.setting → HoldsAs shape s [] q → HoldsFields s [] q
unfolding HoldsFields HoldsUnder
fields_none shape s q e h = subst (λ x. HoldsAs x s [] q) e h

pub refuses_fields : {A : Type 0} (name : List ℕ) (shape : Shape) (s : State) (r : Result A Error) (t : State) → shape ≡ struct_shape s.setting → RefusesNamed name (λ (xs : List Item). whole shape xs) s r t → RefusesNamed name (λ (fs : List FieldItem). struct_item s.setting fs) s r t
unfolding struct_item
refuses_fields name shape s r t same h = record {
  law = λ free. IfErr-weaker r _ _ (λ e k fs. subst (λ x. Refused s (whole x (fields_parts (struct_shape s.setting) fs)) e t) same (k (fields_parts (struct_shape s.setting) fs))) (h.law free);
  stops = h.stops;
}

-- while it has its fields it answers
pub fields_answer : (k : Setting) (s : State) (fs : List FieldItem) (q : Open) → HoldsUnder k s fs q → q.inner.ended ≡ false
unfolding HoldsUnder
fields_answer k s fs q h = h.run.answers

pub shape_of : (shape : Shape) (k : Setting) (s : State) (fs : List FieldItem) (q : Open) → HoldsUnder k s fs q → q.shape ≡ shape → struct_shape k ≡ shape
unfolding HoldsUnder
shape_of shape k s fs q h e = sym h.shape_is ∙ e

-- one field more
pub field_more : (shape : Shape) (k : Setting) (s : State) (fs : List FieldItem) (f : FieldItem) (q : Open) → struct_shape k ≡ shape → HoldsAs shape s (fields_parts shape fs ++ field_parts shape f) q → HoldsUnder k s (fs ++ f ∷ []) q
unfolding HoldsUnder
field_more shape k s fs f q e h =
    let parts : fields_parts shape (fs ++ f ∷ []) ≡ fields_parts shape fs ++ field_parts shape f = fields_append shape fs (f ∷ []) ∙ ap (λ ys. fields_parts shape fs ++ ys) (one_field shape f) in
    subst (λ x. HoldsAs x s (fields_parts x (fs ++ f ∷ [])) q) (sym e) (subst (λ ys. HoldsAs shape s ys q) (sym parts) h)

-- a refused field refuses the struct
pub field_refused : (shape : Shape) (k : Setting) (s : State) (fs all : List FieldItem) (f : FieldItem) (e : Error) (t : State) → struct_shape k ≡ shape → BeginsWith all (fs ++ f ∷ [])
    → ((ys : List Item) → BeginsWith ys (fields_parts shape fs ++ field_parts shape f) → Complete (is_map shape) ys → Refused s (whole shape ys) e t) → Refused s (struct_item k all) e t
unfolding struct_item
field_refused shape k s fs all f e t same begins refuses =
    let r = begins_rest fs all f begins in
    let parts : fields_parts shape all ≡ (fields_parts shape fs ++ field_parts shape f) ++ fields_parts shape r.0 =
    ap (fields_parts shape) r.1 ∙ (fields_append shape fs (f ∷ r.0) ∙ sym (append_assoc (fields_parts shape fs) (field_parts shape f) (fields_parts shape r.0))) in
    let front = subst (λ ys. BeginsWith ys (fields_parts shape fs ++ field_parts shape f)) (sym parts) (begins_front (fields_parts shape fs ++ field_parts shape f) (fields_parts shape r.0)) in
    subst (λ x. Refused s (whole x (fields_parts x all)) e t) (sym same) (refuses (fields_parts shape all) front (fields_complete shape all))

-- a struct is a list where it isn't a map
list_else : (setting : Setting) → (struct_shape setting ≡ Shape.Fields → ⊥) → struct_shape setting ≡ Shape.List
list_else Plain h = refl
list_else Symbol h = refl
list_else DescribedList h = refl
list_else DescribedMap h = absurd (h refl)
list_else DescribedBasic h = refl

-- a struct is a list but under the described map setting
pub list_unless : (setting : Setting) → (setting ≡ DescribedMap → ⊥) → struct_shape setting ≡ Shape.List
list_unless Plain h = refl
list_unless Symbol h = refl
list_unless DescribedList h = refl
list_unless DescribedMap h = absurd (h refl)
list_unless DescribedBasic h = refl

pub list_of : (k : Setting) (s : State) (fs : List FieldItem) (q : Open) → HoldsUnder k s fs q → (q.shape ≡ Shape.Fields → ⊥) → struct_shape k ≡ Shape.List
unfolding HoldsUnder
list_of k s fs q h other = list_else k (λ e. other (h.shape_is ∙ e))

-- a key and its value, one after the other
pub pair_more : (s : State) (shape : Shape) (xs : List Item) (k v : Item) (q : Open) → Holds s shape ((xs ++ k ∷ []) ++ v ∷ []) q → Holds s shape (xs ++ k ∷ v ∷ []) q
pair_more s shape xs k v q h = subst (λ ys. Holds s shape ys q) (append_assoc xs (k ∷ []) (v ∷ [])) h

-- nothing is lacking where there are fields
pub fields_lack : (setting : Setting) (fs : List FieldItem) → lacking (struct_shape setting) (fields_parts (struct_shape setting) fs) ≡ None
fields_lack Plain fs = refl
fields_lack Symbol fs = refl
fields_lack DescribedList fs = refl
fields_lack DescribedMap fs = rw (fields_complete Shape.Fields fs) refl
fields_lack DescribedBasic fs = refl

-- the end of a struct, by what is known of it where the parts are keys and values, and where they aren't
end_wrote : {A : Type 0} (r : Result A Error) (q : Open) (o t : State) → ((pairs : Bool) → EndsWhole (record q { pairs = pairs }) o r t) → OnOk r ((s : State) (fs : List FieldItem) → HoldsFields s fs q → Wrote s (struct_item s.setting fs) t)
unfolding struct_item HoldsFields HoldsUnder
end_wrote (Ok x) q o t law = λ s fs h. (law (is_map (struct_shape s.setting))).ok s (struct_shape s.setting) _ h
end_wrote (Err e) q o t law = tt

end_refused : {A : Type 0} (r : Result A Error) (q : Open) (o t : State) → ((pairs : Bool) → EndsWhole (record q { pairs = pairs }) o r t) → IfErr r (λ e. (s : State) (fs : List FieldItem) → HoldsFields s fs q → Refused s (struct_item s.setting fs) e t)
unfolding struct_item HoldsFields HoldsUnder
end_refused (Ok x) q o t law = tt
end_refused (Err e) q o t law = λ s fs h. (law (is_map (struct_shape s.setting))).err s (struct_shape s.setting) _ h (fields_lack s.setting fs)

pub ends_struct : {A : Type 0} (r : Result A Error) (q : Open) (o t : State) → ((pairs : Bool) → EndsWhole (record q { pairs = pairs }) o r t) → EndsStruct q r t
ends_struct r q o t law = record { ok = end_wrote r q o t law; err = end_refused r q o t law }
