-- The text of a described item, from that of its value; and the refusal of an item that has a text elsewhere.
use Rattle.std.proofs.Common.{◌≡◌, ℕ, true, false, List, [], ◌∷◌, ◌++◌, Option, Some, None, refl, ap, append_assoc}
use Rattle.amqp_base.specs.declared.format_code.EncodingCodes.{EncodingCodes}
use Rattle.amqp_base.specs.Codes.{row}
use Rattle.amqp_base.specs.Item.{Descriptor, Item, described}
use Rattle.amqp_base.specs.Wire.{Constructor, bare, under, under_pair}
use Rattle.amqp_base.specs.Canon.{◌>>=◌, canon, body, kind_code, behind, descriptor_text, same_descriptor}
use Rattle.amqp_write.specs.State.{Mark, unmarked, first, other}
use Rattle.amqp_write.specs.Texts.{marked, placed, why_unwritten}
use Rattle.amqp_write.specs.Describing.{why_undescribed}

-- the text behind a descriptor
abbrev pub behind_text : Descriptor → Option (List ℕ) → Option (List ℕ)
behind_text d o = descriptor_text d >>= λ a. o >>= λ b. Some (0x00 ∷ a ++ b)

pub alone_text : (d : Descriptor) (v : Item) → marked unmarked (described d v) ≡ behind_text d (marked unmarked v)
unfolding marked canon
alone_text d v = refl

-- the three parts of the text in either grouping
grouped : (t : Option (List ℕ)) (x : ℕ) (b : Option (List ℕ)) → ((t >>= λ a. Some (0x00 ∷ a ++ x ∷ [])) >>= λ m. b >>= λ c. Some (m ++ c)) ≡ (t >>= λ a. (b >>= λ c. Some (x ∷ c)) >>= λ c. Some (0x00 ∷ a ++ c))
grouped None x b = refl
grouped (Some a) x None = refl
grouped (Some a) x (Some c) = ap (λ (u : List ℕ). Some (0x00 ∷ u)) (append_assoc a (x ∷ []) c)

pub first_text : (d : Descriptor) (v : Item) (e : EncodingCodes) → kind_code v ≡ Some (under e) → marked first (described d v) ≡ behind_text d (marked first v)
unfolding marked kind_code body
first_text d v e h = rw h (grouped (descriptor_text d) (row e).byte (body v))

pub first_code : (d : Descriptor) (v : Item) (e : EncodingCodes) → kind_code v ≡ Some (under e) → kind_code (described d v) ≡ Some (under_pair d e)
unfolding kind_code
first_code d v e h = rw h refl

-- what has no text as a first element has none behind a descriptor
pub first_without : (d : Descriptor) (v : Item) → marked first v ≡ None → marked first (described d v) ≡ None
unfolding marked kind_code body
first_without d v h = go (kind_code v) (body v) h
  where
    data_none : (x : ℕ) (b : Option (List ℕ)) → (b >>= λ a. Some (x ∷ a)) ≡ None → b ≡ None
    data_none x None h = refl
    data_none x (Some a) h = cc

    no_data : (t : Option (List ℕ)) (x : ℕ) (b : Option (List ℕ)) → b ≡ None → ((t >>= λ a. Some (0x00 ∷ a ++ x ∷ [])) >>= λ m. b >>= λ c. Some (m ++ c)) ≡ None
    no_data None x b h = refl
    no_data (Some a) x b h = rw h refl

    go : (k : Option Constructor) (b : Option (List ℕ)) → placed first k b ≡ None → placed first (behind d k) b ≡ None
    go None b h = refl
    go (Some bare) b h = refl
    go (Some (under e)) b h = no_data (descriptor_text d) (row e).byte b (data_none (row e).byte b h)
    go (Some (under_pair f e)) b h = refl

-- a descriptor without text leaves the whole without one
pub alone_undescribed : (d : Descriptor) (v : Item) → descriptor_text d ≡ None → marked unmarked (described d v) ≡ None
unfolding marked canon
alone_undescribed d v h = rw h refl

pub first_undescribed : (d : Descriptor) (v : Item) → descriptor_text d ≡ None → marked first (described d v) ≡ None
unfolding marked kind_code body
first_undescribed d v h = go (kind_code v)
  where
    go : (k : Option Constructor) → placed first (behind d k) (body v) ≡ None
    go None = refl
    go (Some bare) = refl
    go (Some (under e)) = rw h refl
    go (Some (under_pair f e)) = refl

-- a value that is described, or has no constructor, has no text behind a descriptor
pub first_twice : (d : Descriptor) (v : Item) → ((e : EncodingCodes) → kind_code v ≡ Some (under e) → ⊥) → marked first (described d v) ≡ None
unfolding marked kind_code body
first_twice d v h = go (kind_code v) h
  where
    go : (k : Option Constructor) → ((e : EncodingCodes) → k ≡ Some (under e) → ⊥) → placed first (behind d k) (body v) ≡ None
    go None n = refl
    go (Some bare) n = refl
    go (Some (under e)) n = absurd (n e refl)
    go (Some (under_pair f e)) n = refl

-- behind an equal descriptor there is the value alone
pub other_text : (d f : Descriptor) (e : EncodingCodes) (v : Item) → same_descriptor f d ≡ true → marked (other (under_pair f e)) (described d v) ≡ marked (other (under e)) v
unfolding marked kind_code body
other_text d f e v h = go (kind_code v)
  where
    go : (k : Option Constructor) → placed (other (under_pair f e)) (behind d k) (body v) ≡ placed (other (under e)) k (body v)
    go None = refl
    go (Some bare) = refl
    go (Some (under x)) = rw h refl
    go (Some (under_pair g x)) = refl

-- under any other constructor there is nothing
pub other_descriptor : (d f : Descriptor) (e : EncodingCodes) (v : Item) → same_descriptor f d ≡ false → marked (other (under_pair f e)) (described d v) ≡ None
unfolding marked kind_code body
other_descriptor d f e v h = go (kind_code v)
  where
    go : (k : Option Constructor) → placed (other (under_pair f e)) (behind d k) (body v) ≡ None
    go None = refl
    go (Some bare) = refl
    go (Some (under x)) = rw h refl
    go (Some (under_pair g x)) = refl

pub other_plain : (d : Descriptor) (e : EncodingCodes) (v : Item) → marked (other (under e)) (described d v) ≡ None
unfolding marked kind_code body
other_plain d e v = go (kind_code v)
  where
    go : (k : Option Constructor) → placed (other (under e)) (behind d k) (body v) ≡ None
    go None = refl
    go (Some bare) = refl
    go (Some (under x)) = refl
    go (Some (under_pair g x)) = refl

pub other_bare : (d : Descriptor) (v : Item) → marked (other bare) (described d v) ≡ None
unfolding marked kind_code body
other_bare d v = go (kind_code v)
  where
    go : (k : Option Constructor) → placed (other bare) (behind d k) (body v) ≡ None
    go None = refl
    go (Some bare) = refl
    go (Some (under x)) = refl
    go (Some (under_pair g x)) = refl

pub plain_nowhere : (m : Mark) (d : Descriptor) (e : EncodingCodes) → m ≡ other (under e) → (v : Item) → marked m (described d v) ≡ None
plain_nowhere m d e h v = rw h (other_plain d e v)

pub pair_nowhere : (m : Mark) (d f : Descriptor) (e : EncodingCodes) → m ≡ other (under_pair f e) → same_descriptor f d ≡ false → (v : Item) → marked m (described d v) ≡ None
pair_nowhere m d f e h n v = rw h (other_descriptor d f e v n)

pub bare_nowhere : (m : Mark) (d : Descriptor) → m ≡ other bare → (v : Item) → marked m (described d v) ≡ None
bare_nowhere m d h v = rw h (other_bare d v)

-- why a described item isn't written
pub why_described : (d : Descriptor) (v : Item) (a : List ℕ) → descriptor_text d ≡ Some a → why_unwritten (described d v) ≡ why_unwritten v
unfolding why_unwritten
why_described d v a h = rw h refl

pub why_no_descriptor : (d : Descriptor) (v : Item) → descriptor_text d ≡ None → why_unwritten (described d v) ≡ why_undescribed d
unfolding why_unwritten
why_no_descriptor d v h = rw h refl
