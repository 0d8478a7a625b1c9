-- What is read of an enum's variants, and how they are refused.
use Rattle.std.specs.Prelude.{◌≡◌, ◌⊎◌, Bool, true, false, IsTrue, Option, Some, None}
use Rattle.amqp_base.specs.declared.error.Error.{Error}
use Rattle.amqp_base.specs.declared.error.Error.TheVariants.{OutOfMemory}
use Rattle.amqp_base.specs.Enums.{Variants, Payload, is_key, means_variant}
use Rattle.amqp_base.specs.Item.{Item, map, list, in_turn}
use Rattle.amqp_base.specs.Refusals.{IsDevice}
use Rattle.amqp_base.specs.VariantItems.{Key, key_of, by_key, meant_by_key, takes_two, means_two, takes_enum, key_refusal, enum_refusal}
use Rattle.amqp_de.specs.Access.{Listing, Part, NoPart, PartNamed, behind_end}
use Rattle.amqp_de.specs.Decoding.{Decoding}
use Rattle.amqp_de.specs.Law.{Found, Missed, Named}

-- a key alone is this variant
pub record Alone {S : Type 0} (row : Variants S) (k : Key) (s : S) : Type 0 where
  pub taken : IsTrue (row.takes k None)
  pub meant : row.means k None s

-- or none
pub record NotAlone {S : Type 0} (row : Variants S) (k : Key) (e : Error) : Type 0 where
  pub absent : row.takes k None ≡ false
  pub why : row.refuses_alone k e ⊎ (e ≡ OutOfMemory)
  pub calm : IsDevice e → ⊥

-- the item at the front was read as what the variant under a key holds
abbrev pub HeldRead : {S : Type 0} → Variants S → Key → S → Decoding → Decoding → Type 0
HeldRead row k s old new = Found (λ i. row.takes k (Some i)) (λ i. row.means k (Some i) s) old new

-- it was refused, and by name
abbrev pub HeldRefused : {S : Type 0} → Variants S → Key → Bool → Decoding → Decoding → Error → Type 0
HeldRefused row k buffers old new e = Missed (λ i. row.takes k (Some i)) true buffers old new e

abbrev pub HeldNamed : {S : Type 0} → Variants S → Key → Bool → Decoding → Decoding → Error → Type 0
HeldNamed row k buffers old new e = Named (row.refuses k) true buffers old new e

-- ---- of one variant, whose key it is

pub record AloneHere {T : Type 0} (p : Payload T) (v : T) : Type 0 where
  pub taken : IsTrue (p.takes None)
  pub meant : p.means None v

pub record NotAloneHere {T : Type 0} (p : Payload T) (e : Error) : Type 0 where
  pub absent : p.takes None ≡ false
  pub why : p.refuses_alone e
  pub calm : IsDevice e → ⊥

abbrev pub PayloadRead : {T : Type 0} → Payload T → T → Decoding → Decoding → Type 0
PayloadRead p v old new = Found (λ i. p.takes (Some i)) (λ i. p.means (Some i) v) old new

abbrev pub PayloadRefused : {T : Type 0} → Payload T → Bool → Decoding → Decoding → Error → Type 0
PayloadRefused p buffers old new e = Missed (λ i. p.takes (Some i)) true buffers old new e

abbrev pub PayloadNamed : {T : Type 0} → Payload T → Bool → Decoding → Decoding → Error → Type 0
PayloadNamed p buffers old new e = Named p.refuses true buffers old new e

-- ---- the three forms of an enum's item

abbrev pub takes_alone : (Key → Option Item → Bool) → Item → Bool
takes_alone takes i = by_key (key_of i) (λ k. takes k None)

abbrev pub means_alone : (Key → Option Item → Type 0) → Item → Type 0
means_alone means i = meant_by_key (key_of i) (λ k. means k None)

abbrev pub takes_in_map : (Key → Option Item → Bool) → Item → Bool
takes_in_map takes (map ps) = takes_two takes (in_turn ps)
takes_in_map takes i = false

abbrev pub means_in_map : (Key → Option Item → Type 0) → Item → Type 0
means_in_map means (map ps) = means_two means (in_turn ps)
means_in_map means i = ⊥

abbrev pub takes_in_list : (Key → Option Item → Bool) → Item → Bool
takes_in_list takes (list is) = takes_two takes is
takes_in_list takes i = false

abbrev pub means_in_list : (Key → Option Item → Type 0) → Item → Type 0
means_in_list means (list is) = means_two means is
means_in_list means i = ⊥

module _ {S : Type 0} (row : Variants S) where
  -- the item at the front was read as this variant: as a key alone, as a pair in a map, or in a list; as one of them
  abbrev pub AloneRead : S → Decoding → Decoding → Type 0
  AloneRead s old new = Found (takes_alone row.takes) (means_alone (λ k o. row.means k o s)) old new

  abbrev pub MapRead : S → Decoding → Decoding → Type 0
  MapRead s old new = Found (takes_in_map row.takes) (means_in_map (λ k o. row.means k o s)) old new

  abbrev pub ListRead : S → Decoding → Decoding → Type 0
  ListRead s old new = Found (takes_in_list row.takes) (means_in_list (λ k o. row.means k o s)) old new

  abbrev pub VariantRead : S → Decoding → Decoding → Type 0
  VariantRead s old new = Found (takes_enum row.takes) (means_variant row s) old new

  -- it was refused, and by name
  abbrev pub VariantRefused : Bool → Decoding → Decoding → Error → Type 0
  VariantRefused buffers old new e = Missed (takes_enum row.takes) true buffers old new e

  abbrev pub VariantNamed : Bool → Decoding → Decoding → Error → Type 0
  VariantNamed buffers old new e = Named (enum_refusal row.refuses_alone row.refuses) true buffers old new e

  -- of what was opened the key and what its variant holds were read, and nothing is left
  pub record PairRead (s : S) (from : Listing) (last : Decoding) : Type 0 where
    pub key : Key
    pub between : Listing
    pub now : Listing
    pub key_read : Part is_key (λ i. key_of i ≡ Some key) from between
    pub held_read : Part (λ i. row.takes key (Some i)) (λ i. row.means key (Some i) s) between now
    pub left : now.left ≡ 0
    pub is : last ≡ behind_end now

  -- or one of them was refused
  pub data PairRefused (buffers : Bool) (from : Listing) (last : Decoding) (e : Error) : Type 0 where
    no_key_read : (next : Listing) → NoPart is_key true buffers from next e → PartNamed is_key key_refusal true buffers from next e → last ≡ next.state → PairRefused buffers from last e
    none_held : (key : Key) (between next : Listing) → Part is_key (λ i. key_of i ≡ Some key) from between → NoPart (λ i. row.takes key (Some i)) true buffers between next e
        → PartNamed (λ i. row.takes key (Some i)) (row.refuses key) true buffers between next e → last ≡ next.state → PairRefused buffers from last e
