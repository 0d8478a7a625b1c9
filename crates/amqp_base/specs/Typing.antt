-- Which item a value is written as, which items a type takes, and which value each of them is read as.
use Rattle.std.specs.Prelude.{ℕ, Bool, true, false, ◌&&◌, List, [], ◌∷◌}
use Rattle.amqp_base.specs.Codes.{Kind}
use Rattle.amqp_base.specs.SameKind.{same_kind}
use Rattle.amqp_base.specs.Canon.{kind_of}
use Rattle.amqp_base.specs.declared.shape.Setting.{Setting}
use Rattle.amqp_base.specs.declared.shape.Setting.TheVariants.{Plain, Symbol, DescribedList, DescribedMap, DescribedBasic}
use Rattle.amqp_base.specs.Item.{null, string, symbol, Item, scalar, list, map, array, described, Items, none, more}

-- a text: a symbol (1.6.21) under the symbol setting, else a string (1.6.20)
abbrev pub text_item : List ℕ → Setting → Item
text_item bytes Plain = scalar (string bytes)
text_item bytes Symbol = scalar (symbol bytes)
text_item bytes DescribedList = scalar (string bytes)
text_item bytes DescribedMap = scalar (string bytes)
text_item bytes DescribedBasic = scalar (string bytes)

-- A type means at most one value by an item: values that it means are the same.
abbrev pub OneValue : {T : Type 0} → (Item → T → Type 0) → (T → T → Type 0) → Type 0
OneValue {T} means same = (i : Item) (v w : T) → means i v → means i w → same v w

-- an item without parts, of this kind
abbrev pub is_of : Kind → Item → Bool
is_of k (scalar v) = same_kind (kind_of v) k
is_of k i = false

-- the null item (1.6.1)
abbrev pub is_null : Item → Bool
is_null (scalar null) = true
is_null i = false

-- every part is taken
abbrev pub all_taken : (Item → Bool) → Items → Bool
all_taken takes none = true
all_taken takes (more i is) = takes i && all_taken takes is

-- the parts mean the values, one each, in order
abbrev pub all_mean : {T : Type 0} → (Item → T → Type 0) → Items → List T → Type 0
all_mean means none [] = Unit {0}
all_mean means none (v ∷ vs) = ⊥
all_mean means (more i is) [] = ⊥
all_mean means (more i is) (v ∷ vs) = means i v × all_mean means is vs

-- the values are the same, one each, in order
abbrev pub all_same : {T : Type 0} → (T → T → Type 0) → List T → List T → Type 0
all_same same [] [] = Unit {0}
all_same same [] (w ∷ ws) = ⊥
all_same same (v ∷ vs) [] = ⊥
all_same same (v ∷ vs) (w ∷ ws) = same v w × all_same same vs ws

-- a list or an array whose elements are taken
abbrev pub is_seq_of : (Item → Bool) → Item → Bool
is_seq_of takes (list is) = all_taken takes is
is_seq_of takes (array is) = all_taken takes is
is_seq_of takes i = false

-- a list or an array whose elements mean the values
abbrev pub means_seq : {T : Type 0} → (Item → T → Type 0) → Item → List T → Type 0
means_seq means (list is) vs = all_mean means is vs
means_seq means (array is) vs = all_mean means is vs
means_seq means i vs = ⊥

-- an array whose elements are taken; any other item is an array's only element
abbrev pub takes_array : (Item → Bool) → Item → Bool
takes_array takes (array is) = all_taken takes is
takes_array takes (list is) = takes (list is)
takes_array takes (scalar v) = takes (scalar v)
takes_array takes (map ps) = takes (map ps)
takes_array takes (described d v) = takes (described d v)

-- and its elements mean the values
abbrev pub means_array : {T : Type 0} → (Item → T → Type 0) → Item → List T → Type 0
means_array means (array is) vs = all_mean means is vs
means_array means i vs = all_mean means (more i none) vs
