-- Worked examples: what is written for arrays.
use Rattle.std.proofs.Common.{◌≡◌, ℕ, List, [], ◌∷◌, ◌++◌, Some, None, refl}
use Rattle.std.specs.Str.{is_utf8, chars}
use Rattle.std.specs.Char.{encode_utf8}
use Rattle.amqp_base.specs.Codes.{row, widest}
use Rattle.amqp_base.specs.Item.{null, ubyte, string, name, code, Item, scalar, list, array, described, none, items_of}
use Rattle.amqp_base.specs.Canon.{canon, scalar_text, short_text, scalar_body, kind_code}
use Rattle.amqp_base.proofs.RowWords.{uint_item, int_item, ints, one_item, two_items, from}

empty_array : canon (array none) ≡ Some (0xe0 ∷ 1 ∷ 0 ∷ [])
unfolding canon
empty_array = refl

array_of_ints : canon (array (items_of (ints (1 ∷ 2 ∷ [])))) ≡ Some (0xe0 ∷ 0x0a ∷ 2 ∷ 0x71 ∷ 0 ∷ 0 ∷ 0 ∷ 1 ∷ 0 ∷ 0 ∷ 0 ∷ 2 ∷ [])
unfolding canon scalar_body widest row kind_code
array_of_ints = refl

-- the length of a text is that of its bytes
array_of_a_string : canon (array (one_item (scalar (string (0xc3 ∷ 0xa9 ∷ []))))) ≡ Some (0xe0 ∷ 8 ∷ 1 ∷ 0xb1 ∷ 0 ∷ 0 ∷ 0 ∷ 2 ∷ 0xc3 ∷ 0xa9 ∷ [])
unfolding canon scalar_body widest row kind_code is_utf8 chars encode_utf8
array_of_a_string = refl

array_of_lists : canon (array (two_items (list (one_item (int_item 1))) (list none))) ≡ Some (0xe0 ∷ 0x14 ∷ 2 ∷ 0xd0 ∷ 0 ∷ 0 ∷ 0 ∷ 6 ∷ 0 ∷ 0 ∷ 0 ∷ 1 ∷ 0x54 ∷ 1 ∷ 0 ∷ 0 ∷ 0 ∷ 4 ∷ 0 ∷ 0 ∷ 0 ∷ 0 ∷ [])
unfolding canon scalar_text short_text scalar_body widest row kind_code
array_of_lists = refl

-- the data of an array of one int under array32
abbrev inner : ℕ → List ℕ
inner n = 0 ∷ 0 ∷ 0 ∷ 9 ∷ 0 ∷ 0 ∷ 0 ∷ 1 ∷ 0x71 ∷ 0 ∷ 0 ∷ 0 ∷ n ∷ []

array_of_arrays : canon (array (two_items (array (one_item (int_item 1))) (array (one_item (int_item 2))))) ≡ Some (0xe0 ∷ 0x1c ∷ 2 ∷ 0xf0 ∷ inner 1 ++ inner 2)
unfolding canon scalar_body widest row kind_code
array_of_arrays = refl

array_of_an_empty_array : canon (array (one_item (array none))) ≡ Some (0xe0 ∷ 0x0a ∷ 1 ∷ 0xf0 ∷ 0 ∷ 0 ∷ 0 ∷ 4 ∷ 0 ∷ 0 ∷ 0 ∷ 0 ∷ [])
unfolding canon widest row kind_code
array_of_an_empty_array = refl

array_of_a_null : canon (array (one_item (scalar null))) ≡ None
unfolding canon widest kind_code
array_of_a_null = refl

array_of_two_kinds : canon (array (two_items (int_item 1) (scalar null))) ≡ None
unfolding canon scalar_body widest row kind_code
array_of_two_kinds = refl

ubytes : List ℕ → List Item
ubytes [] = []
ubytes (n ∷ ns) = scalar (ubyte n) ∷ ubytes ns

array_body_of_254_bytes : canon (array (items_of (ubytes (from 0 253)))) ≡ Some (0xe0 ∷ 0xff ∷ 0xfd ∷ 0x50 ∷ from 0 253)
unfolding canon scalar_body widest row kind_code ubytes
array_body_of_254_bytes = refl

array_body_of_255_bytes : canon (array (items_of (ubytes (from 0 254)))) ≡ Some (0xf0 ∷ 0 ∷ 0 ∷ 1 ∷ 3 ∷ 0 ∷ 0 ∷ 0 ∷ 0xfe ∷ 0x50 ∷ from 0 254)
unfolding canon scalar_body widest row kind_code ubytes
array_body_of_255_bytes = refl

-- the descriptor stands once
array_behind_a_code : canon (array (two_items (described (code 0x13) (int_item 1)) (described (code 0x13) (int_item 2)))) ≡ Some (0xe0 ∷ 0x0d ∷ 2 ∷ 0 ∷ 0x53 ∷ 0x13 ∷ 0x71 ∷ 0 ∷ 0 ∷ 0 ∷ 1 ∷ 0 ∷ 0 ∷ 0 ∷ 2 ∷ [])
unfolding canon scalar_text short_text scalar_body widest row kind_code
array_behind_a_code = refl

array_behind_a_name : canon (array (one_item (described (name (0x61 ∷ [])) (uint_item 5)))) ≡ Some (0xe0 ∷ 0x0a ∷ 1 ∷ 0 ∷ 0xa3 ∷ 1 ∷ 0x61 ∷ 0x70 ∷ 0 ∷ 0 ∷ 0 ∷ 5 ∷ [])
unfolding canon scalar_text short_text scalar_body widest row kind_code is_utf8 chars encode_utf8
array_behind_a_name = refl

array_of_described_arrays : canon (array (one_item (described (code 1) (array (one_item (int_item 1)))))) ≡ Some (0xe0 ∷ 0x12 ∷ 1 ∷ 0 ∷ 0x53 ∷ 1 ∷ 0xf0 ∷ inner 1)
unfolding canon scalar_text short_text scalar_body widest row kind_code
array_of_described_arrays = refl

array_of_two_descriptors : canon (array (two_items (described (code 1) (int_item 1)) (described (code 2) (int_item 1)))) ≡ None
unfolding canon scalar_text short_text scalar_body widest row kind_code
array_of_two_descriptors = refl

array_half_described : canon (array (two_items (described (code 1) (int_item 1)) (int_item 1))) ≡ None
unfolding canon scalar_text short_text scalar_body widest row kind_code
array_half_described = refl

array_of_a_described_null : canon (array (one_item (described (code 1) (scalar null)))) ≡ None
unfolding canon widest kind_code
array_of_a_described_null = refl

array_of_a_twice_described : canon (array (one_item (described (code 1) (described (code 1) (int_item 1))))) ≡ None
unfolding canon widest kind_code
array_of_a_twice_described = refl
