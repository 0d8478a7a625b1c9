-- Worked examples: what is read.
use Rattle.std.proofs.Common.{ℕ, [], ◌∷◌, ◌<◌, take, true, refl}
use Rattle.std.specs.Str.{is_utf8, chars}
use Rattle.std.specs.Char.{encode_utf8}
use Rattle.amqp_base.specs.Codes.{row, code_of}
use Rattle.amqp_base.specs.Item.{null, boolean, ulong, decimal64, string, code, scalar, list, map, array, described, none, more, no_pairs, pair}
use Rattle.amqp_base.specs.Value.{read, payload}
use Rattle.amqp_base.proofs.Decode.{decode, as_descriptor, is_list0}
use Rattle.amqp_base.specs.Wire.{lenient, bare}
use Rattle.amqp_base.proofs.CutShort.{cut_short}
use Rattle.amqp_base.proofs.RowWords.{Reads, reads, Refused, uint_item, int_item, one_item, two_items}

-- the size of a list is only looked at in its header
list_with_a_size_too_small : Reads (0xc0 ∷ 0x02 ∷ 0x01 ∷ 0x71 ∷ 0x00 ∷ 0x00 ∷ 0x00 ∷ 0x05 ∷ []) (list (one_item (int_item 5))) 8
unfolding decode row code_of read payload is_list0 as_descriptor is_utf8 chars encode_utf8
list_with_a_size_too_small = reads _ (list (one_item (int_item 5))) ([]) refl

two_nulls : Reads (0xe0 ∷ 0x02 ∷ 0x02 ∷ 0x40 ∷ []) (array (two_items (scalar null) (scalar null))) 4
unfolding decode row code_of read payload is_list0 as_descriptor is_utf8 chars encode_utf8
two_nulls = reads _ (array (two_items (scalar null) (scalar null))) ([]) refl

empty_array_with_a_constructor : Reads (0xe0 ∷ 0x02 ∷ 0x00 ∷ 0x40 ∷ 0xff ∷ []) (array none) 4
unfolding decode row code_of read payload is_list0 as_descriptor is_utf8 chars encode_utf8
empty_array_with_a_constructor = reads _ (array none) (0xff ∷ []) refl

empty_array_with_nothing : Reads (0xe0 ∷ 0x00 ∷ 0x00 ∷ []) (array none) 3
unfolding decode row code_of read payload is_list0 as_descriptor is_utf8 chars encode_utf8
empty_array_with_nothing = reads _ (array none) ([]) refl

empty_array_in_a_list : Reads (0xc0 ∷ 0x07 ∷ 0x02 ∷ 0xe0 ∷ 0x02 ∷ 0x00 ∷ 0x40 ∷ 0x54 ∷ 0x07 ∷ []) (list (two_items (array none) (int_item 7))) 9
unfolding decode row code_of read payload is_list0 as_descriptor is_utf8 chars encode_utf8
empty_array_in_a_list = reads _ (list (two_items (array none) (int_item 7))) ([]) refl

array_of_arrays : Reads (0xe0 ∷ 0x1c ∷ 0x02 ∷ 0xf0 ∷ 0x00 ∷ 0x00 ∷ 0x00 ∷ 0x09 ∷ 0x00 ∷ 0x00 ∷ 0x00 ∷ 0x01 ∷ 0x71 ∷ 0x00 ∷ 0x00 ∷ 0x00 ∷ 0x01 ∷ 0x00 ∷ 0x00 ∷ 0x00 ∷ 0x09 ∷ 0x00 ∷ 0x00 ∷ 0x00 ∷ 0x01 ∷ 0x71 ∷ 0x00 ∷ 0x00 ∷ 0x00 ∷ 0x02 ∷ []) (array (two_items (array (one_item (int_item 1))) (array (one_item (int_item 2))))) 30
unfolding decode row code_of read payload is_list0 as_descriptor is_utf8 chars encode_utf8
array_of_arrays = reads _ (array (two_items (array (one_item (int_item 1))) (array (one_item (int_item 2))))) ([]) refl

described_list : Reads (0x00 ∷ 0x53 ∷ 0x13 ∷ 0xc0 ∷ 0x04 ∷ 0x02 ∷ 0x41 ∷ 0x54 ∷ 0x03 ∷ []) (described (code 0x13) (list (two_items (scalar (boolean true)) (int_item 3)))) 9
unfolding decode row code_of read payload is_list0 as_descriptor is_utf8 chars encode_utf8
described_list = reads _ (described (code 0x13) (list (two_items (scalar (boolean true)) (int_item 3)))) ([]) refl

described_shorter_list : Reads (0x00 ∷ 0x53 ∷ 0x13 ∷ 0xc0 ∷ 0x02 ∷ 0x01 ∷ 0x41 ∷ []) (described (code 0x13) (list (one_item (scalar (boolean true))))) 7
unfolding decode row code_of read payload is_list0 as_descriptor is_utf8 chars encode_utf8
described_shorter_list = reads _ (described (code 0x13) (list (one_item (scalar (boolean true))))) ([]) refl

tuple_variant : Reads (0xc1 ∷ 0x0f ∷ 0x02 ∷ 0x52 ∷ 0x02 ∷ 0xc0 ∷ 0x0a ∷ 0x03 ∷ 0x41 ∷ 0x53 ∷ 0x0d ∷ 0xa1 ∷ 0x04 ∷ 0x61 ∷ 0x6d ∷ 0x71 ∷ 0x70 ∷ []) (map (pair (uint_item 2) (list (more (scalar (boolean true)) (two_items (scalar (ulong 13)) (scalar (string (0x61 ∷ 0x6d ∷ 0x71 ∷ 0x70 ∷ [])))))) no_pairs)) 17
unfolding decode row code_of read payload is_list0 as_descriptor is_utf8 chars encode_utf8
tuple_variant = reads _ (map (pair (uint_item 2) (list (more (scalar (boolean true)) (two_items (scalar (ulong 13)) (scalar (string (0x61 ∷ 0x6d ∷ 0x71 ∷ 0x70 ∷ [])))))) no_pairs)) ([]) refl

index_alone : Reads (0x52 ∷ 0x02 ∷ []) (uint_item 2) 2
unfolding decode row code_of read payload is_list0 as_descriptor is_utf8 chars encode_utf8
index_alone = reads _ (uint_item 2) ([]) refl

empty_list : Reads (0x45 ∷ []) (list none) 1
unfolding decode row code_of read payload is_list0 as_descriptor is_utf8 chars encode_utf8
empty_list = reads _ (list none) ([]) refl

map_with_a_repeated_key : Reads (0xc1 ∷ 0x10 ∷ 0x06 ∷ 0xa1 ∷ 0x01 ∷ 0x61 ∷ 0x52 ∷ 0x01 ∷ 0xa1 ∷ 0x01 ∷ 0x62 ∷ 0x52 ∷ 0x02 ∷ 0xa1 ∷ 0x01 ∷ 0x61 ∷ 0x52 ∷ 0x03 ∷ []) (map (pair (scalar (string (0x61 ∷ []))) (uint_item 1) (pair (scalar (string (0x62 ∷ []))) (uint_item 2) (pair (scalar (string (0x61 ∷ []))) (uint_item 3) no_pairs)))) 18
unfolding decode row code_of read payload is_list0 as_descriptor is_utf8 chars encode_utf8
map_with_a_repeated_key = reads _ (map (pair (scalar (string (0x61 ∷ []))) (uint_item 1) (pair (scalar (string (0x62 ∷ []))) (uint_item 2) (pair (scalar (string (0x61 ∷ []))) (uint_item 3) no_pairs)))) ([]) refl

newtype_variant : Reads (0xc1 ∷ 0x05 ∷ 0x02 ∷ 0x52 ∷ 0x01 ∷ 0x52 ∷ 0x0d ∷ []) (map (pair (uint_item 1) (uint_item 13) no_pairs)) 7
unfolding decode row code_of read payload is_list0 as_descriptor is_utf8 chars encode_utf8
newtype_variant = reads _ (map (pair (uint_item 1) (uint_item 13) no_pairs)) ([]) refl

newtype_variant_as_a_list : Reads (0xc0 ∷ 0x05 ∷ 0x02 ∷ 0x52 ∷ 0x01 ∷ 0x52 ∷ 0x0d ∷ []) (list (two_items (uint_item 1) (uint_item 13))) 7
unfolding decode row code_of read payload is_list0 as_descriptor is_utf8 chars encode_utf8
newtype_variant_as_a_list = reads _ (list (two_items (uint_item 1) (uint_item 13))) ([]) refl

decimal_of_8_bytes : Reads (0x84 ∷ 0x00 ∷ 0x00 ∷ 0x00 ∷ 0x00 ∷ 0x00 ∷ 0x00 ∷ 0x00 ∷ 0x00 ∷ []) (scalar (decimal64 (0 ∷ 0 ∷ 0 ∷ 0 ∷ 0 ∷ 0 ∷ 0 ∷ 0 ∷ []))) 9
unfolding decode row code_of read payload is_list0 as_descriptor is_utf8 chars encode_utf8
decimal_of_8_bytes = reads _ (scalar (decimal64 (0 ∷ 0 ∷ 0 ∷ 0 ∷ 0 ∷ 0 ∷ 0 ∷ 0 ∷ []))) ([]) refl

described_ints : Reads (0xe0 ∷ 0x0d ∷ 0x02 ∷ 0x00 ∷ 0x53 ∷ 0x13 ∷ 0x71 ∷ 0x00 ∷ 0x00 ∷ 0x00 ∷ 0x01 ∷ 0x00 ∷ 0x00 ∷ 0x00 ∷ 0x02 ∷ []) (array (two_items (described (code 0x13) (int_item 1)) (described (code 0x13) (int_item 2)))) 15
unfolding decode row code_of read payload is_list0 as_descriptor is_utf8 chars encode_utf8
described_ints = reads _ (array (two_items (described (code 0x13) (int_item 1)) (described (code 0x13) (int_item 2)))) ([]) refl

described_array : Reads (0xe0 ∷ 0x12 ∷ 0x01 ∷ 0x00 ∷ 0x53 ∷ 0x01 ∷ 0xf0 ∷ 0x00 ∷ 0x00 ∷ 0x00 ∷ 0x09 ∷ 0x00 ∷ 0x00 ∷ 0x00 ∷ 0x01 ∷ 0x71 ∷ 0x00 ∷ 0x00 ∷ 0x00 ∷ 0x01 ∷ []) (array (one_item (described (code 1) (array (one_item (int_item 1)))))) 20
unfolding decode row code_of read payload is_list0 as_descriptor is_utf8 chars encode_utf8
described_array = reads _ (array (one_item (described (code 1) (array (one_item (int_item 1)))))) ([]) refl

described_null : Reads (0xe0 ∷ 0x04 ∷ 0x01 ∷ 0x00 ∷ 0x44 ∷ 0x40 ∷ []) (array (one_item (described (code 0) (scalar null)))) 6
unfolding decode row code_of read payload is_list0 as_descriptor is_utf8 chars encode_utf8
described_null = reads _ (array (one_item (described (code 0) (scalar null)))) ([]) refl

described_uint_within_its_size : Reads (0xe0 ∷ 0x08 ∷ 0x01 ∷ 0x00 ∷ 0x44 ∷ 0x70 ∷ 0x00 ∷ 0x00 ∷ 0x00 ∷ 0x05 ∷ []) (array (one_item (described (code 0) (uint_item 5)))) 10
unfolding decode row code_of read payload is_list0 as_descriptor is_utf8 chars encode_utf8
described_uint_within_its_size = reads _ (array (one_item (described (code 0) (uint_item 5)))) ([]) refl

-- cut short, it isn't read
tuple_variant_cut : (m : ℕ) → m < 17 → Refused (take m (0xc1 ∷ 0x0f ∷ 0x02 ∷ 0x52 ∷ 0x02 ∷ 0xc0 ∷ 0x0a ∷ 0x03 ∷ 0x41 ∷ 0x53 ∷ 0x0d ∷ 0xa1 ∷ 0x04 ∷ 0x61 ∷ 0x6d ∷ 0x71 ∷ 0x70 ∷ []))
tuple_variant_cut m l i n f = cut_short lenient bare _ _ i 17 m n tuple_variant l f
