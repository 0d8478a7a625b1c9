-- Worked examples: bytes at whose front nothing stands that is read.
use Rattle.std.proofs.Common.{[], ◌∷◌, refl}
use Rattle.std.specs.Str.{is_utf8, chars}
use Rattle.std.specs.Char.{encode_utf8}
use Rattle.amqp_base.specs.Codes.{row, code_of}
use Rattle.amqp_base.specs.Value.{read, payload}
use Rattle.amqp_base.proofs.Decode.{decode, as_descriptor, is_list0}
use Rattle.amqp_base.proofs.RowWords.{Refused, refused}

list_size_below_its_header : Refused (0xc0 ∷ 0x00 ∷ 0x00 ∷ [])
unfolding decode row code_of read payload is_list0 as_descriptor is_utf8 chars encode_utf8
list_size_below_its_header = refused _ refl

more_elements_than_the_size : Refused (0xe0 ∷ 0x01 ∷ 0x02 ∷ 0x40 ∷ [])
unfolding decode row code_of read payload is_list0 as_descriptor is_utf8 chars encode_utf8
more_elements_than_the_size = refused _ refl

array_size_below_its_constructor : Refused (0xe0 ∷ 0x01 ∷ 0x01 ∷ 0x40 ∷ [])
unfolding decode row code_of read payload is_list0 as_descriptor is_utf8 chars encode_utf8
array_size_below_its_constructor = refused _ refl

elements_past_the_size : Refused (0xe0 ∷ 0x03 ∷ 0x01 ∷ 0x70 ∷ 0x00 ∷ 0x00 ∷ 0x00 ∷ 0x05 ∷ [])
unfolding decode row code_of read payload is_list0 as_descriptor is_utf8 chars encode_utf8
elements_past_the_size = refused _ refl

odd_map : Refused (0xc1 ∷ 0x01 ∷ 0x01 ∷ [])
unfolding decode row code_of read payload is_list0 as_descriptor is_utf8 chars encode_utf8
odd_map = refused _ refl

odd_map_with_a_key : Refused (0xc1 ∷ 0x03 ∷ 0x01 ∷ 0x52 ∷ 0x01 ∷ [])
unfolding decode row code_of read payload is_list0 as_descriptor is_utf8 chars encode_utf8
odd_map_with_a_key = refused _ refl

map_size_below_its_header : Refused (0xc1 ∷ 0x00 ∷ 0x00 ∷ [])
unfolding decode row code_of read payload is_list0 as_descriptor is_utf8 chars encode_utf8
map_size_below_its_header = refused _ refl

null_as_descriptor : Refused (0x00 ∷ 0x40 ∷ 0x40 ∷ [])
unfolding decode row code_of read payload is_list0 as_descriptor is_utf8 chars encode_utf8
null_as_descriptor = refused _ refl

descriptor_cut_short : Refused (0x00 ∷ 0x53 ∷ [])
unfolding decode row code_of read payload is_list0 as_descriptor is_utf8 chars encode_utf8
descriptor_cut_short = refused _ refl

value_cut_short : Refused (0x00 ∷ 0x53 ∷ 0x13 ∷ [])
unfolding decode row code_of read payload is_list0 as_descriptor is_utf8 chars encode_utf8
value_cut_short = refused _ refl

boolean_of_two : Refused (0x56 ∷ 0x02 ∷ [])
unfolding decode row code_of read payload is_list0 as_descriptor is_utf8 chars encode_utf8
boolean_of_two = refused _ refl

no_code : Refused (0x57 ∷ [])
unfolding decode row code_of read payload is_list0 as_descriptor is_utf8 chars encode_utf8
no_code = refused _ refl

nothing : Refused ([])
unfolding decode row code_of read payload is_list0 as_descriptor is_utf8 chars encode_utf8
nothing = refused _ refl

surrogate_as_char : Refused (0x73 ∷ 0x00 ∷ 0x00 ∷ 0xd8 ∷ 0x00 ∷ [])
unfolding decode row code_of read payload is_list0 as_descriptor is_utf8 chars encode_utf8
surrogate_as_char = refused _ refl

text_not_utf8 : Refused (0xa1 ∷ 0x01 ∷ 0xff ∷ [])
unfolding decode row code_of read payload is_list0 as_descriptor is_utf8 chars encode_utf8
text_not_utf8 = refused _ refl

text_cut_short : Refused (0xa1 ∷ 0x05 ∷ 0x61 ∷ [])
unfolding decode row code_of read payload is_list0 as_descriptor is_utf8 chars encode_utf8
text_cut_short = refused _ refl

described_array_size_below_its_constructor : Refused (0xe0 ∷ 0x03 ∷ 0x01 ∷ 0x00 ∷ 0x44 ∷ 0x40 ∷ [])
unfolding decode row code_of read payload is_list0 as_descriptor is_utf8 chars encode_utf8
described_array_size_below_its_constructor = refused _ refl

null_as_descriptor_in_an_array : Refused (0xe0 ∷ 0x04 ∷ 0x01 ∷ 0x00 ∷ 0x40 ∷ 0x40 ∷ [])
unfolding decode row code_of read payload is_list0 as_descriptor is_utf8 chars encode_utf8
null_as_descriptor_in_an_array = refused _ refl

-- an element constructor is described once at most
described_value_in_an_array : Refused (0xe0 ∷ 0x04 ∷ 0x01 ∷ 0x00 ∷ 0x44 ∷ 0x00 ∷ [])
unfolding decode row code_of read payload is_list0 as_descriptor is_utf8 chars encode_utf8
described_value_in_an_array = refused _ refl

described_elements_past_the_size : Refused (0xe0 ∷ 0x04 ∷ 0x01 ∷ 0x00 ∷ 0x44 ∷ 0x70 ∷ 0x00 ∷ 0x00 ∷ 0x00 ∷ 0x05 ∷ [])
unfolding decode row code_of read payload is_list0 as_descriptor is_utf8 chars encode_utf8
described_elements_past_the_size = refused _ refl

-- a count above the size
many_missing_elements : Refused (0xf0 ∷ 0x00 ∷ 0x00 ∷ 0x00 ∷ 0x09 ∷ 0x7f ∷ 0xff ∷ 0xff ∷ 0xff ∷ 0xa3 ∷ [])
unfolding decode row code_of read payload is_list0 as_descriptor is_utf8 chars encode_utf8
many_missing_elements = refused _ refl

-- 65,536 elements of which none is there
size_of_a_list_is_taken_on_trust : Refused (0xd0 ∷ 0xff ∷ 0xff ∷ 0xff ∷ 0xff ∷ 0x00 ∷ 0x01 ∷ 0x00 ∷ 0x00 ∷ [])
unfolding decode row code_of read payload is_list0 as_descriptor is_utf8 chars encode_utf8
size_of_a_list_is_taken_on_trust = refused _ refl
