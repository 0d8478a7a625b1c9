-- Worked examples: strict forms, and lengths by size fields.
use Rattle.std.proofs.Common.{[], ◌∷◌, Some, None, refl, ◌≡◌, length}
use Rattle.std.specs.Str.{is_utf8, chars}
use Rattle.std.specs.Char.{encode_utf8}
use Rattle.amqp_base.specs.Codes.{row, code_of, widest}
use Rattle.amqp_base.specs.Item.{string, scalar, list, array}
use Rattle.amqp_base.specs.Value.{read, payload}
use Rattle.amqp_base.specs.Wire.{strict, bare, Front}
use Rattle.amqp_base.specs.Canon.{canon, scalar_text, short_text, scalar_body, kind_code}
use Rattle.amqp_base.specs.Raw.{raw}
use Rattle.amqp_base.proofs.Decode.{decode, as_descriptor, is_list0}
use Rattle.amqp_base.proofs.RowWords.{Reads, reads, NotStrict, not_strict, reads_strict, int_item, one_item, letters}

-- a list whose size is below its contents is read in eight bytes and skipped in four
size_too_small_is_skipped_by_its_size : raw (0xc0 ∷ 0x02 ∷ 0x01 ∷ 0x71 ∷ 0x00 ∷ 0x00 ∷ 0x00 ∷ 0x05 ∷ []) ≡ Some 4
unfolding raw row code_of
size_too_small_is_skipped_by_its_size = refl

size_too_small_is_read : Reads (0xc0 ∷ 0x02 ∷ 0x01 ∷ 0x71 ∷ 0x00 ∷ 0x00 ∷ 0x00 ∷ 0x05 ∷ []) (list (one_item (int_item 5))) 8
unfolding decode row code_of read payload is_list0 as_descriptor is_utf8 chars encode_utf8
size_too_small_is_read = reads _ (list (one_item (int_item 5))) [] refl

size_too_small_is_not_strict : NotStrict (0xc0 ∷ 0x02 ∷ 0x01 ∷ 0x71 ∷ 0x00 ∷ 0x00 ∷ 0x00 ∷ 0x05 ∷ [])
unfolding decode row code_of read payload is_list0 as_descriptor is_utf8 chars encode_utf8
size_too_small_is_not_strict = not_strict _ refl

empty_array_is_skipped : raw (0xe0 ∷ 0x02 ∷ 0x00 ∷ 0x40 ∷ 0xff ∷ []) ≡ Some 4
unfolding raw row code_of
empty_array_is_skipped = refl

described_is_skipped : raw (0x00 ∷ 0xa3 ∷ 0x01 ∷ 0x61 ∷ 0x45 ∷ 0xff ∷ []) ≡ Some 5
unfolding raw row code_of
described_is_skipped = refl

described_list_is_skipped : raw (0x00 ∷ 0x53 ∷ 0x13 ∷ 0xc0 ∷ 0x04 ∷ 0x02 ∷ 0x41 ∷ 0x54 ∷ 0x03 ∷ 0xff ∷ []) ≡ Some 9
unfolding raw row code_of
described_list_is_skipped = refl

twice_described_is_not_skipped : raw (0x00 ∷ 0x53 ∷ 0x13 ∷ 0x00 ∷ 0x53 ∷ 0x01 ∷ 0x40 ∷ []) ≡ None
unfolding raw row code_of
twice_described_is_not_skipped = refl

-- a text of 255 letters has a shorter strict form than its canonical text
short_text_of_255_bytes : Front strict bare (0xa1 ∷ 0xff ∷ letters 255) (scalar (string (letters 255))) 257
unfolding decode row code_of read payload is_list0 as_descriptor is_utf8 chars encode_utf8
short_text_of_255_bytes = reads_strict _ (scalar (string (letters 255))) [] refl

canonical_text_of_255_bytes : canon (scalar (string (letters 255))) ≡ Some (0xb1 ∷ 0 ∷ 0 ∷ 0 ∷ 0xff ∷ letters 255)
unfolding canon scalar_text short_text scalar_body widest row is_utf8 chars encode_utf8
canonical_text_of_255_bytes = refl

of_260_bytes : length (0xb1 ∷ 0 ∷ 0 ∷ 0 ∷ 0xff ∷ letters 255) ≡ 260
of_260_bytes = refl

-- so has an array, whose canonical text has the widest code of its elements
short_array : Front strict bare (0xe0 ∷ 0x03 ∷ 0x01 ∷ 0x54 ∷ 0x01 ∷ []) (array (one_item (int_item 1))) 5
unfolding decode row code_of read payload is_list0 as_descriptor is_utf8 chars encode_utf8
short_array = reads_strict _ (array (one_item (int_item 1))) [] refl

canonical_array : canon (array (one_item (int_item 1))) ≡ Some (0xe0 ∷ 0x06 ∷ 0x01 ∷ 0x71 ∷ 0x00 ∷ 0x00 ∷ 0x00 ∷ 0x01 ∷ [])
unfolding canon scalar_body widest row kind_code
canonical_array = refl

-- both are read as the same
short_text_is_read : Reads (0xa1 ∷ 0xff ∷ letters 255) (scalar (string (letters 255))) 257
unfolding decode row code_of read payload is_list0 as_descriptor is_utf8 chars encode_utf8
short_text_is_read = reads _ (scalar (string (letters 255))) [] refl

short_array_is_read : Reads (0xe0 ∷ 0x03 ∷ 0x01 ∷ 0x54 ∷ 0x01 ∷ []) (array (one_item (int_item 1))) 5
unfolding decode row code_of read payload is_list0 as_descriptor is_utf8 chars encode_utf8
short_array_is_read = reads _ (array (one_item (int_item 1))) [] refl
