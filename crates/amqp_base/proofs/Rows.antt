-- Worked examples: what is written for items outside arrays.
use Rattle.std.proofs.Common.{◌≡◌, ℕ, zero, suc, pos, negsuc, List, [], ◌∷◌, ◌++◌, length, Some, None, true, false, refl}
use Rattle.std.specs.Str.{is_utf8, chars}
use Rattle.std.specs.Char.{encode_utf8}
use Rattle.amqp_base.specs.Codes.{row, widest}
use Rattle.amqp_base.specs.Item.{boolean, ulong, int, timestamp, string, symbol, scalar, list, map, none, more, no_pairs, pair, items_of}
use Rattle.amqp_base.specs.Canon.{canon, scalar_text, short_text, scalar_body, list_text}
use Rattle.amqp_base.proofs.RowWords.{uint_item, int_item, ints, two_items, from, letters}

uint_zero : canon (uint_item 0) ≡ Some (0x43 ∷ [])
unfolding canon scalar_text short_text
uint_zero = refl

uint_one_byte : canon (uint_item 255) ≡ Some (0x52 ∷ 0xff ∷ [])
unfolding canon scalar_text short_text
uint_one_byte = refl

uint_four_bytes : canon (uint_item 256) ≡ Some (0x70 ∷ 0 ∷ 0 ∷ 1 ∷ 0 ∷ [])
unfolding canon scalar_text short_text scalar_body widest row
uint_four_bytes = refl

uint_too_large : canon (uint_item 4294967296) ≡ None
unfolding canon scalar_text short_text scalar_body widest row
uint_too_large = refl

int_one_byte : canon (scalar (int (negsuc 127))) ≡ Some (0x54 ∷ 0x80 ∷ [])
unfolding canon scalar_text short_text
int_one_byte = refl

int_four_bytes : canon (int_item 128) ≡ Some (0x71 ∷ 0 ∷ 0 ∷ 0 ∷ 0x80 ∷ [])
unfolding canon scalar_text short_text scalar_body widest row
int_four_bytes = refl

string_of_254_bytes : canon (scalar (string (letters 254))) ≡ Some (0xa1 ∷ 0xfe ∷ letters 254)
unfolding canon scalar_text short_text is_utf8 chars encode_utf8
string_of_254_bytes = refl

string_of_255_bytes : canon (scalar (string (letters 255))) ≡ Some (0xb1 ∷ 0 ∷ 0 ∷ 0 ∷ 0xff ∷ letters 255)
unfolding canon scalar_text short_text scalar_body widest row is_utf8 chars encode_utf8
string_of_255_bytes = refl

string_no_text : canon (scalar (string (0xff ∷ []))) ≡ None
unfolding canon scalar_text short_text scalar_body widest row is_utf8 chars encode_utf8
string_no_text = refl

a_symbol : canon (scalar (symbol (0x61 ∷ []))) ≡ Some (0xa3 ∷ 1 ∷ 0x61 ∷ [])
unfolding canon scalar_text short_text is_utf8 chars encode_utf8
a_symbol = refl

empty_list : canon (list none) ≡ Some (0x45 ∷ [])
unfolding canon list_text
empty_list = refl

list_of_ints : canon (list (items_of (ints (1 ∷ 2 ∷ [])))) ≡ Some (0xc0 ∷ 5 ∷ 2 ∷ 0x54 ∷ 1 ∷ 0x54 ∷ 2 ∷ [])
unfolding canon scalar_text short_text list_text
list_of_ints = refl

empty_map : canon (map no_pairs) ≡ Some (0xc1 ∷ 1 ∷ 0 ∷ [])
unfolding canon
empty_map = refl

map_of_timestamp : canon (map (pair (scalar (timestamp (pos 0))) (scalar (string (0x78 ∷ []))) no_pairs)) ≡ Some (0xc1 ∷ 0x0d ∷ 2 ∷ 0x83 ∷ 0 ∷ 0 ∷ 0 ∷ 0 ∷ 0 ∷ 0 ∷ 0 ∷ 0 ∷ 0xa1 ∷ 1 ∷ 0x78 ∷ [])
unfolding canon scalar_text short_text scalar_body widest row is_utf8 chars encode_utf8
map_of_timestamp = refl

-- the ints from k on, one byte each behind its code
abbrev small_ints : ℕ → ℕ → List ℕ
small_ints k zero = []
small_ints k (suc n) = 0x54 ∷ k ∷ small_ints (suc k) n

list_body_of_254_bytes : canon (list (items_of (ints (from 0 127)))) ≡ Some (0xc0 ∷ 0xff ∷ 0x7f ∷ small_ints 0 127)
unfolding canon scalar_text short_text list_text
list_body_of_254_bytes = refl

so_257_bytes : length (0xc0 ∷ 0xff ∷ 0x7f ∷ small_ints 0 127) ≡ 257
so_257_bytes = refl

list_body_of_256_bytes : canon (list (items_of (ints (from 0 128)))) ≡ Some (0xd0 ∷ 0 ∷ 0 ∷ 1 ∷ 4 ∷ 0 ∷ 0 ∷ 0 ∷ 0x80 ∷ small_ints 0 128)
unfolding canon scalar_text short_text list_text
list_body_of_256_bytes = refl

struct_as_list : canon (list (two_items (uint_item 13) (scalar (boolean true)))) ≡ Some (0xc0 ∷ 4 ∷ 2 ∷ 0x52 ∷ 0x0d ∷ 0x41 ∷ [])
unfolding canon scalar_text short_text list_text
struct_as_list = refl

-- bar and is_fool
abbrev bar : List ℕ
bar = 0x62 ∷ 0x61 ∷ 0x72 ∷ []

abbrev is_fool : List ℕ
is_fool = 0x69 ∷ 0x73 ∷ 0x5f ∷ 0x66 ∷ 0x6f ∷ 0x6f ∷ 0x6c ∷ []

struct_as_map : canon (map (pair (scalar (string bar)) (uint_item 13) (pair (scalar (string is_fool)) (scalar (boolean true)) no_pairs))) ≡ Some (0xc1 ∷ 0x12 ∷ 4 ∷ 0xa1 ∷ 3 ∷ bar ++ 0x52 ∷ 0x0d ∷ 0xa1 ∷ 7 ∷ is_fool ++ 0x41 ∷ [])
unfolding canon scalar_text short_text is_utf8 chars encode_utf8
struct_as_map = refl

-- a variant is its index, or a map from the index to its fields
unit_variant : canon (uint_item 1) ≡ Some (0x52 ∷ 1 ∷ [])
unfolding canon scalar_text short_text
unit_variant = refl

newtype_variant : canon (map (pair (uint_item 1) (uint_item 13) no_pairs)) ≡ Some (0xc1 ∷ 5 ∷ 2 ∷ 0x52 ∷ 1 ∷ 0x52 ∷ 0x0d ∷ [])
unfolding canon scalar_text short_text
newtype_variant = refl

struct_variant : canon (map (pair (uint_item 3) (list (two_items (uint_item 7) (scalar (boolean false)))) no_pairs)) ≡ Some (0xc1 ∷ 9 ∷ 2 ∷ 0x52 ∷ 3 ∷ 0xc0 ∷ 4 ∷ 2 ∷ 0x52 ∷ 7 ∷ 0x42 ∷ [])
unfolding canon scalar_text short_text list_text
struct_variant = refl

tuple_variant : canon (map (pair (uint_item 2) (list (more (scalar (boolean true)) (two_items (scalar (ulong 13)) (scalar (string (0x61 ∷ 0x6d ∷ 0x71 ∷ 0x70 ∷ [])))))) no_pairs))
    ≡ Some (0xc1 ∷ 0x0f ∷ 2 ∷ 0x52 ∷ 2 ∷ 0xc0 ∷ 0x0a ∷ 3 ∷ 0x41 ∷ 0x53 ∷ 0x0d ∷ 0xa1 ∷ 4 ∷ 0x61 ∷ 0x6d ∷ 0x71 ∷ 0x70 ∷ [])
unfolding canon scalar_text short_text list_text is_utf8 chars encode_utf8
tuple_variant = refl
