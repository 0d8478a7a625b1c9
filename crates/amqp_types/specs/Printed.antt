-- Bytes in hexadecimal digits.
use Rattle.std.specs.Prelude.{ℕ, Bool, ◌&&◌, true, false, if◌then◌else◌, nat_lt, List, ◌++◌, slice_range, flat_map, codes}
use Rattle.std.specs.Fmt.{digits}

-- a byte: under `two` in two digits, else without a leading zero
abbrev pub byte_digits : Bool → Bool → ℕ → List ℕ
byte_digits two upper b = if two && nat_lt b 16 then codes "0" ++ digits 16 upper b else digits 16 upper b

-- bytes, one after the other
abbrev pub bytes_text : Bool → Bool → List ℕ → List ℕ
bytes_text two upper bytes = flat_map (byte_digits two upper) bytes

-- a binary: each byte without a leading zero
abbrev pub binary_text : Bool → List ℕ → List ℕ
binary_text upper bytes = bytes_text false upper bytes

-- bytes in two digits each
abbrev pub octets : Bool → List ℕ → List ℕ
octets upper bytes = bytes_text true upper bytes

abbrev pub behind_hyphen : Bool → List ℕ → List ℕ
behind_hyphen upper bytes = codes "-" ++ octets upper bytes

-- a uuid as RFC 4122, section 3, writes it: groups of 8, 4, 4, 4 and 12 digits, hyphens between
unfoldable pub uuid_text : Bool → List ℕ → List ℕ
uuid_text upper bytes = octets upper (slice_range bytes 0 4)
    ++ behind_hyphen upper (slice_range bytes 4 6)
    ++ behind_hyphen upper (slice_range bytes 6 8)
    ++ behind_hyphen upper (slice_range bytes 8 10)
    ++ behind_hyphen upper (slice_range bytes 10 16)
