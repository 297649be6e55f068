-- Reading words, one function for each function of the reader. Laws of the crate tie each to its spelling.
use Rattle.std.specs.Prelude.{ℕ, ◌+◌, ◌-◌, ◌*◌, ◌%◌, ◌^◌, Bool, true, false, not, ◌&&◌, ◌||◌, List, [], ◌∷◌, length, Option, Some, None, nat_lt, nat_le, ◌==◌, if◌then◌else◌, slice_index, codes}
use Rattle.std.specs.Char.{is_ascii_digit}
use Rattle.std.specs.List.{list_all, slice_split}
use Rattle.std.specs.Str.{bytes_eq}
use Rattle.std.specs.Str.Parse.{digits_value}

-- one to `most` bytes, and no leading zero
unfoldable pub is_numeral : ℕ → List ℕ → Bool
is_numeral most word =
    if length word == 0 then false
    else (if nat_lt most (length word) then false
    else not (slice_index word 0 == 48) || (length word == 1))

-- the number below 2^64 that a word spells
unfoldable pub decimal_at : List ℕ → Option ℕ
decimal_at word =
    if not (is_numeral 20 word) then None
    else (if not (list_all is_ascii_digit word) then None
    else (if nat_lt (digits_value 10 word) (2 ^ 64) then Some (digits_value 10 word) else None))

-- a hexadecimal digit in lower case
abbrev pub is_hex_digit : ℕ → Bool
is_hex_digit byte = (nat_le 48 byte && nat_le byte 57) || (nat_le 97 byte && nat_le byte 102)

-- the value of such a digit
abbrev pub hex_value : ℕ → ℕ
hex_value digit = if nat_le digit 57 then digit - 48 else digit - 97 + 10

-- the number that a word spells in hexadecimal
unfoldable pub hex_at : List ℕ → Option ℕ
hex_at word =
    if not (is_numeral 16 word) then None
    else (if not (list_all is_hex_digit word) then None
    else Some (digits_value 16 word))

-- a visible byte of ASCII that is no slash
abbrev pub is_name_byte : ℕ → Bool
is_name_byte byte = nat_le 33 byte && nat_le byte 126 && not (byte == 47)

-- one to 255 name bytes, and neither one dot nor two
unfoldable pub is_name : List ℕ → Bool
is_name name =
    if length name == 0 then false
    else (if nat_lt 255 (length name) then false
    else (if bytes_eq name (codes ".") then false
    else (if bytes_eq name (codes "..") then false
    else list_all is_name_byte name)))

-- names with a slash between each two
unfoldable pub are_names : List ℕ → Bool
are_names bytes = list_all is_name (slice_split (λ byte. byte == 47) bytes)

-- a slash alone, or names each behind a slash
abbrev pub is_path_of : List ℕ → Bool
is_path_of [] = false
is_path_of (first ∷ rest) =
    if not (first == 47) then false
    else (if length rest == 0 then true
    else are_names rest)

-- a path of 4,095 bytes at most
unfoldable pub is_path : List ℕ → Bool
is_path word = if nat_lt 4095 (length word) then false else is_path_of word

-- two to 128 digits, an even number of them
unfoldable pub is_response : List ℕ → Bool
is_response word =
    if length word == 0 then false
    else (if nat_lt 128 (length word) then false
    else (if length word % 2 == 1 then false
    else list_all is_hex_digit word))

-- the bytes that pairs of digits spell
abbrev pub bytes_of : List ℕ → List ℕ
bytes_of [] = []
bytes_of (last ∷ []) = []
bytes_of (high ∷ low ∷ more) = (16 * hex_value high + hex_value low) ∷ bytes_of more

-- the 1 to 64 bytes that a word spells
unfoldable pub bytes_at : List ℕ → Option (List ℕ)
bytes_at word = if is_response word then Some (bytes_of word) else None
