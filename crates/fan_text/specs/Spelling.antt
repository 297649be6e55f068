-- How numbers, names, paths and bytes are spelled in a line.
use Rattle.std.specs.Prelude.{◌≡◌, ◌≢◌, ℕ, ◌+◌, ◌/◌, ◌%◌, ◌<◌, ◌≤◌, ◌^◌, false, List, [], ◌∷◌, ◌++◌, length, codes, All, nat_lt, if◌then◌else◌}
use Rattle.std.specs.Fmt.{decimal, digits}

-- a decimal without leading zeros, of a number below 2^64
abbrev pub SpellsDecimal : List ℕ → ℕ → Type 0
SpellsDecimal word number = (word ≡ decimal number) × (number < 2 ^ 64)

-- a number in hexadecimal digits in lower case, without leading zeros
abbrev pub hex : ℕ → List ℕ
hex number = digits 16 false number

-- such a spelling of a number below 2^64
abbrev pub SpellsHex : List ℕ → ℕ → Type 0
SpellsHex word number = (word ≡ hex number) × (number < 2 ^ 64)

-- a byte of a name: visible ASCII, and no slash
abbrev pub IsNameByte : ℕ → Type 0
IsNameByte byte = (33 ≤ byte) × (byte ≤ 126) × (byte ≢ 47)

-- the name of a file in its directory
pub record IsName (name : List ℕ) : Type 0 where
  pub some : 1 ≤ length name
  pub most : length name ≤ 255
  pub bytes : All IsNameByte name
  pub not_dot : name ≢ codes "."
  pub not_dots : name ≢ codes ".."

-- names, each behind a slash
abbrev pub joined : List (List ℕ) → List ℕ
joined [] = []
joined (name ∷ names) = 47 ∷ (name ++ joined names)

-- a slash alone, or names each behind a slash, 4,095 bytes at most
pub record IsPath (path : List ℕ) : Type 0 where
  pub names : List (List ℕ)
  pub each : All IsName names
  pub spelled : path ≡ (if nat_lt 0 (length names) then joined names else 47 ∷ [])
  pub most : length path ≤ 4095

-- a hexadecimal digit in lower case
abbrev pub hex_digit : ℕ → ℕ
hex_digit value = if nat_lt value 10 then 48 + value else 87 + value

-- two digits for each byte
abbrev pub hex_text : List ℕ → List ℕ
hex_text [] = []
hex_text (byte ∷ bytes) = (hex_digit (byte / 16) ∷ hex_digit (byte % 16) ∷ []) ++ hex_text bytes

-- one to 64 bytes
pub record IsResponse (bytes : List ℕ) : Type 0 where
  pub some : 1 ≤ length bytes
  pub most : length bytes ≤ 64
  pub each : All (λ byte. byte < 256) bytes

-- such bytes in hexadecimal digits
abbrev pub SpellsBytes : List ℕ → List ℕ → Type 0
SpellsBytes word bytes = (word ≡ hex_text bytes) × IsResponse bytes
