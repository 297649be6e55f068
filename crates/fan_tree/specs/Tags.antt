-- A hash of the name of an entry and of its directory. No public clause cites this module.
use Rattle.std.specs.Prelude.{ℕ, ◌+◌, ◌*◌, ◌/◌, ◌%◌, ◌^◌, List, fold}
use Rattle.std.specs.Int.RustNames.{bit_xor}

-- a round of FNV-1a with 64 bits
abbrev pub name_round : ℕ → ℕ → ℕ
name_round hash byte = (bit_xor hash byte * 1099511628211) % 2 ^ 64

-- the hash of a directory and of the bytes of a name
abbrev pub name_hash : ℕ → List ℕ → ℕ
name_hash dir name = fold name_round (14695981039346656037 + dir) name

-- the upper half of a product that spreads hashes
unfoldable pub name_tag : ℕ → List ℕ → ℕ
name_tag dir name = (name_hash dir name * 11400714819323198485) % 2 ^ 64 / 2 ^ 32
