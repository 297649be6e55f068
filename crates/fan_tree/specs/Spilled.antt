-- The names that found no free cell, in each directory. No public clause cites this module.
use Rattle.std.specs.Prelude.{◌≡◌, ℕ, ◌==◌, ◌&&◌, Bool, false, List, [], Option, Some, None, map, slice_index_or}
use Rattle.std.specs.Global.{Vec}
use Rattle.std.specs.Map.{lookup}
use Rattle.std.specs.Str.{bytes_eq}

-- names in a directory, each with the number that it leads to
abbrev pub Named : Type 0
Named = List (List ℕ × ℕ)

-- the bytes of names, with their numbers
abbrev pub named : List (Vec ℕ × ℕ) → Named
named entries = map (λ entry. (entry.0.items, entry.1)) entries

-- the number that a name leads to
abbrev pub number_of : Named → List ℕ → Option ℕ
number_of names name = lookup (bytes_eq name) names

-- names in each directory, by its number, from 0 on
abbrev pub Dirs : Type 0
Dirs = List Named

-- the names in the directory with a number
abbrev pub names_in : Dirs → ℕ → Named
names_in dirs dir = slice_index_or dirs dir []

-- the number that a name leads to in the directory with a number
abbrev pub number_in : Dirs → ℕ → List ℕ → Option ℕ
number_in dirs dir name = number_of (names_in dirs dir) name

-- all names but one lead to the same numbers
pub record AreSame (name : List ℕ) (old new : Named) : Type 0 where
  pub each : (other : List ℕ) → bytes_eq name other ≡ false → number_of new other ≡ number_of old other

-- all names but one lead to the same numbers in their directories
pub record AreSameBut (dir : ℕ) (name : List ℕ) (old new : Dirs) : Type 0 where
  pub each : (other : ℕ) (word : List ℕ) → (dir == other && bytes_eq name word) ≡ false
      → number_in new other word ≡ number_in old other word

-- it is this number
abbrev pub is_number : ℕ → Option ℕ → Bool
is_number number None = false
is_number number (Some other) = other == number
