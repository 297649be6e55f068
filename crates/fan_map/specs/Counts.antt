-- How many there are at each key of a map.
use Rattle.std.specs.Prelude.{ℕ, List}
use Rattle.std.specs.BTreeMap.{is_at}
use Rattle.std.specs.Map.{lookup}
use Rattle.std.specs.Option.{unwrap_or}
use Rattle.std.specs.Ordering.{nat_cmp}

-- the number at a key, or 0
abbrev pub number_at : List (ℕ × ℕ) → ℕ → ℕ
number_at counts key = unwrap_or (lookup (is_at (nat_cmp key)) counts) 0
