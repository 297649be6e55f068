-- What callers see of values by number.
use Rattle.std.specs.Prelude.{ℕ, List}

-- the values by their numbers, in the order of the numbers, and how many more can come without memory
pub record SlotsState (X : Type 0) : Type 0 where
  pub entries : List (ℕ × X)
  pub spare : ℕ
