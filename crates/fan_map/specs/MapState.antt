-- What callers see of a map with room ahead.
use Rattle.std.specs.Prelude.{ℕ, List}

-- a map: its entries in the order of their keys, and how many more it takes without memory
pub record MapState (K X : Type 0) : Type 0 where
  pub entries : List (K × X)
  pub spare : ℕ
