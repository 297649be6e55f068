-- Lists of rows, and how often a row stands in them.
use Rattle.std.proofs.Common.{ℕ, ◌<◌, List, [], ◌∷◌, ◌++◌, arith}
use Rattle.fan_rows.specs.Rows.{times}
use Rattle.fan_rows.proofs.Chains.{times_append, times_first}

-- a row counts in a list that ends with it
pub times_last : (row : ℕ) (rows : List ℕ) → 0 < times row (rows ++ row ∷ [])
times_last row rows = omega (arith, times_append row rows (row ∷ []), times_first row [])
