-- What a set of objects has.
use Rattle.std.specs.Prelude.{ℕ, Bool, false, List, slice_index_or}

-- an object is in the set whose flags stand by the numbers of objects
abbrev pub has : List Bool → ℕ → Bool
has flags object = slice_index_or flags object false
