-- What an index of mounts keeps beside its entries. No public clause cites this.
use Rattle.std.specs.Prelude.{◌≡◌, ℕ, Bool, false, List, None}
use Rattle.fan_seen.specs.Seen.{has}
use Rattle.fan_mounts.specs.Pairs.{Entries, IsTurned, standing}

-- the same mounts by their directories first; and a directory on which one stands was seen
pub record IsIndex (by_point by_dir : Entries) (dirs : List Bool) : Type 0 where
  pub turned : IsTurned (standing by_point) (standing by_dir)
  pub seen : (mount dir : ℕ) → has dirs dir ≡ false → standing by_point mount dir ≡ None
