-- What the limit of later queues is. No public clause cites this module.
use Rattle.std.specs.Prelude.{ℕ, ◌≤◌}
use Rattle.fan_machine.specs.World.{max_limit}

-- a limit that a line can set
pub record IsLimit (limit : ℕ) : Type 0 where
  pub some : 1 ≤ limit
  pub most : limit ≤ max_limit
