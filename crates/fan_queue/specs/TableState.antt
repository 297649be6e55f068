-- What a table of keys holds. No public clause cites this module.
use Rattle.std.specs.Prelude.{List}
use Rattle.fan_queue.specs.declared.cells.Group.{Group}
use Rattle.fan_queue.specs.Keys.{KeySet}

-- its groups of cells, and the keys that found their group full
pub record TableState : Type 0 where
  pub groups : List Group
  pub spilled : KeySet
