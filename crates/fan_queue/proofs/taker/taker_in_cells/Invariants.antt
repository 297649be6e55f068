use Rattle.std.proofs.Common.{◌≡◌, ◌<◌, ℕ, false, get_or}
use Rattle.fan_queue.specs.declared.cells.Cell.{Cell}
use Rattle.fan_queue.specs.Table.{number_takes}
use Rattle.fan_queue.proofs.taker.taker_in_cells.Given as goal

abbrev pub invariant-loop-cell : goal.invariant-loop-cell
invariant-loop-cell l = (k : ℕ) (d : Cell) → k < l.cell-index → (get_or l.cells k d).tag ≡ l.tag
    → number_takes l.entries.items l.event (get_or l.cells k d).number ≡ false
