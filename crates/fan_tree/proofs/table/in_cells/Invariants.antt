use Rattle.std.proofs.Common.{◌≡◌, ◌<◌, ℕ, false, get_or}
use Rattle.fan_tree.specs.declared.cells.Cell.{Cell}
use Rattle.fan_tree.specs.Entries.{leads}
use Rattle.fan_tree.proofs.table.in_cells.Given as goal

-- no cell before this one has the number of the name
abbrev pub invariant-loop-cell : goal.invariant-loop-cell
invariant-loop-cell l = (k : ℕ) (d : Cell) → k < l.cell-index → (get_or l.cells k d).tag ≡ l.tag
    → leads l.entries l.dir l.name (get_or l.cells k d).number ≡ false
