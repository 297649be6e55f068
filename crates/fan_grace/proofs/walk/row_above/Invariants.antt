use Rattle.std.proofs.Common.{◌≡◌, List}
use Rattle.fan_rows.specs.Trees.{IsChain, Link, first_row}
use Rattle.fan_rows.proofs.Walks.{room}
use Rattle.fan_grace.specs.Hints.{StandsAt}
use Rattle.fan_grace.proofs.walk.row_above.Given as goal

-- all marks that were passed are within the order
abbrev pub invariant-loop-row : goal.invariant-loop-row
invariant-loop-row g l = record {
  words : g.C.Cells.words l.cells ≡ g.C.Cells.words l.fn.cells;
  rows : g.C.Cells.rows l.cells ≡ g.C.Cells.rows l.fn.cells;
  stands : (links : List Link) → IsChain (g.C.Cells.words l.fn.cells) links → first_row links ≡ l.fn.first
      → StandsAt links l.fn.after.0 l.row;
}

abbrev pub decreases-loop-row : goal.decreases-loop-row
decreases-loop-row g l = room (g.C.Cells.words l.fn.cells) l.row
