use Rattle.std.proofs.Common.{◌≡◌, List}
use Rattle.fan_rows.specs.Trees.{IsChain, Link, first_row}
use Rattle.fan_rows.proofs.Walks.{Along, room}
use Rattle.fan_rows.proofs.walk.first_above.Given as goal

-- no mark was found on the way
abbrev pub invariant-loop-row : goal.invariant-loop-row
invariant-loop-row g l = record {
  words : g.C.Cells.words l.cells ≡ g.C.Cells.words l.fn.cells;
  rows : g.C.Cells.rows l.cells ≡ g.C.Cells.rows l.fn.cells;
  along : (links : List Link) → IsChain (g.C.Cells.words l.fn.cells) links → first_row links ≡ l.fn.first
      → Along (g.C.Cells.words l.fn.cells) l.row l.fn.after.0 links;
}

abbrev pub decreases-loop-row : goal.decreases-loop-row
decreases-loop-row g l = room (g.C.Cells.words l.fn.cells) l.row
