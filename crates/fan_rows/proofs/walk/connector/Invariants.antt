use Rattle.std.proofs.Common.{◌≡◌}
use Rattle.fan_rows.specs.Trees.{Lies, Tree, chain_at, digits, top}
use Rattle.fan_rows.proofs.Walks.{Led}
use Rattle.fan_rows.proofs.walk.connector.Given as goal

-- the more significant digits were followed
abbrev pub invariant-loop-place : goal.invariant-loop-place
invariant-loop-place g l = record {
  words : g.C.Cells.words l.cells ≡ g.C.Cells.words l.fn.cells;
  rows : g.C.Cells.rows l.cells ≡ g.C.Cells.rows l.fn.cells;
  led : (tree : Tree) → Lies (g.C.Cells.words l.fn.cells) tree 8 → top tree ≡ l.fn.root
      → Led (g.C.Cells.words l.fn.cells) l.row l.place l.fn.object (chain_at tree (digits l.fn.object));
}

abbrev pub decreases-loop-place : goal.decreases-loop-place
decreases-loop-place g l = l.place
