use Rattle.fan_rows.proofs.Walks.{room}
use Rattle.fan_build.proofs.needed.+needed_chain.Given as goal

abbrev pub decreases-needed_chain : goal.decreases-needed_chain
decreases-needed_chain g l = room (g.C.Cells.words l.cells.now) l.row
