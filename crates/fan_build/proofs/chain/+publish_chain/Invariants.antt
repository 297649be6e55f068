use Rattle.fan_rows.proofs.Walks.{room}
use Rattle.fan_build.proofs.chain.+publish_chain.Given as goal

abbrev pub decreases-publish_chain : goal.decreases-publish_chain
decreases-publish_chain g l = room (g.N.Cells.words l.rows.now) l.row
