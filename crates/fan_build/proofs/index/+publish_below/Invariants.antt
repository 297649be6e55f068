use Rattle.fan_build.proofs.index.+publish_below.Given as goal

abbrev pub decreases-publish_below : goal.decreases-publish_below
decreases-publish_below g l = l.depth
