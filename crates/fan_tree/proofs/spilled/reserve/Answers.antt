use Rattle.std.proofs.Common.{◌∙◌}
use Rattle.fan_tree.proofs.SpilledLemmas.{names_padded}
use Rattle.fan_tree.proofs.spilled.reserve.Goals as goal

pub loop-alloc-preserved : goal.loop-alloc-preserved
loop-alloc-preserved c = λ other.
    rw (c.in_ok-push.ensures.items, c.new.ensures)
    (names_padded c.loop-alloc.dirs.items other ∙ c.loop-alloc.invariant other)
