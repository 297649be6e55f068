use Rattle.fan_mounts.proofs.FirstNumbers.{same_pair}
use Rattle.fan_mounts.proofs.index.take.Goals as goal

pub returns : goal.returns
returns c = λ a b.
    rw (← (same_pair (c.args.first, c.args.second) (a, b)))
    (c.remove.ensures.updates.0 (a, b))
