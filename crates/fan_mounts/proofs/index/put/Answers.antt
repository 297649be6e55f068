use Rattle.fan_mounts.proofs.FirstNumbers.{same_pair}
use Rattle.fan_mounts.proofs.index.put.Goals as goal

pub returns-clause-ok : goal.returns-clause-ok
returns-clause-ok c = λ a b.
    rw (← (same_pair (c.args.first, c.args.second) (a, b)))
    (c.in_ok-insert.ensures.updates.0 (a, b))
