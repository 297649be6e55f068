use Rattle.fan_grace.proofs.Numbers.{given_more}
use Rattle.fan_grace.proofs.stored.StoredRowsNewRows.fresh.Goals as goal

pub returns-clause-given : goal.returns-clause-given
returns-clause-given c = rw (← c.self.view_is) (given_more c.self.inside.next c.self.invariant.0.above)
