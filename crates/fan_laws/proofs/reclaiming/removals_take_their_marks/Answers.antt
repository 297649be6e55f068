use Rattle.fan_laws.proofs.Removals.{takes_marks}
use Rattle.fan_laws.proofs.reclaiming.removals_take_their_marks.Goals as goal

-- src/reclaiming.rt
pub returns : goal.returns
returns c = λ world number begin removal. takes_marks world number begin removal
