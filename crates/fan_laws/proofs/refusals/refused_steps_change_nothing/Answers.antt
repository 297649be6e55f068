use Rattle.fan_laws.proofs.Forms.{refused_same}
use Rattle.fan_laws.proofs.refusals.refused_steps_change_nothing.Goals as goal

-- src/refusals.rt
pub returns : goal.returns
returns c = λ world step errno is. refused_same world step errno is
