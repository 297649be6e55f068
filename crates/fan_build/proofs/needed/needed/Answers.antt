use Rattle.std.proofs.Common.{ap}
use Rattle.fan_build.specs.declared.effect.Effect.{Effect}
use Rattle.fan_build.proofs.needed.needed.Goals as goal

pub returns-clause-number : goal.returns-clause-number
returns-clause-number g c = λ tree lies is.
    ap (λ (effect : Effect). effect.taken) (c.needed_below.ensures.effect tree lies is)
