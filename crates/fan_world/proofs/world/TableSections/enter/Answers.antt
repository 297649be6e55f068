use Rattle.std.proofs.Common.{◌++◌}
use Rattle.fan_world.proofs.TableLemmas.{moved}
use Rattle.fan_world.proofs.world.TableSections.enter.Goals as goal

pub returns-clause-inside : goal.returns-clause-inside
returns-clause-inside c before after inside =
    moved c.enter.new.self before after c.enter.result (c.enter.ensures.inside (before ++ after) inside)

pub returns-clause-stays : goal.returns-clause-stays
returns-clause-stays c before after section marks inside shown = c.enter.ensures.stays section marks shown
