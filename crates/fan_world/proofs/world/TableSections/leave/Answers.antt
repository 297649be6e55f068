use Rattle.fan_world.proofs.world.TableSections.leave.Goals as goal

pub returns-clause-stays : goal.returns-clause-stays
returns-clause-stays c before after inside front back other marks is shown = c.leave.ensures.stays other marks shown
