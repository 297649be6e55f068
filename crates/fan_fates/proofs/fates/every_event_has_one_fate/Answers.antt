use Rattle.fan_fates.proofs.Coming.{came_closed, came_due, came_full, came_names, came_queued, one_deed}
use Rattle.fan_fates.proofs.History.{made_counted}
use Rattle.fan_fates.proofs.Lived.{lived}
use Rattle.fan_fates.proofs.OneFate.{has_fate}
use Rattle.fan_fates.specs.Steps.{deeds_in}
use Rattle.fan_machine.specs.World.{initial_world}
use Rattle.fan_fates.proofs.fates.every_event_has_one_fate.Goals as goal

-- src/fates.rt
pub returns-clause-one_fate : goal.returns-clause-one_fate
returns-clause-one_fate c = λ before number access perm turn found due.
    has_fate before number access perm turn found due

pub returns-clause-none_else : goal.returns-clause-none_else
returns-clause-none_else c = λ world step group event fate came. came_due world step group event fate came

pub returns-clause-named : goal.returns-clause-named
returns-clause-named c = λ world step group event fate came. came_queued world step group event fate came

pub returns-clause-numbered : goal.returns-clause-numbered
returns-clause-numbered c = λ steps group.
    let its = lived steps group in made_counted (deeds_in group initial_world steps) its.listener its.history

pub returns-clause-fresh_or_known : goal.returns-clause-fresh_or_known
returns-clause-fresh_or_known c =
    λ before step group event fate came. came_names before step group event fate came

pub returns-clause-permission : goal.returns-clause-permission
returns-clause-permission c = λ steps group. (lived steps group).history.fits.alone

pub returns-clause-closed : goal.returns-clause-closed
returns-clause-closed c = λ before step group event fate came. came_closed before step group event fate came

pub returns-clause-one_deed : goal.returns-clause-one_deed
returns-clause-one_deed c = λ world step group. one_deed world step group

pub returns-clause-full : goal.returns-clause-full
returns-clause-full c = λ before step group event fate came lost.
    came_full before step group event fate came lost
