use Rattle.fan_machine.specs.Next.{after}
use Rattle.fan_machine.specs.World.{initial_world}
use Rattle.fan_laws.proofs.Freed.{reclaims_free, reclaims_later}
use Rattle.fan_laws.proofs.Reclaimed.{counts_reclaimed, nothing_pending, reclaims_all, waits_on}
use Rattle.fan_laws.proofs.reclaiming.marks_are_reclaimed_once.Goals as goal

-- src/reclaiming.rt
pub returns-clause-once : goal.returns-clause-once
returns-clause-once c = λ steps. reclaims_all steps initial_world

pub returns-clause-counted : goal.returns-clause-counted
returns-clause-counted c = λ world. counts_reclaimed world

pub returns-clause-not_by_its_start : goal.returns-clause-not_by_its_start
returns-clause-not_by_its_start c = λ world. waits_on world

pub returns-clause-all : goal.returns-clause-all
returns-clause-all c = λ world none. nothing_pending world none

pub returns-clause-free : goal.returns-clause-free
returns-clause-free c = λ steps number access found. reclaims_free steps number access found

pub returns-clause-later : goal.returns-clause-later
returns-clause-later c = λ before during batch was is later.
    reclaims_later before (after (after initial_world before) during) batch was is later
