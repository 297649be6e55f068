use Rattle.std.proofs.Common.{◌∙◌, ap, ◌++◌}
use Rattle.fan_fates.proofs.History.{left_once, left_rises}
use Rattle.fan_fates.proofs.Lived.{lived}
use Rattle.fan_fates.proofs.Taking.{takes}
use Rattle.fan_fates.specs.Fates.{left}
use Rattle.fan_fates.specs.Steps.{deeds_in}
use Rattle.fan_laws.specs.Whole.{numbers_in}
use Rattle.fan_machine.specs.World.{initial_world}
use Rattle.fan_fates.proofs.entries.entries_leave_once.Goals as goal

-- src/entries.rt
pub returns-clause-leaves_once : goal.returns-clause-leaves_once
returns-clause-leaves_once c = λ steps group.
    let its = lived steps group in
    let past = deeds_in group initial_world steps in
    ap (λ queue. numbers_in (left past) ++ numbers_in queue) its.queue
    ∙ left_once past its.listener its.history

pub returns-clause-reads_rise : goal.returns-clause-reads_rise
returns-clause-reads_rise c = λ steps group.
    let its = lived steps group in left_rises (deeds_in group initial_world steps) its.listener its.history

pub returns-clause-by_read_or_close : goal.returns-clause-by_read_or_close
returns-clause-by_read_or_close c = λ world step group some. takes world step group some
