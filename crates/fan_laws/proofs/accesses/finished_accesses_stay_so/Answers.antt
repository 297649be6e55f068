use Rattle.fan_machine.specs.Next.{after}
use Rattle.fan_laws.proofs.Numbers.{none_after, none_refused}
use Rattle.fan_laws.proofs.accesses.finished_accesses_stay_so.Goals as goal

-- src/accesses.rt
pub returns : goal.returns
returns c = λ world later number upto none.
    none_refused number (after world later) (none_after later number world upto none)
