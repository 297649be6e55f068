use Rattle.fan_laws.proofs.Due.{due_from_reply, leaves_groups, puts_event, reply_from_due, takes_answer}
use Rattle.fan_laws.proofs.accesses.outcomes_have_causes.Goals as goal

-- src/accesses.rt
pub returns-clause-cause : goal.returns-clause-cause
returns-clause-cause c = λ world number access outcome found. (
  λ said. due_from_reply world number access outcome found said,
  λ due. reply_from_due world number access outcome found due,
)

pub returns-clause-event : goal.returns-clause-event
returns-clause-event c = λ world number access perm turn found next.
    puts_event world number access perm turn found next

pub returns-clause-answer : goal.returns-clause-answer
returns-clause-answer c = λ world number at group entry access found is.
    takes_answer world number at group entry access found is

pub returns-clause-end : goal.returns-clause-end
returns-clause-end c = λ world number access found none. leaves_groups world number access found none
