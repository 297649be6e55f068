use Rattle.std.proofs.Common.{refl}
use Rattle.fan_machine.specs.Accesses.{op_of}
use Rattle.fan_machine.specs.Next.{after}
use Rattle.fan_machine.specs.World.{initial_world}
use Rattle.fan_laws.proofs.Numbers.{numbered_after, numbered_at_first}
use Rattle.fan_laws.proofs.Deeds.{deed_is}
use Rattle.fan_laws.proofs.Ordered.{begun_is, does_deed, found_begun, marks_begun, runs_begun}
use Rattle.fan_laws.proofs.accesses.accesses_ask_then_tell.Goals as goal

-- src/accesses.rt
pub returns-clause-does : goal.returns-clause-does
returns-clause-does c = λ world number pid tid word path second done.
    does_deed world number pid tid word path second done

pub returns-clause-begins : goal.returns-clause-begins
returns-clause-begins c = λ world number begin. found_begun world number begin

pub returns-clause-order : goal.returns-clause-order
returns-clause-order c = λ before later number begin.
    (runs_begun (after initial_world before) number begin later
    (numbered_after before initial_world numbered_at_first)).ahead

pub returns-clause-marks : goal.returns-clause-marks
returns-clause-marks c = λ world number begin. marks_begun world number begin

pub returns-clause-spots : goal.returns-clause-spots
returns-clause-spots c = λ world number begin.
    (deed_is world (op_of begin.word) begin.path begin.second begin.deed begin.does).spots

pub returns-clause-tree : goal.returns-clause-tree
returns-clause-tree c = λ world number begin. rw (begun_is world number begin).is refl

pub returns-clause-others : goal.returns-clause-others
returns-clause-others c = λ world number begin.
    rw (begun_is world number begin).is (refl, refl, refl)

pub returns-clause-same : goal.returns-clause-same
returns-clause-same c = λ before later number begin.
    (runs_begun (after initial_world before) number begin later
    (numbered_after before initial_world numbered_at_first)).still
