use Rattle.fan_machine.specs.Run.{max_answers}
use Rattle.fan_shell.proofs.BulkLemmas.{counted_run}
use Rattle.fan_shell.proofs.bulk.count_line.Goals as goal

pub returns-in_ok-count_run-in-Run-clause-ok : goal.returns-in_ok-count_run-in-Run-clause-ok
unfolding max_answers
returns-in_ok-count_run-in-Run-clause-ok c = λ state machine.
    rw (c.in-Run.is, ← c.count_line.ensures)
    (counted_run state c.in-Run.access (c.in_ok-count_run-in-Run.ensures.ok state machine))
