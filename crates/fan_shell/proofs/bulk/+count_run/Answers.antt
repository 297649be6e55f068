use Rattle.std.proofs.Common.{arith}
use Rattle.std.proofs.lemmas.Result.{on_ok_weaker}
use Rattle.fan_shell.proofs.BulkLemmas.{counted_none, counted_end, counted_on}
use Rattle.fan_shell.proofs.RunLemmas.{first_of}
use Rattle.fan_shell.proofs.bulk.+count_run.Goals as goal

pub returns-then-left-eq0-clause-ok : goal.returns-then-left-eq0-clause-ok
returns-then-left-eq0-clause-ok t c = λ state machine.
    counted_none c.args.left state c.args.access c.args.summary.now c.if-left-eq0.true machine

pub returns-then-ends-clause-ok : goal.returns-then-ends-clause-ok
returns-then-ends-clause-ok t c = λ state machine.
    counted_end c.args.left state c.args.access (omega arith) c.if-ends.true (c.in_ok-ends.ensures.ok state machine)

pub returns-clause-ok : goal.returns-clause-ok
returns-clause-ok t c = on_ok_weaker c.count_run.result
    (λ later state machine.
    let single = c.in_ok-ends.ensures.ok state machine in
    counted_on c.args.left state c.args.access (omega arith) c.if-ends.false single
    (later (first_of state c.args.access).world single.machine))
    c.count_run.ensures.ok
