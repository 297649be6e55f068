use Rattle.std.proofs.Common.{lit<}
use Rattle.std.proofs.lemmas.Result.{on_ok_weaker}
use Rattle.fan_machine.specs.Run.{max_answers}
use Rattle.fan_shell.proofs.RunLemmas.{first_of, all_end, all_go_on}
use Rattle.fan_shell.proofs.run.push_run.Goals as goal

pub returns-then-ends-clause-ok : goal.returns-then-ends-clause-ok
unfolding max_answers
returns-then-ends-clause-ok c = λ state machine.
    all_end 641 state c.args.access (lit< tt) c.if-ends.true (c.in_ok-ends.ensures.ok state machine)

pub returns-clause-ok : goal.returns-clause-ok
unfolding max_answers
returns-clause-ok c = on_ok_weaker c.push_more.result
    (λ later state machine.
    let single = c.in_ok-ends.ensures.ok state machine in
    all_go_on 641 state c.args.access (lit< tt) c.if-ends.false single
    (later (first_of state c.args.access).world single.machine))
    c.push_more.ensures.ok
