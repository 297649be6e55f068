use Rattle.std.proofs.Common.{arith}
use Rattle.fan_shell.proofs.RunLemmas.{runs_start, runs_more, runs_end, runs_out}
use Rattle.fan_shell.proofs.run.push_more.Goals as goal

pub loop-init : goal.loop-init
loop-init c = record {
  runs = λ state machine. runs_start _ c.args.out.now.items _ c.args.left state c.args.access (omega arith) machine;
  steps = omega arith;
}

pub loop-preserved : goal.loop-preserved
loop-preserved c = record {
  runs = λ state machine.
      let runs = c.loop.invariant.runs state machine in
      runs_more runs _ (omega arith) (omega arith) c.if-ends.false c.in_ok-print_text.ensures.ok
      (c.in_ok-ends.ensures.ok runs.world runs.machine);
  steps = omega (arith, c.loop.invariant.steps, c.push_answer.ensures.steps);
}

pub returns-then-ends-clause-ok : goal.returns-then-ends-clause-ok
returns-then-ends-clause-ok c = λ state machine.
    let runs = c.loop.invariant.runs state machine in
    runs_end runs (omega arith) c.if-ends.true c.in_ok-print_text.ensures.ok
    (c.in_ok-ends.ensures.ok runs.world runs.machine)

pub returns-clause-ok : goal.returns-clause-ok
returns-clause-ok c = λ state machine. runs_out (c.loop.invariant.runs state machine) (omega arith)
