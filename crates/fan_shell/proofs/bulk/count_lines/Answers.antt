use Rattle.std.proofs.Common.{arith}
use Rattle.fan_shell.proofs.BulkLemmas.{played_line}
use Rattle.fan_shell.proofs.bulk.count_lines.Goals as goal

pub loop-line-preserved : goal.loop-line-preserved
loop-line-preserved c =
    let was = c.loop-line.invariant in
    let now = c.in_ok-count_line.ensures in
    record {
      played = λ done before.
          played_line done c.args.lines.now c.loop-line.line-index c.line-item.result
          c.loop-line-test.true c.line-item.is (was.played done before) now.ok;
      steps = omega (arith, was.steps, now.steps);
      replies = now.replies;
      lines = omega (arith, was.lines, now.lines);
    }
