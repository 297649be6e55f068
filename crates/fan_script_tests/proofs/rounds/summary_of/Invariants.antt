use Rattle.std.proofs.Common.{◌≤◌}
use Rattle.fan_script_tests.proofs.rounds.summary_of.Given as goal

abbrev pub invariant-loop-reply : goal.invariant-loop-reply
invariant-loop-reply l = l.summary.replies ≤ l.reply-index
