use Rattle.std.proofs.Common.{◌≤◌, ◌+◌, ◌*◌, length}
use Rattle.fan_shell.proofs.PlayLemmas.{Leads}
use Rattle.fan_shell.proofs.script.gather_lines.Given as goal

-- what was put, and then what is gathered, is what the lines so far print; each line has four bytes and makes
-- 641 steps at most
abbrev pub invariant-loop-rest : goal.invariant-loop-rest
invariant-loop-rest g l = record {
  leads : Leads (g.K.Sink.held l.fn.sink) (g.K.Sink.held l.sink) l.blocks.gathered l.script l.rest l.world l.number;
  steps : 4 * l.world.steps + 641 * length l.rest ≤ 641 * length l.script;
  numbers : l.number + length l.rest ≤ length l.script + 1;
  later : g.K.Sink.faults l.fn.sink ≤ g.K.Sink.faults l.sink;
}

abbrev pub decreases-loop-rest : goal.decreases-loop-rest
decreases-loop-rest g l = length l.rest
