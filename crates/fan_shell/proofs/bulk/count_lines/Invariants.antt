use Rattle.std.proofs.Common.{◌≡◌, ◌≤◌, ◌+◌, ◌*◌, List, ◌++◌, take}
use Rattle.fan_script.specs.declared.line.Line.{Line}
use Rattle.fan_shell.specs.Bulk.{IsPlayed}
use Rattle.fan_shell.proofs.bulk.count_lines.Given as goal

-- the lines so far were played behind others; each makes 641 steps at most
abbrev pub invariant-loop-line : goal.invariant-loop-line
invariant-loop-line l = record {
  played : (done : List Line) → IsPlayed l.fn.world l.fn.summary done
      → IsPlayed l.world l.summary (done ++ take l.line-index l.lines);
  steps : l.world.steps ≤ l.fn.world.steps + 641 * l.line-index;
  replies : l.summary.replies ≤ l.world.steps;
  lines : l.summary.lines ≡ l.fn.summary.lines + l.line-index;
}
