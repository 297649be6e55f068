use Rattle.std.proofs.Common.{◌≡◌, ◌≤◌, ◌+◌, ◌-◌, ◌*◌, List, ◌++◌}
use Rattle.fan_bulk.specs.Lines.{bulk_lines, rounds}
use Rattle.fan_script.specs.declared.line.Line.{Line}
use Rattle.fan_shell.specs.Bulk.{IsPlayed}
use Rattle.fan_shell.proofs.bulk.summarize.Given as goal

-- the lines so far were played, and with those of the rounds that are left they are all lines
abbrev pub invariant-loop : goal.invariant-loop
invariant-loop l = record {
  done : List Line;
  played : IsPlayed l.world l.summary done;
  whole : done ++ rounds (l.count - l.counter) l.rounds ≡ bulk_lines l.seed l.count;
  steps : l.world.steps ≤ 641 * (18 + 8 * l.counter);
  replies : l.summary.replies ≤ l.world.steps;
  lines : l.summary.lines ≤ 18 + 8 * l.counter;
  access : l.rounds.access ≡ l.counter + 1;
}
