use Rattle.std.proofs.Common.{◌≡◌, List, ◌-◌, length}
use Rattle.fan_access.specs.Kept.{turns_left}
use Rattle.fan_bits.specs.declared.mark.Mark.{Mark}
use Rattle.fan_access.proofs.turn.next_turn.Given as goal

-- what is left from the cursor on was left at the start
abbrev pub invariant-loop-happening : goal.invariant-loop-happening
invariant-loop-happening g l = record {
  shown : (marks : List Mark) × g.C.Connectors.shows l.connectors marks;
  same : (marks : List Mark) → g.C.Connectors.shows l.fn.connectors marks
      → g.C.Connectors.shows l.connectors marks;
  left : (marks : List Mark) → g.C.Connectors.shows l.fn.connectors marks
      → turns_left marks (g.R.Rounds.rounds l.rounds) l.fn.cursor
      ≡ turns_left marks (g.R.Rounds.rounds l.rounds) l.cursor;
}

abbrev pub decreases-loop-happening : goal.decreases-loop-happening
decreases-loop-happening g l = length (g.R.Rounds.rounds l.rounds) - l.cursor.round
