use Rattle.std.proofs.Common.{◌≡◌, ◌^◌, ◌*◌, ◌-◌, List}
use Rattle.fan_bits.specs.declared.mark.Mark.{Mark}
use Rattle.fan_bits.specs.Interest.{next_interest}
use Rattle.fan_decide.proofs.interest.next_interest.Given as goal

abbrev pub invariant-loop-interest : goal.invariant-loop-interest
invariant-loop-interest g l = record {
  shown : (marks : List Mark) × g.C.Connectors.shows l.connectors marks;
  same : (marks : List Mark) → g.C.Connectors.shows l.fn.connectors marks
      → g.C.Connectors.shows l.connectors marks;
  passed : (marks : List Mark) → g.C.Connectors.shows l.fn.connectors marks
      → next_interest marks l.happening l.fn.after.0 ≡ next_interest marks l.happening l.behind.0;
}

abbrev pub decreases-loop-interest : goal.decreases-loop-interest
decreases-loop-interest g l = 3 * 2 ^ 32 - l.behind.0
