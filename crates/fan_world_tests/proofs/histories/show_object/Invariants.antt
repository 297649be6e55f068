use Rattle.std.proofs.Common.{◌≡◌}
use Rattle.fan_world_tests.proofs.histories.show_object.Given as goal

-- the book and the table stay
abbrev pub invariant-marks : goal.invariant-marks
invariant-marks g l = l.both ≡ l.fn.both
