use Rattle.std.proofs.Common.{◌≡◌}
use Rattle.fan_grace.proofs.tests.shown.Given as goal

-- the table stays
abbrev pub invariant-marks : goal.invariant-marks
invariant-marks l = l.table ≡ l.fn.table
