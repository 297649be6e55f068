use Rattle.std.proofs.Common.{◌≡◌}
use Rattle.fan_world_tests.proofs.histories.show_section.Given as goal

-- the book and the table stay
abbrev pub invariant-objects : goal.invariant-objects
invariant-objects g l = l.both ≡ l.fn.both
