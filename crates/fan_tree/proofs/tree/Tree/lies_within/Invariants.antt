use Rattle.std.proofs.Common.{◌≡◌, ◌-◌}
use Rattle.fan_tree.specs.Ancestors.{is_met}
use Rattle.fan_tree.proofs.tree.Tree.lies_within.Given as goal

-- what is met on the rest of the way is met on the whole
abbrev pub invariant-loop-step : goal.invariant-loop-step
invariant-loop-step l = is_met l.self (l.self.next - l._step) l.at l.dir ≡ is_met l.self l.self.next l.fn.inode l.dir
