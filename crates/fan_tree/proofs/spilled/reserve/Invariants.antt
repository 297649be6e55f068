use Rattle.std.proofs.Common.{◌≡◌, ℕ, ◌+◌, ◌-◌, vec_len}
use Rattle.fan_tree.specs.Spilled.{names_in}
use Rattle.fan_tree.proofs.spilled.reserve.Given as goal

-- directories without names come behind the others
abbrev pub invariant-loop-alloc : goal.invariant-loop-alloc
invariant-loop-alloc l = (other : ℕ) → names_in l.dirs.items other ≡ names_in l.fn.dirs.items other

abbrev pub decreases-loop-alloc : goal.decreases-loop-alloc
decreases-loop-alloc l = l.dir + 1 - vec_len l.dirs
