use Rattle.std.proofs.Common.{◌+◌, ◌-◌, ◌≤◌, ◌^◌, length, vec_len}
use Rattle.fan_tree.specs.Entries.{ArePadded}
use Rattle.fan_tree.proofs.entries.Entries.reserve.Given as goal

-- empty slots come behind the others
abbrev pub invariant-loop-self : goal.invariant-loop-self
invariant-loop-self l =
    ArePadded l.initial.self-inside.slots.items l.self-inside.slots.items
    × (length l.self-inside.slots.items ≤ 2 ^ 32)

abbrev pub decreases-loop-self : goal.decreases-loop-self
decreases-loop-self l = l.number + 1 - vec_len l.self-inside.slots
