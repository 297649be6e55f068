use Rattle.std.proofs.Common.{◌≡◌, ℕ, None, length}
use Rattle.std.specs.List.Sorted.{IsStrictlySortedBy}
use Rattle.std.specs.Map.{keys_of}
use Rattle.std.specs.Ordering.{nat_cmp}
use Rattle.std.specs.Prelude.{All}
use Rattle.fan_listener.specs.Responses.{verdict_on}
use Rattle.fan_listener.specs.Stored.{answers_in, rooms_of}
use Rattle.fan_listener.proofs.rooms.forget_all.Given as goal

-- the verdicts stay, and none was given on an event that is left
abbrev pub invariant-loop-pending : goal.invariant-loop-pending
invariant-loop-pending l = record {
  verdicts : answers_in l.rooms.entries ≡ answers_in l.fn.rooms.entries;
  unused : (entry : ℕ) → rooms_of l.fn.rooms.entries entry ≡ None
      → rooms_of l.rooms.entries entry ≡ None;
  sorted : IsStrictlySortedBy nat_cmp (keys_of l.rooms.entries);
  waiting : All (λ p. verdict_on p.entry (answers_in l.fn.rooms.entries) ≡ None) l.asked.events;
}

abbrev pub decreases-loop-pending : goal.decreases-loop-pending
decreases-loop-pending l = length l.asked.events
