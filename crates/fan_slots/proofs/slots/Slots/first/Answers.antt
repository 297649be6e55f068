use Rattle.std.proofs.Common.{◌∙◌, ℕ, List, Option, sym, subst, option_map, slice_get}
use Rattle.std.specs.List.Sorted.{IsStrictlySortedBy}
use Rattle.std.specs.Ordering.{nat_cmp}
use Rattle.fan_slots.proofs.Placing.{first-in_slots, keys_of-in_slots}
use Rattle.fan_slots.proofs.slots.Slots.first.Goals as goal

-- the number of the first place
abbrev first_of : List (ℕ × ℕ) → Option ℕ
first_of places = option_map (λ place. place.0) (slice_get places 0)

pub returns-clause-least : goal.returns-clause-least
returns-clause-least g c =
    let inside = c.self.inside in
    rw (← c.self.view_is) (c.first.ensures.least
    ∙ sym (first-in_slots inside.slots inside.places.entries c.self.invariant))

pub returns-clause-sorted : goal.returns-clause-sorted
returns-clause-sorted g c =
    let inside = c.self.inside in
    rw (← c.self.view_is) (subst (IsStrictlySortedBy nat_cmp)
    (sym (keys_of-in_slots inside.slots inside.places.entries c.self.invariant)) c.first.ensures.sorted)
