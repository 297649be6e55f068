-- What is remembered of the last search. No public clause cites this module.
use Rattle.std.specs.Prelude.{◌≡◌, ⊤, ℕ, List, Option, Some, None}
use Rattle.std.specs.BTreeMap.{is_at}
use Rattle.std.specs.Map.{lookup}
use Rattle.std.specs.Ordering.{nat_cmp}
use Rattle.fan_slots.specs.declared.places.Place.{Place}

-- the place that is remembered, if one is, is that of its number
abbrev pub IsSeen : Option Place → List (ℕ × ℕ) → Type 0
IsSeen None places = ⊤
IsSeen (Some place) places = lookup (is_at (nat_cmp place.number)) places ≡ Some place.slot
