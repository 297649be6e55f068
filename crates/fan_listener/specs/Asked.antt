-- Permission events without a verdict, and where they are kept. No public clause cites this module.
use Rattle.std.specs.Prelude.{◌≡◌, ℕ, List, [], All, Option, Some, None}
use Rattle.std.specs.Box.{box_value}
use Rattle.std.specs.Global.{Box}
use Rattle.fan_slots.specs.SlotsState.{SlotsState}
use Rattle.fan_listener.specs.declared.answers.Pending.{Pending}

-- what a listener sees of them: in the order of their descriptors, and how many more can come without memory
pub record AskedState : Type 0 where
  pub events : List Pending
  pub spare : ℕ

-- the descriptor of an event
abbrev pub fd_of : Pending → ℕ
fd_of pending = pending.fd

-- what stands in slots, if there are some
abbrev pub entries_in : Option (Box (SlotsState Pending)) → List (ℕ × Pending)
entries_in None = []
entries_in (Some slots) = (box_value slots).entries

-- how many more they take without memory
abbrev pub spare_in : Option (Box (SlotsState Pending)) → ℕ
spare_in None = 0
spare_in (Some slots) = (box_value slots).spare

-- each stands under its descriptor
abbrev pub AreUnderOwn : List (ℕ × Pending) → Type 0
AreUnderOwn entries = All (λ entry. entry.0 ≡ fd_of entry.1) entries
