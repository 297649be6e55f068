-- Slots by number. No public clause cites this module.
use Rattle.std.specs.Prelude.{ℕ, ◌+◌, List, [], ◌∷◌, Option, Some, None}

-- what stands in slots, whose numbers count up from the first one's; an empty slot has nothing
abbrev pub in_slots : {A B : Type 0} → (ℕ → A → B) → ℕ → List (Option A) → List B
in_slots make number [] = []
in_slots make number (None ∷ more) = in_slots make (number + 1) more
in_slots make number (Some one ∷ more) = make number one ∷ in_slots make (number + 1) more
