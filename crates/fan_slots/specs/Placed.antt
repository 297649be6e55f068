-- Where the values are kept. No public clause cites this module.
use Rattle.std.specs.Prelude.{◌≡◌, ◌≢◌, ⊤, ℕ, true, List, [], ◌∷◌, ◌++◌, Option, Some, None, is_some}
use Rattle.slab.specs.Slab.{Slab, get}

-- the value of a slot, under a number
abbrev pub held : {X : Type 0} → ℕ → Option X → List (ℕ × X)
held number None = []
held number (Some value) = (number, value) ∷ []

-- what the slots hold, in the order of the numbers
abbrev pub in_slots : {X : Type 0} → Slab X → List (ℕ × ℕ) → List (ℕ × X)
in_slots slots [] = []
in_slots slots (place ∷ places) = held place.0 (get slots place.1) ++ in_slots slots places

-- no number leads to this slot
abbrev pub AreElsewhere : ℕ → List (ℕ × ℕ) → Type 0
AreElsewhere slot [] = ⊤
AreElsewhere slot (place ∷ places) = (place.1 ≢ slot) × AreElsewhere slot places

-- each number leads to a slot that holds a value, and no other number leads there
abbrev pub ArePlaced : {X : Type 0} → Slab X → List (ℕ × ℕ) → Type 0
ArePlaced slots [] = ⊤
ArePlaced slots (place ∷ places) =
    (is_some (get slots place.1) ≡ true) × (AreElsewhere place.1 places × ArePlaced slots places)
