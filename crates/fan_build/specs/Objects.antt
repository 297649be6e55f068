-- The part of a change on one object, and a change that is made object by object.
use Rattle.std.specs.Prelude.{◌≡◌, ℕ, ◌++◌, ◌==◌, true, List, [], ◌∷◌, All, filter, nat_lt}
use Rattle.std.specs.List.{list_any}
use Rattle.fan_bits.specs.declared.change.Change.{Change}
use Rattle.fan_bits.specs.declared.change.Change.TheVariants.{Put}
use Rattle.fan_bits.specs.declared.mark.Mark.{Mark}
use Rattle.fan_bits.specs.Marks.{changed, on}
use Rattle.fan_rows.specs.Costs.{altered}

-- the marks after a change on one object: those on it are the ones of the changed list, all others stay
unfoldable pub changed_on : List Mark → Change → ℕ → List Mark
changed_on marks change object =
    filter (λ mark. nat_lt mark.object object) marks
    ++ on object (changed marks change)
    ++ filter (λ mark. nat_lt object mark.object) marks

-- the marks after a change on each of some objects in turn
abbrev pub changed_on_all : List Mark → Change → List ℕ → List Mark
changed_on_all marks change [] = marks
changed_on_all marks change (object ∷ objects) = changed_on_all (changed_on marks change object) change objects

-- each mark that a change alters is on one of some objects
abbrev pub IsOnObjects : List Mark → Change → List ℕ → Type 0
IsOnObjects marks change objects =
    All (λ mark. list_any (λ object. object == mark.object) objects ≡ true) (altered marks (changed marks change))

-- a change other than a Put, which is made on one object anyway
abbrev pub IsNoPut : Change → Type 0
IsNoPut (Put group class words object) = ⊥
IsNoPut _ = Unit {0}
