-- The open accesses as they are kept, and what a single step makes of them.
use Rattle.std.specs.Prelude.{◌≡◌, ℕ, ◌≤◌, ◌==◌, Bool, List, All, count_by, length, if◌then◌else◌}
use Rattle.std.specs.BTreeMap.{is_at}
use Rattle.std.specs.Map.{keys_of, remove_entry, set_value, values_of}
use Rattle.std.specs.Ordering.{nat_cmp}
use Rattle.fan_access.specs.Access.{Stepped}
use Rattle.fan_access.specs.Kept.{IsAccess, KeptAccess}
use Rattle.fan_access.specs.Operations.{first_mount}
use Rattle.fan_bits.specs.declared.mark.Mark.{Mark}
use Rattle.fan_bits.specs.declared.outcome.StepOutcome.{StepOutcome}
use Rattle.fan_bits.specs.Outcomes.{ends_access}
use Rattle.fan_grace.specs.declared.section.Section.{Section}
use Rattle.fan_listener.specs.ListenerState.{ListenerState}
use Rattle.fan_world.specs.declared.open_accesses.OpenAccess.{OpenAccess}
use Rattle.fan_map.specs.Counts.{number_at}

-- the open accesses by their numbers, the greatest number that an access had, and how many accesses can begin
-- whatever memory is left
pub record OpenState : Type 0 where
  pub entries : List (ℕ × OpenAccess)
  pub last : ℕ
  pub spare : ℕ

-- an open access was begun through a mount
abbrev pub is_through : ℕ → OpenAccess → Bool
is_through mount begun = first_mount begun.access.spots == mount

-- how many were begun through a mount
abbrev pub count_through : List (ℕ × OpenAccess) → ℕ → ℕ
count_through entries mount = count_by (is_through mount) (values_of entries)

-- no number is above the last one, and so there are no more accesses than that; the counts are right
pub record AreCounted (entries : List (ℕ × OpenAccess)) (through : List (ℕ × ℕ)) (last : ℕ) : Type 0 where
  pub begun : All (λ number. number ≤ last) (keys_of entries)
  pub few : length entries ≤ last
  pub counts : (mount : ℕ) → number_at through mount ≡ count_through entries mount

-- what is left of the open accesses after a step of one: it goes where the outcome ends it, else it stays in its
-- place
abbrev pub kept_after : ℕ → StepOutcome → OpenAccess → List (ℕ × OpenAccess) → List (ℕ × OpenAccess)
kept_after number outcome next accesses =
    if ends_access outcome then remove_entry (is_at (nat_cmp number)) accesses
    else set_value (is_at (nat_cmp number)) accesses next

-- the open access with a number, which goes by a section with these marks, did a step: outcome, listeners and the
-- access that is kept afterwards are those of this step
pub record HasStepped (number : ℕ) (section : Section) (marks : List Mark) (stepped : Stepped)
    (outcome : StepOutcome) (groups : List ListenerState) (old new : List (ℕ × OpenAccess)) : Type 0 where
  pub answers : outcome ≡ stepped.outcome
  pub listeners : groups ≡ stepped.groups
  pub next : KeptAccess
  pub goes_on : IsAccess marks next stepped.access
  pub accesses : new ≡ kept_after number stepped.outcome (record { access = next; section = section }) old
