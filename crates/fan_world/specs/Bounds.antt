-- What safety needs of the parts of the machine.
use Rattle.std.specs.Prelude.{◌≡◌, ℕ, ◌+◌, ◌*◌, ◌≤◌, ◌^◌, List, All, IfSome, Option, Some, None, length}
use Rattle.std.specs.Option.{IsSomeAnd}
use Rattle.fan_bits.specs.declared.change.Change.{Change}
use Rattle.fan_bits.specs.declared.change.Change.TheVariants.{Put}
use Rattle.fan_bits.specs.declared.class.Class.{Class}
use Rattle.fan_bits.specs.declared.mark.Mark.{Mark}
use Rattle.fan_bits.specs.Words.{class_of}
use Rattle.fan_grace.specs.declared.section.Section.{Section}
use Rattle.fan_groups.specs.Bounds.{AreBounded}
use Rattle.fan_listener.specs.Groups.{listener_at}
use Rattle.fan_listener.specs.ListenerState.{ListenerState}
use Rattle.fan_world.specs.declared.retirement.KeptBatch.{KeptBatch}
use Rattle.fan_world.specs.Machine.{PartsOver, sections_of}

-- a group is there, and was made with flags of a class
abbrev pub HasClass : List ListenerState → ℕ → Class → Type 0
HasClass groups group class =
    IsSomeAnd (listener_at groups group) (λ listener. class ≡ class_of listener.flags)

-- each mark is of a group that is there, and has its class
abbrev pub AreClassed : List ListenerState → List Mark → Type 0
AreClassed groups marks = All (λ mark. HasClass groups mark.group mark.class) marks

-- the mark that a change makes has the class of its group
abbrev pub IsClassed : List ListenerState → Change → Type 0
IsClassed groups (Put group class words object) = HasClass groups group class
IsClassed groups _ = Unit {0}

-- the same of a change that may be none
abbrev pub IsClassedIf : List ListenerState → Option Change → Type 0
IsClassedIf groups None = Unit {0}
IsClassedIf groups (Some change) = IsClassed groups change

-- all groups stay, with their flags; others may come after them
abbrev pub KeepsFlags : List ListenerState → List ListenerState → Type 0
KeepsFlags old new =
    (group : ℕ) → IfSome (listener_at old group)
    (λ listener. IsSomeAnd (listener_at new group) (λ later. later.flags ≡ listener.flags))

-- how many marks the batch under way has
abbrev pub marks_in : Option KeptBatch → ℕ
marks_in None = 0
marks_in (Some batch) = batch.marks

-- the parts after no more than so many steps: each adds a listener, an entry of one, an open access, or fewer than
-- 2^32 retired marks. The sections of the open accesses are those that are in
pub record IsSafe {S : Type 0} (inside : S → List Section → Type 0) (calls : ℕ) (parts : PartsOver S)
    : Type 0 where
  pub bounded : AreBounded calls parts.groups
  pub classed : AreClassed parts.groups parts.marks
  pub counted : parts.waiting + marks_in parts.batch ≤ calls * 2 ^ 32
  pub opened : length parts.accesses ≤ calls
  pub there : inside parts.sections (sections_of parts.accesses)
