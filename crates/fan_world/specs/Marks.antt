-- The marks in a book and in a table with sections, and how they change as an access begins. No public clause cites
-- this module.
use Rattle.std.specs.Prelude.{◌≡◌, ℕ, ◌+◌, ◌<◌, ◌^◌, List, [], Option, Some, None, length}
use Rattle.fan_bits.specs.declared.change.Change.{Change}
use Rattle.fan_bits.specs.declared.change.Change.TheVariants.{Clear, DropObject}
use Rattle.fan_bits.specs.declared.mark.Mark.{Mark}
use Rattle.fan_bits.specs.Marks.{retired}
use Rattle.fan_grace.specs.declared.section.Section.{Section}
use Rattle.fan_machine.specs.World.{changed_if}
use Rattle.fan_world.specs.declared.retirement.KeptBatch.{KeptBatch}
use Rattle.fan_world.specs.Sections.{HasEntered}

-- the table; the marks; how many new marks the book takes whatever memory is left; how many retired marks wait for
-- a batch, and the batch under way
pub record MarksState (S : Type 0) : Type 0 where
  pub sections : S
  pub marks : List Mark
  pub spare : ℕ
  pub waiting : ℕ
  pub batch : Option KeptBatch

-- how the marks change as an access begins: not at all; ignored sets on an object are emptied before it takes its
-- view; or the marks on an object go once it has taken it
pub data MarkEdit : Type 0 where
  Stays : MarkEdit
  Emptied : ℕ → MarkEdit
  Dropped : ℕ → MarkEdit

-- the change of marks before an access takes its view
abbrev pub first_of : MarkEdit → Option Change
first_of (Emptied object) = Some (Clear object)
first_of _ = None

-- and the change after that
abbrev pub last_of : MarkEdit → Option Change
last_of (Dropped object) = Some (DropObject object)
last_of _ = None

-- the one change of marks, if there is one
abbrev pub edit_of : MarkEdit → Option Change
edit_of Stays = None
edit_of (Emptied object) = Some (Clear object)
edit_of (Dropped object) = Some (DropObject object)

-- the marks that a change retires, if there is one
abbrev pub retired_if : Option Change → List Mark → List Mark
retired_if None marks = []
retired_if (Some change) marks = retired marks change

-- the marks changed so, around the view that a section shows which was entered
pub record HasEdited {S : Type 0} (inside : S → List Section → Type 0) (shows : S → Section → List Mark → Type 0)
    (honest : S → Type 0) (edit : MarkEdit) (old new : MarksState S) (section : Section) : Type 0 where
  pub entered : HasEntered inside shows honest old.sections new.sections section
      (changed_if (first_of edit) old.marks)
  pub marks : new.marks ≡ changed_if (edit_of edit) old.marks
  pub waiting : new.waiting ≡ old.waiting + length (retired_if (edit_of edit) old.marks)
  pub few : length (retired_if (edit_of edit) old.marks) < 2 ^ 32
  pub batch : new.batch ≡ old.batch
