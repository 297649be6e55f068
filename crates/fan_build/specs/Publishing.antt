-- What a change of rows asks for, and what it does to rows: docs/FORMATS.md, "Rows".
use Rattle.std.specs.Prelude.{◌≡◌, ℕ, ◌+◌, ◌*◌, ◌<◌, ◌≤◌, List, ◌++◌, Option, drop, length}
use Rattle.fan_bits.specs.declared.change.Change.{Change}
use Rattle.fan_bits.specs.declared.mark.Mark.{Mark}
use Rattle.fan_bits.specs.Marks.{IsChange, IsMarkList, changed}
use Rattle.fan_rows.specs.Rows.{Rows, times}
use Rattle.fan_rows.specs.Trees.{Lies, Pictures, Tree, rows_of, top}
use Rattle.fan_build.specs.Needs.{needed_between}
use Rattle.fan_build.specs.Objects.{changed_on}

-- the rows that are reached from a root, each as often as it is; there is one such list at most
abbrev pub Reaches : (ℕ → Option ℕ) → ℕ → List ℕ → Type 0
Reaches words root rows = (tree : Tree) × Lies words tree 8 × (top tree ≡ root) × (rows_of tree ≡ rows)

-- a change can be made of a list of marks that is pictured from a root: a Put has its numbers in their ranges,
-- and the class of its group's marks
pub record CanChange (words : ℕ → Option ℕ) (root : ℕ) (marks : List Mark) (change : Change) : Type 0 where
  pub pictured : Pictures words root marks
  pub list : IsMarkList marks
  pub allowed : IsChange marks change

-- and the rows that are taken for the list after it are free; no row is in two of the rows that are reached,
-- those that are free and those that were given up, or twice in one
pub record CanMake (words : ℕ → Option ℕ) (rows : Rows) (root : ℕ) (marks : List Mark) (change : Change)
    (after : List Mark) : Type 0 where
  pub possible : CanChange words root marks change
  pub enough : needed_between marks after ≤ length rows.free
  pub apart : (reached : List ℕ) → Reaches words root reached
      → (row : ℕ) → times row reached + times row rows.free + times row rows.retired ≤ 1

-- a change can be made
abbrev pub CanPublish : (ℕ → Option ℕ) → Rows → ℕ → List Mark → Change → Type 0
CanPublish words rows root marks change = CanMake words rows root marks change (changed marks change)

-- a change can be made on one object
abbrev pub CanPublishOn : (ℕ → Option ℕ) → Rows → ℕ → List Mark → Change → ℕ → Type 0
CanPublishOn words rows root marks change object =
    CanMake words rows root marks change (changed_on marks change object)

-- the rows that were given out in between
abbrev pub given_since : Rows → Rows → List ℕ
given_since rows after = drop (length rows.given) after.given

-- the rows that were given up in between
abbrev pub retired_since : Rows → Rows → List ℕ
retired_since rows after = drop (length rows.retired) after.retired

-- the rows that were written in between are such as were given out in between, and were free; the lists of
-- rows that were given out and given up only grew
pub record Wrote (words later : ℕ → Option ℕ) (rows after : Rows) : Type 0 where
  pub given_on : after.given ≡ rows.given ++ given_since rows after
  pub retired_on : after.retired ≡ rows.retired ++ retired_since rows after
  pub from_free : (row : ℕ)
      → times row rows.free ≡ times row after.free + times row (given_since rows after)
  pub fewer : length rows.free ≡ length after.free + length (given_since rows after)
  pub others : (row place : ℕ) → place < 4 → times row (given_since rows after) ≡ 0
      → later (4 * row + place) ≡ words (4 * row + place)
