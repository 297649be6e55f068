-- How a table keeps its rows. No public clause cites this module.
use Rattle.std.specs.Prelude.{◌≡◌, ℕ, ◌+◌, ◌-◌, ◌*◌, ◌/◌, ◌≤◌, ◌<◌, List, ◌++◌, All, length, map, slice_get, take}
use Rattle.std.specs.List.{range_with_len}
use Rattle.fan_bits.specs.declared.change.Change.{Change}
use Rattle.fan_bits.specs.declared.mark.Mark.{Mark}
use Rattle.fan_bits.specs.Marks.{IsChange, IsMarkList, gone}
use Rattle.fan_rows.specs.Rows.{Rows, times}
use Rattle.fan_rows.specs.Trees.{PicturesBy, Tree, rows_of}
use Rattle.fan_build.specs.Objects.{IsOnObjects}
use Rattle.fan_grace.specs.declared.made.Made.{Made}
use Rattle.fan_grace.specs.Dropping.{IsDrop}

-- the words of rows, the first row that was never given out, and the rows that were given up
pub record StoredState : Type 0 where
  pub words : List ℕ
  pub next : ℕ
  pub retired : List ℕ

-- how many rows there are, with row 0
abbrev pub row_count : List ℕ → ℕ
row_count words = length words / 4

-- the rows that were given out: from 1 below a number
abbrev pub given_below : ℕ → List ℕ
given_below next = range_with_len 1 (next - 1)

-- the rows as lists: those behind the ones that were given out are free
abbrev pub listed_rows : StoredState → Rows
listed_rows stored = record {
  free = range_with_len stored.next (row_count stored.words - stored.next);
  given = given_below stored.next;
  retired = stored.retired;
}

-- the words are whole rows, and no row was given up twice
pub record IsStored (stored : StoredState) : Type 0 where
  pub whole : length stored.words ≡ 4 * row_count stored.words
  pub above : 1 ≤ stored.next
  pub within : stored.next ≤ row_count stored.words
  pub each : All (λ row. row < row_count stored.words) stored.retired
  pub once : (row : ℕ) → times row stored.retired ≤ 1

-- the first words and rows that were given up, as they stood when there were so many rows
abbrev pub cut : StoredState → ℕ → ℕ → StoredState
cut stored rows retired = record {
  words = take (4 * rows) stored.words;
  next = rows;
  retired = take retired stored.retired;
}

-- a list of marks is pictured from a root. No row is free, and each is reached from the root or was given up,
-- and not both
pub record IsKeptBy (stored : StoredState) (root : ℕ) (marks : List Mark) (tree : Tree) : Type 0 where
  pub full : length stored.words ≡ 4 * stored.next
  pub pictured : PicturesBy (slice_get stored.words) root tree marks
  pub list : IsMarkList marks
  pub counts : (row : ℕ) → times row (rows_of tree) + times row stored.retired
      ≡ times row (given_below stored.next)

-- a list of marks is pictured so
abbrev pub IsKept : StoredState → ℕ → Type 0
IsKept stored root = (marks : List Mark) × (tree : Tree) × IsKeptBy stored root marks tree

-- a change can be made of it
pub record CanMake (stored : StoredState) (root : ℕ) (marks : List Mark) (tree : Tree) (change : Change)
    : Type 0 where
  pub kept : IsKeptBy stored root marks tree
  pub allowed : IsChange marks change

-- later words have the same numbers where there were words
abbrev pub Extends : List ℕ → List ℕ → Type 0
Extends words later = (place : ℕ) → place < length words → slice_get later place ≡ slice_get words place

-- words and rows that were given up which only grew
pub record IsGrown (old new : StoredState) : Type 0 where
  pub longer : length old.words ≤ length new.words
  pub extends : Extends old.words new.words
  pub more : List ℕ
  pub retired : new.retired ≡ old.retired ++ more

-- other marks were made: they are pictured from a new root, and the old rows stand as they did. The root is
-- another one if and only if the marks are, and so many are gone
pub record IsMade (old new : StoredState) (root : ℕ) (marks after : List Mark) (made : Made) : Type 0 where
  pub tree : Tree
  pub kept : IsKeptBy new made.root after tree
  pub grown : IsGrown old new
  pub same : after ≡ marks → made.root ≡ root
  pub differs : made.root ≡ root → after ≡ marks
  pub gone_are : made.marks ≡ length (gone marks after)

-- the objects of places
abbrev pub objects_of : List (ℕ × ℕ) → List ℕ
objects_of places = map (λ place. place.1) places

-- a change that takes away marks can be made on each of some objects, on which all of these are
pub record CanMakeEach (stored : StoredState) (root : ℕ) (marks : List Mark) (tree : Tree) (change : Change)
    (objects : List ℕ) : Type 0 where
  pub can : CanMake stored root marks tree change
  pub drops : IsDrop change
  pub there : IsOnObjects marks change objects
