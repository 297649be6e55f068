-- A table of marks in rows, and what its sections show.
use Rattle.std.specs.Prelude.{◌≡◌, ℕ, List, Option, All, length, slice_get}
use Rattle.fan_bits.specs.declared.mark.Mark.{Mark}
use Rattle.fan_bits.specs.Marks.{IsMarkList}
use Rattle.fan_rows.specs.Trees.{Pictures}
use Rattle.fan_grace.specs.declared.section.Section.{Section}

-- the words of the rows, the root of the present marks, how many sections are in, and the rows that were given
-- up and wait until no section shows them any more
pub record TableState : Type 0 where
  pub words : List ℕ
  pub root : ℕ
  pub inside : ℕ
  pub waiting : List ℕ

-- the words of a table by their places
abbrev pub word_at : TableState → ℕ → Option ℕ
word_at table place = slice_get table.words place

-- a section shows marks
abbrev pub Shows : TableState → Section → List Mark → Type 0
Shows table section marks = Pictures (word_at table) section.root marks × IsMarkList marks

-- the present marks
abbrev pub Present : TableState → List Mark → Type 0
Present table marks = Pictures (word_at table) table.root marks × IsMarkList marks

-- a section shows some marks
abbrev pub ShowsSome : TableState → Section → Type 0
ShowsSome table section = (marks : List Mark) × Shows table section marks

-- the sections that are in: each of them shows some marks
pub record IsInside (table : TableState) (sections : List Section) : Type 0 where
  pub count : length sections ≡ table.inside
  pub each : All (ShowsSome table) sections
  pub phases : All (λ section. section.phase ≡ 0) sections
