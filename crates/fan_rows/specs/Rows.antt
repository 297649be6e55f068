-- Rows of four words, and lists of rows: docs/FORMATS.md, "Rows".
use Rattle.std.specs.Prelude.{◌≡◌, ℕ, ◌+◌, ◌*◌, ◌<◌, ◌^◌, ◌==◌, if◌then◌else◌, List, [], ◌∷◌, Option, Some}
use Rattle.fan_bits.specs.declared.mark.Mark.{Mark}
use Rattle.fan_bits.specs.Marks.{IsMark}
use Rattle.fan_rows.specs.Coding.{group_word, object_word, sets_word}

-- the rows that can be taken, those that were taken from them and given out, and those that were given up
pub record Rows : Type 0 where
  pub free : List ℕ
  pub given : List ℕ
  pub retired : List ℕ

-- how often a row stands in a list
abbrev pub times : ℕ → List ℕ → ℕ
times row [] = 0
times row (other ∷ rows) = (if other == row then 1 else 0) + times row rows

-- a row stands in the words: word i of row r at 4 r + i; row 0 is none, and each is below 2^62
pub record RowAt (words : ℕ → Option ℕ) (row first second third fourth : ℕ) : Type 0 where
  pub above : 0 < row
  pub below : row < 2 ^ 62
  pub word_0 : words (4 * row) ≡ Some first
  pub word_1 : words (4 * row + 1) ≡ Some second
  pub word_2 : words (4 * row + 2) ≡ Some third
  pub word_3 : words (4 * row + 3) ≡ Some fourth

-- a row is that of a mark, with the row for the next mark on its object, or 0
pub record MarkAt (words : ℕ → Option ℕ) (row next : ℕ) (mark : Mark) : Type 0 where
  pub at : RowAt words row next (sets_word mark) (object_word mark) (group_word mark)
  pub is_mark : IsMark mark

-- later words are the same on some rows
abbrev pub KeepsRows : (ℕ → Option ℕ) → (ℕ → Option ℕ) → List ℕ → Type 0
KeepsRows words later rows =
    (row place : ℕ) → 0 < times row rows → place < 4 → later (4 * row + place) ≡ words (4 * row + place)
