-- What stands between the changes of a history: rows that picture marks of one class. No public clause cites this module.
use Rattle.std.specs.Prelude.{◌≡◌, ◌≢◌, ℕ, zero, suc, ◌+◌, ◌-◌, ◌<◌, ◌≤◌, ◌^◌, ◌/◌, ◌%◌, List, [], ◌∷◌, Option, Some, None, All, slice_get}
use Rattle.fan_bits.specs.declared.change.Change.{Change}
use Rattle.fan_bits.specs.declared.change.Change.TheVariants.{Put}
use Rattle.fan_bits.specs.declared.class.Class.TheVariants as classes
use Rattle.fan_bits.specs.declared.kind.Verb.TheVariants as verbs
use Rattle.fan_bits.specs.declared.mark.Mark.{Mark}
use Rattle.fan_bits.specs.Marks.{IsMarkList}
use Rattle.fan_bits.specs.Places.{IsObject}
use Rattle.fan_rows.specs.Rows.{Rows, times}
use Rattle.fan_rows.specs.Trees.{Pictures}
use Rattle.fan_build.specs.Publishing.{Reaches}

-- so many numbers from one on
abbrev pub numbers : ℕ → ℕ → List ℕ
numbers first zero = []
numbers first (suc count) = first ∷ numbers (suc first) count

-- of so many rows those from one on are free, and those before it, but for row 0, were given out
abbrev pub rows_at : ℕ → ℕ → List ℕ → Rows
rows_at next count retired = record {
  free = numbers next (count - next);
  given = numbers 1 (next - 1);
  retired = retired;
}

-- the word at a place in rows of four
abbrev pub word_of : Option (List ℕ) → ℕ → Option ℕ
word_of None place = None
word_of (Some row) place = slice_get row place

abbrev pub word_at : List (List ℕ) → ℕ → Option ℕ
word_at rows place = word_of (slice_get rows (place / 4)) (place % 4)

-- rows picture marks of class FAN_CLASS_NOTIF from a root, and no row is in two lists
pub record Stands (words : ℕ → Option ℕ) (rows : Rows) (root : ℕ) (marks : List Mark) : Type 0 where
  pub pictured : Pictures words root marks
  pub list : IsMarkList marks
  pub class : All (λ mark. mark.class ≡ classes.Notif) marks
  pub apart : (reached : List ℕ) → Reaches words root reached
      → (row : ℕ) → times row reached + times row rows.free + times row rows.retired ≤ 1

-- a Put is of that class and has its numbers in their ranges
abbrev pub IsPossible : Change → Type 0
IsPossible (Put group class words object) =
    ((1 ≤ group) × (group < 2 ^ 32))
    × IsObject object
    × (words.mask < 2 ^ 32)
    × (words.verb ≢ verbs.Flush)
    × (class ≡ classes.Notif)
IsPossible _ = Unit {0}
