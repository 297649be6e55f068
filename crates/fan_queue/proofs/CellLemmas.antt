-- A cell that is written, and the others beside it.
use Rattle.std.proofs.Common.{◌≡◌, ℕ, ◌<◌, zero, suc, Bool, true, false, List, [], ◌∷◌, length, get_or, set, arith}
use Rattle.std.proofs.lemmas.Bool.Decides.{nat_tests}
use Rattle.std.specs.List.{list_any}
use Rattle.fan_queue.specs.declared.cells.Cell.{Cell}
use Rattle.fan_queue.specs.Cells.{same_cell}

-- a cell is the same as itself
pub same_cell-refl : (cell : Cell) → same_cell cell cell ≡ true
same_cell-refl cell = grind (arith, nat_tests)

-- a cell with another number is another
pub other_cell : (a b : Cell) → (a.number ≡ b.number → ⊥) → same_cell a b ≡ false
other_cell a b other = grind (arith, nat_tests, other)

module _ {X : Type 0} (p : X → Bool) where
  -- an element that passes is written
  pub list_any-set : (xs : List X) (i : ℕ) (x : X) → i < length xs → p x ≡ true
      → list_any p (set xs i x) ≡ true
  list_any-set [] i x within passes = absurd (omega arith)
  list_any-set (y ∷ ys) zero x within passes = grind (arith, passes)
  list_any-set (y ∷ ys) (suc i) x within passes =
      grind (arith, list_any-set ys i x (omega arith) passes)

  -- where one that fails is overwritten, the one that passes stays
  pub list_any-set_other : (xs : List X) (i : ℕ) (x d : X) → p (get_or xs i d) ≡ false
      → list_any p xs ≡ true → list_any p (set xs i x) ≡ true
  list_any-set_other [] i x d fails some = some
  list_any-set_other (y ∷ ys) zero x d fails some = grind (arith, fails, some)
  list_any-set_other (y ∷ ys) (suc i) x d fails some =
      grind (arith, some, list_any-set_other ys i x d fails)
