-- A cell that is written, and the others beside it.
use Rattle.std.proofs.Common.{◌≡◌, ◌≢◌, ℕ, ◌<◌, ◌==◌, zero, suc, Bool, true, false, List, [], ◌∷◌, length, get_or, refl, set, arith}
use Rattle.std.specs.List.{list_any}
use Rattle.std.proofs.lemmas.Bool.Decides.{nat_tests}
use Rattle.fan_tree.specs.declared.cells.Cell.{Cell}
use Rattle.fan_tree.specs.Cells.{is_free, same_cell}
use Rattle.fan_tree.specs.Entries.{Entries, is_tagged, slot_of}

-- a cell is the same as itself
pub same_cell-refl : (cell : Cell) → same_cell cell cell ≡ true
same_cell-refl cell = grind (arith, nat_tests)

-- a cell that a name needs is not one that is free
pub not_free : (entries : Entries) (cell other : Cell) → is_free entries other ≡ true → cell.number ≢ 0
    → is_tagged cell.tag (slot_of entries cell.number) ≡ true → same_cell cell other ≡ false
not_free entries cell other free number tagged = by (same_cell cell other) refl
  where
    by : (b : Bool) → same_cell cell other ≡ b → b ≡ false
    by false is = refl
    by true is =
        let tag : other.tag ≡ cell.tag = grind (arith, nat_tests, is) in
        let same : other.number ≡ cell.number = grind (arith, nat_tests, is) in
        let now = rw (tag, same, tagged) at free in
        let zero : (cell.number == 0) ≡ false = grind (arith, nat_tests, number) in
        absurd (let never = rw zero at now in cc)

module _ {X : Type 0} (p : X → Bool) where
  -- an element that passes is written
  pub list_any-set : (xs : List X) (i : ℕ) (x : X) → i < length xs → p x ≡ true
      → list_any p (set xs i x) ≡ true
  list_any-set [] i x within passes = absurd (omega arith)
  list_any-set (y ∷ ys) zero x within passes = grind (arith, passes)
  list_any-set (y ∷ ys) (suc i) x within passes =
      grind (arith, list_any-set ys i x (omega arith) passes)

  -- where one that fails is overwritten, the one that passes stays
  pub list_any-set_other : (xs : List X) (i : ℕ) (x d : X) → p (get_or xs i d) ≡ false
      → list_any p xs ≡ true → list_any p (set xs i x) ≡ true
  list_any-set_other [] i x d fails some = some
  list_any-set_other (y ∷ ys) zero x d fails some = grind (arith, fails, some)
  list_any-set_other (y ∷ ys) (suc i) x d fails some =
      grind (arith, some, list_any-set_other ys i x d fails)
