-- Where walks stood, and whence others go on. No public clause cites this module.
use Rattle.std.specs.Prelude.{◌≡◌, ℕ, ◌≤◌, List, ◌++◌, Option, All, slice_get}
use Rattle.fan_bits.specs.Marks.{order_of}
use Rattle.fan_rows.specs.Trees.{Lies, Link, Tree, chain_at, digits, first_row, top}
use Rattle.fan_grace.specs.declared.hints.Hint.{Hint}
use Rattle.fan_grace.specs.Noted.{AreNoted}
use Rattle.fan_grace.specs.Stored.{IsKept, StoredState}

-- in a chain, all marks before a row have an order of at most a number; row 0 is its end
pub record StandsAt (links : List Link) (low row : ℕ) : Type 0 where
  pub before : List Link
  pub rest : List Link
  pub whole : links ≡ before ++ rest
  pub passed : All (λ link. order_of link.mark ≤ low) before
  pub row_is : first_row rest ≡ row

-- a hint is true of the tree that lies at its root
pub record IsHint (words : ℕ → Option ℕ) (hint : Hint) : Type 0 where
  pub tree : Tree
  pub lies : Lies words tree 8
  pub root_is : top tree ≡ hint.root
  pub stands : StandsAt (chain_at tree (digits hint.object)) hint.low.0 hint.row

-- a walk for the first mark of an object behind an order can begin at a row
abbrev pub IsStart : (ℕ → Option ℕ) → ℕ → ℕ → ℕ → ℕ → Type 0
IsStart words root object after row =
    (tree : Tree) × Lies words tree 8 × (top tree ≡ root) × StandsAt (chain_at tree (digits object)) after row

-- a table keeps its rows, its marks are noted, and its hints are true
pub record IsTable (stored : StoredState) (noted : List (ℕ × ℕ)) (root : ℕ) (hints : List Hint) : Type 0 where
  pub kept : IsKept stored root
  pub marked : AreNoted noted kept.0
  pub hinted : All (IsHint (slice_get stored.words)) hints
