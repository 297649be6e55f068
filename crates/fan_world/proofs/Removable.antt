-- What can be removed from a tree.
use Rattle.std.proofs.Common.{◌≡◌, ℕ, Bool, false, List, Option, Some, None, Ok, refl, sym}
use Rattle.std.specs.Prelude.{option_map}
use Rattle.fan_tree.specs.Changes.{has_entries, removed, removed_by, without_entry}
use Rattle.fan_tree.specs.Tree.{Inode, TreeState, entry_of}

-- a name that leads to what has no entries can be removed with it
pub can_remove : (tree : TreeState) (dir : ℕ) (name : List ℕ) (number : ℕ)
    → Some number ≡ option_map (λ inode. inode.number) (entry_of tree dir name) → has_entries tree number ≡ false
    → (left : TreeState) × (removed tree dir name ≡ Ok (number, left))
unfolding removed
can_remove tree dir name number found empty = by (entry_of tree dir name) refl found
  where
    by : (entry : Option Inode) → entry_of tree dir name ≡ entry
        → Some number ≡ option_map (λ inode. inode.number) entry
        → (left : TreeState) × (removed_by entry tree dir name ≡ Ok (number, left))
    by None here found = absurd cc
    by (Some inode) here found =
        let same : number ≡ inode.number = cc in (
          without_entry tree dir name inode.number,
          rw (← same, empty) refl,
        )
