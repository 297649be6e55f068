-- How the number that a name leads to is found. No public clause cites this module.
use Rattle.std.specs.Prelude.{◌≡◌, ◌≢◌, ℕ, ◌<◌, ◌≤◌, ◌^◌, ◌==◌, Bool, false, true, List, Some, None, length, slice_get, slice_index}
use Rattle.std.specs.List.{count_by}
use Rattle.fan_tree.specs.declared.cells.Group.{Group}
use Rattle.fan_tree.specs.Cells.{group_index, knows}
use Rattle.fan_tree.specs.Entries.{Entries, NameIn, entries_of, has_name, slot_of, tag_of}
use Rattle.fan_tree.specs.Spilled.{Dirs}
use Rattle.fan_tree.specs.Tree.{DirEntry}

-- groups of cells, and the names that found their group full
pub record TableState : Type 0 where
  pub groups : List Group
  pub spilled : Dirs

-- a name and its number are found in a table
abbrev pub is_known : TableState → ℕ → NameIn → Bool
is_known table number entry =
    knows entry number table.spilled (slice_get table.groups (group_index (tag_of entry) (length table.groups)))

-- the entry of each number below another is found
pub record AreKnown (entries : Entries) (table : TableState) (below : ℕ) : Type 0 where
  pub each : (number : ℕ) (entry : NameIn) → number ≢ 0 → number < below
      → slot_of entries number ≡ Some entry → is_known table number entry ≡ true

-- a later table knows each entry that the earlier one knows, but for one name
pub record KeepsOthers (entries : Entries) (dir : ℕ) (name : List ℕ)
    (earlier later : TableState) : Type 0 where
  pub each : (number : ℕ) (entry : NameIn) → number ≢ 0 → slot_of entries number ≡ Some entry
      → has_name dir name entry ≡ false → is_known earlier number entry ≡ true
      → is_known later number entry ≡ true

-- an entry is one of a directory
abbrev pub is_in : ℕ → DirEntry → Bool
is_in dir entry = entry.dir == dir

-- what holds of the entries as they are kept: no name leads to 0, all are found, and they are counted
pub record AreKept (entries : Entries) (table : TableState) (counts : List ℕ) : Type 0 where
  pub few : length entries ≤ 2 ^ 32
  pub first : slot_of entries 0 ≡ None
  pub known : AreKnown entries table (length entries)
  pub counted : (dir : ℕ) → slice_index counts dir ≡ count_by (is_in dir) (entries_of entries)
