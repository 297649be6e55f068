-- Cells, the names that are found in them, and the names that are found elsewhere. No public clause cites this module.
use Rattle.std.specs.Prelude.{◌≡◌, ◌≢◌, ℕ, ◌*◌, ◌/◌, ◌%◌, ◌^◌, ◌==◌, Bool, true, not, ◌&&◌, ◌||◌, List, Option, Some, None, length, slice_get}
use Rattle.std.specs.List.{list_any}
use Rattle.fan_tree.specs.declared.cells.Cell.{Cell}
use Rattle.fan_tree.specs.declared.cells.Group.{Group}
use Rattle.fan_tree.specs.Entries.{Entries, NameIn, is_tagged, slot_of, tag_of}
use Rattle.fan_tree.specs.Spilled.{Dirs, is_number, number_in}

-- the index of the group of a tag among so many: the tag's part of 2^32 is the index's part of them
unfoldable pub group_index : ℕ → ℕ → ℕ
group_index tag count = (tag * count) % 2 ^ 64 / 2 ^ 32

-- two cells are the same
abbrev pub same_cell : Cell → Cell → Bool
same_cell a b = a.tag == b.tag && a.number == b.number

-- a cell is among others
abbrev pub has_cell : Cell → List Cell → Bool
has_cell cell cells = list_any (same_cell cell) cells

-- no name needs a cell: it was never written, or no name with its tag leads to its number
abbrev pub is_free : Entries → Cell → Bool
is_free entries cell = cell.number == 0 || not (is_tagged cell.tag (slot_of entries cell.number))

-- a name and its number are found from the group of its tag: in a cell, or if not, among those that were spilled
abbrev pub knows : NameIn → ℕ → Dirs → Option Group → Bool
knows entry number spilled None = is_number number (number_in spilled entry.dir entry.name)
knows entry number spilled (Some group) =
    has_cell (record { tag = tag_of entry; number = number }) group.cells
    || (group.spilled && is_number number (number_in spilled entry.dir entry.name))

-- later cells have each that is not free
pub record KeepsCells (entries : Entries) (earlier later : List Cell) : Type 0 where
  pub each : (cell : Cell) → cell.number ≢ 0 → is_tagged cell.tag (slot_of entries cell.number) ≡ true
      → has_cell cell earlier ≡ true → has_cell cell later ≡ true

-- later groups know each entry that the earlier ones know
pub record KeepsKnown (entries : Entries) (earlier later : List Group) : Type 0 where
  pub count : length later ≡ length earlier
  pub each : (index number : ℕ) (entry : NameIn) (spilled : Dirs) → number ≢ 0
      → slot_of entries number ≡ Some entry
      → knows entry number spilled (slice_get earlier index) ≡ true
      → knows entry number spilled (slice_get later index) ≡ true
