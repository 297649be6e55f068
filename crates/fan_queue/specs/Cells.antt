-- Cells and the hashes whose keys they hold. No public clause cites this module.
use Rattle.std.specs.Prelude.{ℕ, ◌*◌, ◌/◌, ◌%◌, ◌^◌, ◌==◌, Bool, ◌&&◌, List}
use Rattle.std.specs.List.{list_any}
use Rattle.fan_queue.specs.declared.cells.Cell.{Cell}
use Rattle.fan_queue.specs.declared.keys.EntryKey.{EntryKey}

-- the part of a hash that a cell keeps: the upper half of a product that spreads hashes
unfoldable pub tag_of : ℕ → ℕ
tag_of hash = (hash * 11400714818966633319) % 2 ^ 64 / 2 ^ 32

-- the index of the group of a tag among so many: the tag's part of 2^32 is the index's part of them
unfoldable pub group_index : ℕ → ℕ → ℕ
group_index tag count = (tag * count) % 2 ^ 64 / 2 ^ 32

-- the cell of a key
abbrev pub cell_of : EntryKey → Cell
cell_of key = record { tag = tag_of key.hash; number = key.number }

-- two cells are the same
abbrev pub same_cell : Cell → Cell → Bool
same_cell a b = a.tag == b.tag && a.number == b.number

-- a cell is among others
abbrev pub has_cell : Cell → List Cell → Bool
has_cell cell cells = list_any (same_cell cell) cells
