-- How the queued event that takes the bits of another is found. No public clause cites this module.
use Rattle.std.specs.Prelude.{◌≡◌, ◌≤◌, ℕ, ◌==◌, nat_le, Bool, true, ◌&&◌, ◌||◌, List, Option, Some, None, All, length, slice_get}
use Rattle.std.specs.List.{list_any}
use Rattle.std.specs.Option.{ForSome}
use Rattle.fan_event.specs.declared.event.Event.{Event}
use Rattle.fan_queue.specs.declared.cells.Group.{Group}
use Rattle.fan_queue.specs.declared.entry.Entry.{Entry}
use Rattle.fan_queue.specs.declared.keys.EntryKey.{EntryKey}
use Rattle.fan_queue.specs.Cells.{cell_of, group_index, has_cell, tag_of}
use Rattle.fan_queue.specs.Keys.{KeySet, is_noted, key_of}
use Rattle.fan_queue.specs.Queue.{takes}
use Rattle.fan_queue.specs.TableState.{TableState}

-- a key is found from its group: in a cell, or if not, among those that were spilled
abbrev pub known_by : EntryKey → KeySet → Option Group → Bool
known_by key spilled None = is_noted key spilled
known_by key spilled (Some group) =
    has_cell (cell_of key) group.cells || (nat_le key.number group.spilled && is_noted key spilled)

-- a key is found in a table
abbrev pub is_known : EntryKey → TableState → Bool
is_known key table =
    known_by key table.spilled (slice_get table.groups (group_index (tag_of key.hash) (length table.groups)))

-- the keys of all entries are found
abbrev pub AreKnown : List Entry → TableState → Type 0
AreKnown entries table =
    All (λ entry. ForSome (key_of entry) (λ key. is_known key table ≡ true)) entries

-- later groups know each key from a number on that the earlier ones know
pub record KeepsKeys (front : ℕ) (earlier later : List Group) : Type 0 where
  pub count : length later ≡ length earlier
  pub known : (index : ℕ) (key : EntryKey) (spilled : KeySet) → front ≤ key.number
      → known_by key spilled (slice_get earlier index) ≡ true
      → known_by key spilled (slice_get later index) ≡ true

-- an entry with a number takes the bits of an event
abbrev pub number_takes : List Entry → Event → ℕ → Bool
number_takes entries event number = list_any (λ entry. entry.number == number && takes event entry) entries
