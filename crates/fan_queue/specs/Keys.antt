-- The keys of queued events, by hash and number. No public clause cites this module.
use Rattle.std.specs.Prelude.{ℕ, Bool, if◌then◌else◌, List, Option, Some, None, is_some}
use Rattle.std.specs.BTreeMap.{is_at}
use Rattle.std.specs.Map.{lookup}
use Rattle.std.specs.declared.cmp.Ordering.{Ordering}
use Rattle.fan_event.specs.declared.event.Event.{Event}
use Rattle.fan_event.specs.Keys.{key_hash}
use Rattle.fan_queue.specs.contracts.keys.EntryKeyOrd.TheImpl as key_ord
use Rattle.fan_queue.specs.declared.keys.EntryKey.{EntryKey}
use Rattle.fan_queue.specs.declared.entry.Body.{Body}
use Rattle.fan_queue.specs.declared.entry.Body.TheVariants.{Told, Lost}
use Rattle.fan_queue.specs.declared.entry.Entry.{Entry}

-- the order of keys: by hash, and of one hash by number
abbrev pub key_cmp : EntryKey → EntryKey → Ordering
key_cmp = (key_ord.ghosts).cmp

-- the key of an event that is queued under a number
abbrev pub event_key : Event → ℕ → EntryKey
event_key event number = record { hash = key_hash event; number = number }

-- the key of what is queued under a number: a permission event and the lost entry have none
abbrev pub key_in : ℕ → Body → Option EntryKey
key_in number (Told event) = if event.perm then None else Some (event_key event number)
key_in number Lost = None

-- the key of an entry
abbrev pub key_of : Entry → Option EntryKey
key_of entry = key_in entry.number entry.body

-- keys, in a map without values
abbrev pub KeySet : Type 0
KeySet = List (EntryKey × Unit {0})

-- a key is among those that are noted
abbrev pub is_noted : EntryKey → KeySet → Bool
is_noted key keys = is_some (lookup (is_at (key_cmp key)) keys)
