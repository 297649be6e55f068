-- How an event is put on a group's queue, and how entries leave it: fanotify(7).
use Rattle.std.specs.Prelude.{ℕ, ◌+◌, nat_le, Bool, true, false, not, ◌&&◌, if◌then◌else◌, List, [], ◌∷◌, ◌++◌, length, find, Option, Some, None}
use Rattle.fan_lists.specs.First.{change_first}
use Rattle.fan_event.specs.declared.event.Event.{Event}
use Rattle.fan_event.specs.Events.{with_bits}
use Rattle.fan_event.specs.Keys.{same_key}
use Rattle.fan_queue.specs.declared.entry.Body.{Body}
use Rattle.fan_queue.specs.declared.entry.Body.TheVariants.{Told, Lost}
use Rattle.fan_queue.specs.declared.entry.Entry.{Entry}
use Rattle.fan_queue.specs.declared.entry.Put.{Put}
use Rattle.fan_queue.specs.declared.entry.Put.TheVariants as puts
use Rattle.fan_queue.specs.QueueState.{QueueState}

-- a queued event takes the bits of one with its key; neither is a permission event
abbrev pub body_takes : Event → Body → Bool
body_takes event (Told old) = not event.perm && not old.perm && same_key old event
body_takes event Lost = false

-- the entry takes the bits of the event
unfoldable pub takes : Event → Entry → Bool
takes event entry = body_takes event entry.body

-- what is queued, with further bits
abbrev pub with_more : ℕ → Body → Body
with_more bits (Told old) = Told (with_bits bits old)
with_more bits Lost = Lost

-- the entry with the bits of the event too
unfoldable pub merged : Event → Entry → Entry
merged event entry = record entry { body = with_more event.bits entry.body }

-- FAN_Q_OVERFLOW
abbrev pub body_is_lost : Body → Bool
body_is_lost (Told event) = false
body_is_lost Lost = true

-- the lost entry
abbrev pub is_lost : Entry → Bool
is_lost entry = body_is_lost entry.body

-- so many entries are as many as a limit allows
abbrev pub fills : Option ℕ → ℕ → Bool
fills None count = false
fills (Some limit) count = nat_le limit count

-- the queue is as long as its limit allows
unfoldable pub is_full : QueueState → Bool
is_full state = fills state.limit (length state.entries)

-- the next entry, queued last
unfoldable pub queued : QueueState → Body → QueueState
queued state body = record state {
  entries = state.entries ++ (record { number = state.next_entry; body = body }) ∷ [];
  next_entry = state.next_entry + 1;
}

-- the lost entry stands for the event; it is queued if there is none
abbrev pub put_lost : QueueState → Option Entry → Put × QueueState
put_lost state (Some entry) = (puts.Overflow entry.number, state)
put_lost state None = (puts.Overflow state.next_entry, queued state Lost)

-- the first entry that takes the event has its bits too; the event is queued last if there is none
abbrev pub put_event : QueueState → Event → Option Entry → Put × QueueState
put_event state event (Some entry) = (
  puts.Merged entry.number,
  record state { entries = change_first (takes event) (merged event) state.entries },
)
put_event state event None = (puts.Queued state.next_entry, queued state (Told event))

-- the first case that holds: at the limit, merged, queued last
unfoldable pub put : QueueState → Event → Put × QueueState
put state event =
    if is_full state then put_lost state (find is_lost state.entries)
    else put_event state event (find (takes event) state.entries)

-- the front of these entries, and the queue with the rest
abbrev pub taken_from : QueueState → List Entry → Option (Entry × QueueState)
taken_from state [] = None
taken_from state (entry ∷ rest) = Some (entry, record state { entries = rest })

-- the entry at the front, if there is one, and the queue without it
abbrev pub taken : QueueState → Option (Entry × QueueState)
taken state = taken_from state state.entries
