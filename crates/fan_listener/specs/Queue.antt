-- How an event is put on a group's queue: fanotify(7).
use Rattle.std.specs.Prelude.{ℕ, Bool, true, false, if◌then◌else◌, Option, Some, None}
use Rattle.fan_bits.specs.Words.{occurs, unlimited_queue}
use Rattle.fan_event.specs.declared.event.Event.{Event}
use Rattle.fan_queue.specs.declared.entry.Put.{Put}
use Rattle.fan_queue.specs.declared.entry.Put.TheVariants as puts
use Rattle.fan_queue.specs.Queue.{put as put_on}
use Rattle.fan_queue.specs.QueueState.{QueueState}
use Rattle.fan_listener.specs.ListenerState.{ListenerState}

-- how many entries fill the queue: with FAN_UNLIMITED_QUEUE it has no limit
abbrev pub limit_of : ℕ → ℕ → Option ℕ
limit_of flags limit = if occurs flags unlimited_queue then None else Some limit

-- the queue of a listener
abbrev pub queue_of : ListenerState → QueueState
queue_of state = record {
  limit = limit_of state.flags state.limit;
  entries = state.queue;
  next_entry = state.next_entry;
}

-- the listener with another queue
abbrev pub with_queue : ListenerState → QueueState → ListenerState
with_queue state queue = record state { queue = queue.entries; next_entry = queue.next_entry }

-- what became of an event that was put on the queue, and the listener with the queue after it
abbrev pub put_in : ListenerState → Put × QueueState → Put × ListenerState
put_in state done = (done.0, with_queue state done.1)

-- a closed listener takes no event; else it is put on the queue
unfoldable pub put : ListenerState → Event → Put × ListenerState
put state event =
    if state.closed then (puts.Closed, state) else put_in state (put_on (queue_of state) event)

-- the event was queued as it is
abbrev pub is_queued : Put → Bool
is_queued (puts.Queued entry) = true
is_queued _ = false
