-- What bounds the numbers of all listeners: each call adds one at most.
use Rattle.std.specs.Prelude.{ℕ, ◌+◌, ◌≤◌, List, All, length}
use Rattle.fan_listener.specs.ListenerState.{ListenerState}

-- a listener made no more entries than so many, and gave out or will give out no more descriptors
pub record IsBounded (calls : ℕ) (listener : ListenerState) : Type 0 where
  pub entries : listener.next_entry ≤ calls + 1
  pub descriptors : listener.next_fd + length listener.queue ≤ calls

-- there are no more groups than so many, and each is bounded
pub record AreBounded (calls : ℕ) (groups : List ListenerState) : Type 0 where
  pub count : length groups ≤ calls
  pub each : All (IsBounded calls) groups
