-- How far one call moves the numbers of a listener.
use Rattle.std.specs.Prelude.{◌≡◌, ℕ, ◌+◌, ◌≤◌, length}
use Rattle.fan_listener.specs.ListenerState.{ListenerState}

-- at most so many entries were made, and each descriptor given out is one entry less in the queue
pub record Makes (entries : ℕ) (old new : ListenerState) : Type 0 where
  pub made : new.next_entry ≤ old.next_entry + entries
  pub given : new.next_fd + length new.queue ≤ old.next_fd + length old.queue + entries
  pub same_flags : new.flags ≡ old.flags
  pub same_limit : new.limit ≡ old.limit
