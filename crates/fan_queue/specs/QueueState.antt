-- What callers see of a queue.
use Rattle.std.specs.Prelude.{ℕ, List, [], Option}
use Rattle.fan_queue.specs.declared.entry.Entry.{Entry}

-- a queue: how many entries fill it, if it has a limit; its entries from the front; the number of the next
pub record QueueState : Type 0 where
  pub limit : Option ℕ
  pub entries : List Entry
  pub next_entry : ℕ

-- a queue with nothing in it
unfoldable pub new_queue : Option ℕ → QueueState
new_queue limit = record { limit = limit; entries = []; next_entry = 1 }
