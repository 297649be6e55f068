-- What a queue keeps beside its entries. No public clause cites this module.
use Rattle.std.specs.Prelude.{◌≡◌, ℕ, List, Option, find}
use Rattle.std.specs.Option.{option_map}
use Rattle.fan_queue.specs.declared.entry.Entry.{Entry}
use Rattle.fan_queue.specs.Queue.{is_lost}
use Rattle.fan_queue.specs.Queued.{AreQueued}
use Rattle.fan_queue.specs.Table.{AreKnown}
use Rattle.fan_queue.specs.TableState.{TableState}

-- the number of the lost entry, if it is queued
abbrev pub lost_number : List Entry → Option ℕ
lost_number entries = option_map (λ entry. entry.number) (find is_lost entries)

-- the entries of a queue, a table with their keys, and the number of the lost one
pub record IsKept (entries : List Entry) (table : TableState) (lost : Option ℕ)
    (next_entry : ℕ) : Type 0 where
  pub queued : AreQueued next_entry entries
  pub lost_is : lost ≡ lost_number entries
  pub known : AreKnown entries table
