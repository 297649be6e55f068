use Rattle.std.proofs.Common.{◌≡◌, ◌+◌, ◌≤◌, ◌++◌, drop, take}
use Rattle.fan_listener.specs.Records.{records, next_fd_after}
use Rattle.fan_listener.proofs.records.take_entries.Given as goal

-- what was taken so far, and what the rest gives from here on, are what all entries give
abbrev pub invariant-loop-index : goal.invariant-loop-index
invariant-loop-index l = record {
  bytes : l.taken.bytes.items ++ records l.taken.next_fd (drop l.index (take l.fn.front.count l.queue.entries))
      ≡ records l.first_fd (take l.fn.front.count l.queue.entries);
  next : next_fd_after l.taken.next_fd (drop l.index (take l.fn.front.count l.queue.entries))
      ≡ next_fd_after l.first_fd (take l.fn.front.count l.queue.entries);
  few : l.taken.next_fd ≤ l.first_fd + l.index;
}
