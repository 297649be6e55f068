use Rattle.std.proofs.Common.{◌≡◌, drop}
use Rattle.fan_listener.proofs.records.drop_front.Given as goal

abbrev pub invariant-loop : goal.invariant-loop
invariant-loop l = record {
  left : l.queue.entries ≡ drop l.counter l.fn.queue.entries;
  limit : l.queue.limit ≡ l.fn.queue.limit;
  next : l.queue.next_entry ≡ l.fn.queue.next_entry;
}
