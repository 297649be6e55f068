use Rattle.std.proofs.Common.{◌≡◌, ◌*◌, ◌-◌, ◌≤◌, ◌++◌, drop, take}
use Rattle.fan_listener.specs.Records.{front_within}
use Rattle.fan_listener.proofs.records.front_within.Given as goal

-- the entries so far, and those of the rest that fit into what is left, are the front
abbrev pub invariant-loop-index : goal.invariant-loop-index
invariant-loop-index l = record {
  front : take l.index l.queue.entries ++ front_within (l.size - l.bytes) (drop l.index l.queue.entries)
      ≡ front_within l.size l.queue.entries;
  within : l.bytes ≤ l.size;
  small : 24 * l.index ≤ l.bytes;
}
