use Rattle.std.proofs.Common.{◌<◌, ℕ, get_or}
use Rattle.fan_queue.specs.declared.entry.Entry.{Entry}
use Rattle.fan_queue.proofs.KeptLemmas.{IsFound}
use Rattle.fan_queue.proofs.table.Table.of.Given as goal

abbrev pub invariant-loop-index : goal.invariant-loop-index
invariant-loop-index l = (k : ℕ) (d : Entry) → k < l.index → IsFound l.table (get_or l.entries.items k d)
