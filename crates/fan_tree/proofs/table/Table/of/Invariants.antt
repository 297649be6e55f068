use Rattle.fan_tree.specs.Table.{AreKnown}
use Rattle.fan_tree.proofs.table.Table.of.Given as goal

-- the entries of the numbers so far are found
abbrev pub invariant-loop-number : goal.invariant-loop-number
invariant-loop-number l = AreKnown l.entries l.table l.number
