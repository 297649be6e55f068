use Rattle.fan_bits.specs.Marks.{IsMarkList}
use Rattle.fan_decide.proofs.tests.listed.Given as goal

abbrev pub invariant-loop-mark : goal.invariant-loop-mark
invariant-loop-mark l = IsMarkList l.list.marks.items
