use Rattle.fan_bits.specs.Marks.{IsMarkList}
use Rattle.fan_decide.proofs.tests.all_wanted.Given as goal

abbrev pub invariant-loop : goal.invariant-loop
invariant-loop l = IsMarkList l.list.marks.items
