use Rattle.std.proofs.Common.{refl, arith, rules}
use Rattle.fan_access.proofs.TwoMarks.{two-IsMarkList}
use Rattle.fan_access.proofs.test_groups.marks_of_all.Goals as goal

pub returns : goal.returns
returns c = two-IsMarkList _ _ (search rules) (search rules) refl (omega arith)
