use Rattle.std.proofs.Common.{refl, arith, rules}
use Rattle.fan_access.proofs.TwoMarks.{two-IsMarkList}
use Rattle.fan_access.proofs.test_groups.two_marks.Goals as goal

pub returns : goal.returns
returns c = two-IsMarkList _ _ (search rules) (search rules) refl (omega arith)
