use Rattle.fan_bits.proofs.InterestLaws.{interests_near}
use Rattle.fan_bits.proofs.laws.marks_elsewhere_do_not_matter.Goals as goal

pub returns : goal.returns
returns c = λ marks happening is_list. interests_near marks is_list happening
