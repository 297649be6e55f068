use Rattle.fan_script.proofs.LineLemmas.{one_line}
use Rattle.fan_script.proofs.laws.at_most_one_line.Goals as goal

pub returns : goal.returns
returns c = one_line
