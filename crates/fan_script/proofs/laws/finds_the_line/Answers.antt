use Rattle.fan_script.proofs.LineLemmas.{finds_line}
use Rattle.fan_script.proofs.laws.finds_the_line.Goals as goal

pub returns : goal.returns
returns c = finds_line
