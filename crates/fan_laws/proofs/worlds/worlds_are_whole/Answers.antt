use Rattle.fan_laws.proofs.Whole.{whole_from_first}
use Rattle.fan_laws.proofs.worlds.worlds_are_whole.Goals as goal

-- src/worlds.rt
pub returns : goal.returns
returns c = λ steps. whole_from_first steps
