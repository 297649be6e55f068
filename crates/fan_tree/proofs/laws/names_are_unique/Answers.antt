use Rattle.fan_tree.proofs.Kept.{entries_unique}
use Rattle.fan_tree.proofs.laws.names_are_unique.Goals as goal

pub returns : goal.returns
returns c = entries_unique
