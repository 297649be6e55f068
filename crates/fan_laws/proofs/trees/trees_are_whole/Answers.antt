use Rattle.fan_laws.proofs.FileTrees.{files_from_first}
use Rattle.fan_laws.proofs.trees.trees_are_whole.Goals as goal

-- src/trees.rt
pub returns-clause-tree : goal.returns-clause-tree
returns-clause-tree c = λ steps. (files_from_first steps).tree

pub returns-clause-mounts : goal.returns-clause-mounts
returns-clause-mounts c = λ steps. (files_from_first steps).mounts.0

pub returns-clause-numbers : goal.returns-clause-numbers
returns-clause-numbers c = λ steps. (files_from_first steps).mounts.1
