use Rattle.fan_build.proofs.Objects.{all_objects, one_object}
use Rattle.fan_build.proofs.laws.object_by_object.Goals as goal

pub returns-clause-all : goal.returns-clause-all
returns-clause-all c = λ marks change objects list is there. all_objects marks change list is objects there

pub returns-clause-one : goal.returns-clause-one
returns-clause-one c = λ marks change object list is there. one_object marks change list is object there
