use Rattle.std.proofs.Common.{[]}
use Rattle.fan_world_tests.proofs.both.Both.change.Goals as goal

pub returns-in_ok-change-in-Ok-clause-nobody : goal.returns-in_ok-change-in-Ok-clause-nobody
returns-in_ok-change-in-Ok-clause-nobody c = c.change-in-Ok.ensures.inside [] c.requires.nobody
