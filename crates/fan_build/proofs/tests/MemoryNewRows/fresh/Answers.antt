use Rattle.std.proofs.Common.{rules}
use Rattle.fan_build.proofs.Standing.{numbers_next}
use Rattle.fan_build.proofs.tests.MemoryNewRows.fresh.Goals as goal

pub returns-clause-given : goal.returns-clause-given
returns-clause-given g c = numbers_next c.args.self.now.next (search rules)
