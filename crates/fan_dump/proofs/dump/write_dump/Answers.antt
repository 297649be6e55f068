use Rattle.fan_dump.proofs.DumpLemmas.{dumps_front_end}
use Rattle.fan_dump.proofs.dump.write_dump.Goals as goal

pub returns-in_err-flush-clause-front : goal.returns-in_err-flush-clause-front
returns-in_err-flush-clause-front g c = dumps_front_end _ c.gather_dump-bad.ensures.front c.flush.ensures.front

pub returns-clause-front : goal.returns-clause-front
returns-clause-front g c = dumps_front_end _ c.gather_dump-bad.ensures.front c.flush.ensures.front
