use Rattle.fan_listener.proofs.Bounds.{makes-read_front}
use Rattle.fan_listener.proofs.kept.KeptListener.read.Goals as goal

pub returns-in-Ok-clause-moved : goal.returns-in-Ok-clause-moved
returns-in-Ok-clause-moved c = rw c.in-Ok.ensures.ok (makes-read_front c.args.self.now c.args.size)
