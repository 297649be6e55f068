use Rattle.fan_listener.proofs.Bounds.{makes-tried}
use Rattle.fan_listener.proofs.kept.KeptListener.tell.Goals as goal

pub returns-then-has_fd-clause-moved : goal.returns-then-has_fd-clause-moved
returns-then-has_fd-clause-moved c =
    makes-tried c.args.self.now c.put_told.new.self c.args.event.now c.put_told.result
    c.put_told.ensures.ok c.put_told.ensures.err

pub returns-else-has_fd-clause-moved : goal.returns-else-has_fd-clause-moved
returns-else-has_fd-clause-moved c =
    makes-tried c.args.self.now c.put_without_fd.new.self c.args.event.now c.put_without_fd.result
    c.put_without_fd.ensures.ok c.put_without_fd.ensures.err
