use Rattle.fan_listener.proofs.Bounds.{makes-tried}
use Rattle.fan_listener.proofs.kept.KeptListener.ask.Goals as goal

pub returns-then-not-is_full-clause-moved : goal.returns-then-not-is_full-clause-moved
returns-then-not-is_full-clause-moved c =
    makes-tried c.args.self.now c.put_asked.new.self c.args.event.now c.put_asked.result
    c.put_asked.ensures.ok c.put_asked.ensures.err

pub returns-else-has_fd-clause-moved : goal.returns-else-has_fd-clause-moved
returns-else-has_fd-clause-moved c =
    makes-tried c.args.self.now c.put_without_fd.new.self c.args.event.now c.put_without_fd.result
    c.put_without_fd.ensures.ok c.put_without_fd.ensures.err
