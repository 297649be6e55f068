use Rattle.std.proofs.Common.{refl}
use Rattle.fan_queue.proofs.QueueLemmas.{none_takes}
use Rattle.fan_queue.proofs.queue.Queue.push_permission.Goals as goal

pub push-requires-clause-fits : goal.push-requires-clause-fits
push-requires-clause-fits c =
    rw c.in_ok-copy.ensures (none_takes c.args.event.now c.args.self.now.entries c.requires.permission)

pub returns-clause-ok : goal.returns-clause-ok
returns-clause-ok c =
    rw (
      none_takes c.args.event.now c.args.self.now.entries c.requires.permission,
      c.in_ok-entry.ensures.number,
      c.in_ok-entry.ensures.ok,
      c.in_ok-copy.ensures,
    ) refl
