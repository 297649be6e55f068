use Rattle.std.proofs.Common.{◌∙◌, ap, refl}
use Rattle.fan_queue.specs.Queue.{is_full}
use Rattle.fan_listener.proofs.PutLemmas.{queue_seen}
use Rattle.fan_listener.proofs.kept.KeptListener.is_full.Goals as goal

pub returns : goal.returns
returns c =
    c.is_full.ensures
    ∙ ap is_full (queue_seen c.args.self.now _ c.self.inside.queue c.self.view_is c.self.invariant.limited refl refl)
