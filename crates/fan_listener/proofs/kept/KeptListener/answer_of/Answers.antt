use Rattle.fan_listener.proofs.StoredLemmas.{stored-taken}
use Rattle.fan_listener.proofs.kept.KeptListener.answer_of.Goals as goal

pub invariant_of-self : goal.invariant_of-self
invariant_of-self c =
    let done = c.take_verdict.ensures in
    stored-taken c.self.invariant c.take_verdict.new.rooms.entries done.waiting done.unused done.sorted
