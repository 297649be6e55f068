use Rattle.fan_listener.proofs.StoredLemmas.{none_given, stored-closed}
use Rattle.fan_listener.proofs.kept.KeptListener.close.Goals as goal

pub forget_all-requires-clause-waiting : goal.forget_all-requires-clause-waiting
forget_all-requires-clause-waiting c = none_given c.self.invariant

pub invariant_of-self : goal.invariant_of-self
invariant_of-self c =
    let done = c.forget_all.ensures in
    rw (c.clear.ensures, c.new.ensures)
    (stored-closed c.self.invariant c.forget_all.new.rooms.entries done.unused done.still_sorted)
