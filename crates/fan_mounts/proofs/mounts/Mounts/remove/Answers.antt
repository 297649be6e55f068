use Rattle.fan_mounts.proofs.Standing.{indexed_less}
use Rattle.fan_mounts.proofs.mounts.Mounts.remove.Goals as goal

pub invariant_of-self : goal.invariant_of-self
invariant_of-self c =
    rw c.remove_counted.ensures
    (indexed_less c.self.inside.mounts.items c.self.inside.index c.remove_all-count.new.self c.args.number
    c.self.invariant c.requires (rw (← c.deref.ensures.value) c.remove_all-count.ensures.dropped))
