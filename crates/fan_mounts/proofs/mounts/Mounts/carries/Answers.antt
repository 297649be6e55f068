use Rattle.fan_mounts.proofs.Carrying.{carries_is}
use Rattle.fan_mounts.proofs.mounts.Mounts.carries.Goals as goal

pub returns : goal.returns
returns c = rw (← c.self.view_is)
    (carries_is c.self.inside.mounts.items c.self.inside.index c.args.number _ c.self.invariant
    c.has_mount.ensures.some c.has_mount.ensures.none)
