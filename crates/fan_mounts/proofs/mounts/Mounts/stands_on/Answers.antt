use Rattle.fan_mounts.proofs.Carrying.{stands_is}
use Rattle.fan_mounts.proofs.mounts.Mounts.stands_on.Goals as goal

pub returns : goal.returns
returns c = rw (← c.self.view_is)
    (stands_is c.self.inside.mounts.items c.self.inside.index c.args.inode _ c.self.invariant
    c.has_dir.ensures.some c.has_dir.ensures.none)
