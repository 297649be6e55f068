use Rattle.fan_mounts.proofs.Standing.{indexed_more}
use Rattle.fan_mounts.proofs.mounts.Mounts.push.Goals as goal

pub invariant_of-self-2 : goal.invariant_of-self-2
invariant_of-self-2 c =
    rw (c.push_reserved.ensures.items, c.reserve.ensures.items)
    (indexed_more c.self.inside.mounts.items c.self.inside.index c.insert.new.self c.args.number c.args.fs
    c.args.point c.self.invariant (rw c.self.view_is c.requires.free) c.requires.object
    c.in_ok-insert.ensures.ok)
