use Rattle.std.proofs.Common.{refl, sym}
use Rattle.fan_mounts.proofs.Walks.{place_bare, place_holds}
use Rattle.fan_mounts.proofs.mounts.Mounts.mount.Goals as goal

pub put-requires-clause-dir : goal.put-requires-clause-dir
put-requires-clause-dir c =
    let holds = place_holds c.args.tree.now c.args.self.now c.requires.reached.0 c.args.at c.root.ensures.whole
    (rw (← c.self.view_is) c.self.invariant.kept) (sym c.requires.reached.1) in holds.within.inode

pub put-requires-clause-free : goal.put-requires-clause-free
put-requires-clause-free c =
    place_bare c.args.tree.now c.args.self.now c.requires.reached.0 c.args.at c.requires.reached.1
    (rw c.if-is_none-2.ensures refl)
