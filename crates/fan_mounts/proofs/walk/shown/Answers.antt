use Rattle.fan_mounts.proofs.Walks.{shown_told}
use Rattle.fan_mounts.proofs.walk.shown.Goals as goal

pub returns-in-Some : goal.returns-in-Some
returns-in-Some c =
    shown_told c.args.tree.now c.args.mount c.args.inode c.args.parent c.in-Some.about c.in-Some.ensures.found
