use Rattle.std.proofs.Common.{◌∙◌, None, Some, sym}
use Rattle.fan_mounts.proofs.Walks.{crossed_told}
use Rattle.fan_mounts.proofs.walk.crossed.Goals as goal

pub returns-in-Some : goal.returns-in-Some
returns-in-Some c =
    c.root.ensures.root
    ∙ sym (crossed_told c.args.tree.now c.args.mounts.now c.args.dir c.args.inode (Some c.in-Some.other)
    c.requires c.in-Some.ensures)

pub returns-in-None : goal.returns-in-None
returns-in-None c =
    c.shown.ensures
    ∙ sym (crossed_told c.args.tree.now c.args.mounts.now c.args.dir c.args.inode None c.requires
    c.in-None.ensures)
