use Rattle.std.proofs.Common.{◌∙◌, ap, sym}
use Rattle.fan_mounts.proofs.Walks.{child_some}
use Rattle.fan_mounts.specs.Reaches.{crossed}
use Rattle.fan_tree.proofs.Found.{inode_of_child}
use Rattle.fan_mounts.proofs.walk.entered.Goals as goal

pub crossed-requires : goal.crossed-requires
crossed-requires c =
    child_some c.args.tree.now c.args.place.inode c.args.name.now c.in-Some.inode c.in-Some.ensures.found

pub returns-in-Some : goal.returns-in-Some
returns-in-Some c =
    rw c.if-not-place.false
    (c.crossed.ensures ∙ ap (crossed c.args.tree.now c.args.mounts.now c.args.place)
    (inode_of_child c.args.tree.now c.args.place.inode c.args.name.now c.in-Some.inode
    (sym c.in-Some.ensures.found)))
