use Rattle.std.proofs.Common.{◌∙◌, None, ap, sym}
use Rattle.fan_mounts.specs.Reaches.{shown}
use Rattle.fan_tree.proofs.Found.{inode_of_root}
use Rattle.fan_mounts.proofs.walk.root.Goals as goal

pub returns-in-Some-clause-root : goal.returns-in-Some-clause-root
returns-in-Some-clause-root c =
    c.shown.ensures
    ∙ ap (shown c.args.mount None) (inode_of_root c.args.tree.now c.args.fs c.in-Some.inode
    c.in-Some.ensures.whole (sym c.in-Some.ensures.found))
