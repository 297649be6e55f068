use Rattle.std.proofs.Common.{◌∙◌}
use Rattle.fan_tree.proofs.Found.{child_told}
use Rattle.fan_tree.proofs.tree.Tree.child.Goals as goal

pub returns-clause-found : goal.returns-clause-found
returns-clause-found c =
    rw (← c.self.view_is) (c.get.ensures ∙ child_told _ c.args.dir c.args.name.now c.self.invariant)
