use Rattle.std.proofs.Common.{◌∙◌, sym}
use Rattle.fan_tree.proofs.Removing.{can_take}
use Rattle.fan_tree.proofs.tree.Tree.removable.Goals as goal

pub returns-clause-ok : goal.returns-clause-ok
returns-clause-ok c =
    can_take c.args.self.now c.args.dir c.args.name.now c.in-Some.number c.child.ensures.whole
    (c.in-Some.ensures.found) (sym c.has_entries.ensures ∙ c.if-has_entries.false)
