use Rattle.fan_tree.proofs.Removing.{removed_ok}
use Rattle.fan_tree.proofs.tree.Tree.remove.Goals as goal

pub returns-clause-ok : goal.returns-clause-ok
returns-clause-ok c =
    rw c.take.ensures.taken
    (removed_ok c.args.self.now c.args.dir c.args.name.now c.in_ok-number.number c.in_ok-number.ensures.whole
    c.in_ok-number.ensures.ok)
