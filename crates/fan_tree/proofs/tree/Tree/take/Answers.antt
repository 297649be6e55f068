-- The entry goes, and the inode that it leads to.
use Rattle.fan_tree.proofs.Removing.{left_is, taken_other, taken_there}
use Rattle.fan_tree.proofs.tree.Tree.take.Goals as goal

pub remove-requires-2-clause-other : goal.remove-requires-2-clause-other
remove-requires-2-clause-other c =
    taken_other _ c.args.dir c.args.name.now c.args.number c.self.invariant (rw c.self.view_is c.requires)

pub remove-requires-2-clause-there : goal.remove-requires-2-clause-there
remove-requires-2-clause-there c =
    taken_there _ c.args.dir c.args.name.now c.args.number c.self.invariant (rw c.self.view_is c.requires)

pub invariant_of-self : goal.invariant_of-self
invariant_of-self c =
    rw (c.remove-2.ensures, c.remove.ensures)
    (left_is _ c.args.dir c.args.name.now c.args.number c.self.invariant (rw c.self.view_is c.requires))

pub returns-clause-whole : goal.returns-clause-whole
returns-clause-whole c = invariant_of-self c
