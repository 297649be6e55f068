-- The entry goes, and its inode stays.
use Rattle.fan_tree.proofs.EntryLemmas.{in_either}
use Rattle.fan_tree.proofs.Moving.{moved_is}
use Rattle.fan_tree.proofs.tree.Tree.move_entry.Goals as goal

pub invariant_of-self : goal.invariant_of-self
invariant_of-self c =
    in_either c.rename.result
    (λ done. rw done
    (moved_is _ c.args.dir c.args.name.now c.args.number c.args.to c.args.new_name.now c.self.invariant
    (rw c.self.view_is c.requires)))
    (λ same. rw same c.self.invariant) c.rename.ensures.ok c.rename.ensures.err

pub returns-clause-whole : goal.returns-clause-whole
returns-clause-whole c = invariant_of-self c
