-- The inode and the entry are added, or neither.
use Rattle.std.proofs.Common.{arith, refl}
use Rattle.fan_tree.specs.Tree.{TreeState}
use Rattle.fan_tree.proofs.Whole.{added_is, inodes_below, names_below}
use Rattle.fan_tree.proofs.tree.Tree.add.Goals as goal

pub push-requires-clause-last : goal.push-requires-clause-last
push-requires-clause-last c = names_below _ c.self.invariant

pub insert_reserved-requires-clause-last : goal.insert_reserved-requires-clause-last
insert_reserved-requires-clause-last c =
    rw c.in_ok-reserve.ensures.inodes (inodes_below _ c.self.inside.next c.self.invariant (omega arith))

pub invariant_of-self-2 : goal.invariant_of-self-2
invariant_of-self-2 c =
    let tree : TreeState = record {
      inodes = c.self.inside.inodes.inodes;
      names = c.self.inside.names;
      next = c.self.inside.next;
    } in
    rw (c.insert_reserved.ensures, c.in_ok-reserve.ensures.inodes, c.in_ok-push.ensures.ok)
    (added_is tree c.args.dir c.args.name.now c.args.about c.self.invariant (rw c.self.view_is c.requires))

pub returns-clause-ok : goal.returns-clause-ok
returns-clause-ok c =
    rw (
      ← c.self.view_is,
      c.insert_reserved.ensures,
      c.in_ok-reserve.ensures.inodes,
      c.in_ok-push.ensures.ok,
    )
    refl

pub returns-clause-whole : goal.returns-clause-whole
returns-clause-whole c = invariant_of-self-2 c
