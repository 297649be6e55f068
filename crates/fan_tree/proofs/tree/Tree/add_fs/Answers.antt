-- A filesystem is added with its root.
use Rattle.std.proofs.Common.{◌+◌, arith, refl}
use Rattle.fan_tree.specs.Tree.{TreeState}
use Rattle.fan_tree.proofs.Whole.{inodes_below, with_fs_is}
use Rattle.fan_tree.proofs.tree.Tree.add_fs.Goals as goal

pub insert_reserved-requires-clause-last : goal.insert_reserved-requires-clause-last
insert_reserved-requires-clause-last c =
    rw c.in_ok-reserve.ensures.inodes
    (inodes_below _ (c.self.inside.next + 1) c.self.invariant (omega arith))

pub invariant_of-self-2 : goal.invariant_of-self-2
invariant_of-self-2 c =
    let tree : TreeState = record {
      inodes = c.self.inside.inodes.inodes;
      names = c.self.inside.names;
      next = c.self.inside.next;
    } in
    rw (c.insert_reserved.ensures, c.in_ok-reserve.ensures.inodes)
    (with_fs_is tree c.self.invariant (rw (← c.self.view_is) at c.requires))

pub returns-clause-ok : goal.returns-clause-ok
returns-clause-ok c =
    rw (← c.self.view_is, c.insert_reserved.ensures, c.in_ok-reserve.ensures.inodes) refl

pub returns-clause-whole : goal.returns-clause-whole
returns-clause-whole c = invariant_of-self-2 c
