-- The slot of the inode is emptied.
use Rattle.std.proofs.Common.{arith}
use Rattle.fan_tree.proofs.InodeLemmas.{has_slot, taken_from_slots}
use Rattle.fan_tree.proofs.inodes.Inodes.remove.Goals as goal

pub overflow_sub-number : goal.overflow_sub-number
overflow_sub-number c =
    let there = rw (← c.self.view_is) at c.requires.there in
    (has_slot c.self.inside.slots.items c.args.number c.requires.other there).0

pub index_mut-requires : goal.index_mut-requires
index_mut-requires c =
    let there = rw (← c.self.view_is) at c.requires.there in
    let within = has_slot c.self.inside.slots.items c.args.number c.requires.other there in
    omega (arith, within.0, within.1)

pub returns : goal.returns
returns c =
    let there = rw (← c.self.view_is) at c.requires.there in
    let within = has_slot c.self.inside.slots.items c.args.number c.requires.other there in
    rw (← c.self.view_is) (taken_from_slots c.self.inside.slots.items c.args.number c.requires.other within.0)
