use Rattle.fan_tree.proofs.InodeLemmas.{last_in_slots}
use Rattle.fan_tree.proofs.inodes.Inodes.insert_reserved.Goals as goal

pub returns : goal.returns
returns c =
    rw (← c.self.view_is)
    (last_in_slots c.self.inside.slots.items c.args.number c.args.about c.requires.first
    (rw (← c.self.view_is) at c.requires.slot) (rw (← c.self.view_is) at c.requires.last))
