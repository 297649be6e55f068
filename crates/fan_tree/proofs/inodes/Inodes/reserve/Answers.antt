use Rattle.std.proofs.Common.{rules, ◌+◌, ◌-◌, ◌<◌, length}
use Rattle.fan_tree.proofs.InodeLemmas.{filled_up}
use Rattle.fan_tree.proofs.inodes.Inodes.reserve.Goals as goal

pub returns-in_ok-resize-clause-inodes : goal.returns-in_ok-resize-clause-inodes
returns-in_ok-resize-clause-inodes c =
    let more : length c.self.inside.slots.items < c.args.number - 4 + 1 = search rules in
    rw (← c.self.view_is, c.in_ok-resize.ensures.items)
    (filled_up c.self.inside.slots.items _ _ more)
