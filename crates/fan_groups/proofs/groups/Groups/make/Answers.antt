use Rattle.std.proofs.Common.{arith}
use Rattle.fan_groups.proofs.Bounded.{bounded_new}
use Rattle.fan_groups.proofs.Open.{open_added}
use Rattle.fan_groups.proofs.groups.Groups.make.Goals as goal

pub invariant_of-self-2 : goal.invariant_of-self-2
invariant_of-self-2 c = rw (c.in_ok-push.ensures.items, c.in_ok-new.ensures)
    (omega (arith, c.self.invariant, open_added c.self.inside.listeners.items c.args.init.bits c.args.limit))

pub returns-clause-bounds : goal.returns-clause-bounds
returns-clause-bounds c calls bounded = rw (c.in_ok-push.ensures.items, c.in_ok-new.ensures)
    (bounded_new calls c.args.init.bits c.args.limit c.self.inside.listeners.items (rw (← c.self.view_is) at bounded))
