use Rattle.fan_tree.proofs.Named.{any_counted}
use Rattle.fan_tree.proofs.names.Names.has_any.Goals as goal

pub returns : goal.returns
returns c =
    rw (← c.self.view_is)
    (any_counted c.self.inside.entries c.self.inside.table c.self.inside.counts c.args.dir c.get.result
    c.self.invariant c.get.ensures)
