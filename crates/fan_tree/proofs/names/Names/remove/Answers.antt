-- A name is taken out: the others stay.
use Rattle.fan_tree.proofs.Keeping.{left_kept, left_order, own_counted, own_within}
use Rattle.fan_tree.proofs.names.Names.remove.Goals as goal

pub set-requires : goal.set-requires
set-requires c =
    own_within c.self.inside.entries c.self.inside.table c.self.inside.counts c.args.dir c.args.name.now c.args.number
    c.self.invariant (rw c.self.view_is c.requires.unique) (rw c.self.view_is c.requires.there)

pub subtract-requires : goal.subtract-requires
subtract-requires c =
    own_counted c.self.inside.entries c.self.inside.table c.self.inside.counts c.args.dir c.args.name.now c.args.number
    c.self.invariant (rw c.self.view_is c.requires.unique) (rw c.self.view_is c.requires.there)

pub invariant_of-self : goal.invariant_of-self
invariant_of-self c =
    rw (c.subtract.ensures, c.set.ensures)
    (left_kept c.self.inside.entries c.self.inside.table c.self.inside.counts c.args.dir c.args.name.now
    c.args.number c.self.invariant (rw c.self.view_is c.requires.unique) (rw c.self.view_is c.requires.there)
    c.forget.new.self (c.forget.ensures c.self.inside.entries))

pub returns : goal.returns
returns c =
    rw (← c.self.view_is, c.set.ensures)
    (left_order c.self.inside.entries c.self.inside.table c.self.inside.counts c.args.dir c.args.name.now
    c.args.number c.self.invariant (rw c.self.view_is c.requires.unique) (rw c.self.view_is c.requires.there))
