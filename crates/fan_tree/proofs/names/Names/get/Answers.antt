use Rattle.std.proofs.Common.{◌∙◌, ap, sym}
use Rattle.std.specs.Prelude.{option_map}
use Rattle.fan_tree.specs.Tree.{DirEntry}
use Rattle.fan_tree.proofs.Named.{found_where, got}
use Rattle.fan_tree.proofs.names.Names.get.Goals as goal

pub returns-then-leads : goal.returns-then-leads
returns-then-leads c =
    rw (← c.self.view_is)
    (sym (ap (option_map (λ (entry : DirEntry). entry.inode))
    (found_where c.self.inside.entries c.args.dir c.args.name.now c.newest-newest.result
    (rw (← c.self.view_is) at c.requires) (sym c.leads.ensures ∙ c.if-leads.true))))

pub returns : goal.returns
returns c =
    rw (← c.self.view_is)
    (got c.self.inside.entries c.self.inside.table c.self.inside.counts c.args.dir c.args.name.now
    c.get.result c.self.invariant (rw (← c.self.view_is) at c.requires) c.get.ensures.some c.get.ensures.none)
