use Rattle.std.proofs.Common.{◌∙◌, ap, sym}
use Rattle.std.specs.Prelude.{option_map}
use Rattle.fan_tree.specs.Entries.{NameIn}
use Rattle.fan_tree.proofs.Named.{parent_is}
use Rattle.fan_tree.proofs.names.Names.parent.Goals as goal

pub returns-in_err-get : goal.returns-in_err-get
returns-in_err-get c =
    rw (← c.self.view_is, c.from_residual.ensures)
    (ap (option_map (λ (entry : NameIn). entry.dir)) c.in_err-get.ensures
    ∙ sym (parent_is c.self.inside.entries c.args.number))

pub returns : goal.returns
returns c =
    rw (← c.self.view_is, c.dir.ensures)
    (ap (option_map (λ (entry : NameIn). entry.dir)) c.in_ok-get.ensures
    ∙ sym (parent_is c.self.inside.entries c.args.number))
