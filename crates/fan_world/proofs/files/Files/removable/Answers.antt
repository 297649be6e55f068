use Rattle.std.proofs.Common.{◌∙◌, sym}
use Rattle.fan_world.proofs.Removable.{can_remove}
use Rattle.fan_world.proofs.files.Files.removable.Goals as goal

pub returns-clause-removed : goal.returns-clause-removed
returns-clause-removed c =
    can_remove c.args.self.now.tree c.args.dir c.args.name.now c.in-Some.inode (sym c.in-Some.is ∙ c.child.ensures.found)
    (sym c.has_entries.ensures ∙ c.if-has_entries.false)
