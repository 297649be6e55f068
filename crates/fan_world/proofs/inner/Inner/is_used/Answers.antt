use Rattle.std.proofs.Common.{◌∙◌}
use Rattle.fan_world.proofs.Batches.{through_both}
use Rattle.fan_world.proofs.Machines.{as_kept}
use Rattle.fan_world.proofs.inner.Inner.is_used.Goals as goal

pub returns : goal.returns
returns g c world machine =
    let kept = as_kept g.row.S.Denot g.S.Sections.shows g.S.Sections.honest _ _ world c.self.view_is machine in
    c.has_through.ensures
    ∙ through_both g.row.S.Denot g.S.Sections.shows _ c.args.mount _ world.accesses kept.accesses
