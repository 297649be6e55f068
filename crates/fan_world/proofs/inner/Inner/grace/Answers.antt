use Rattle.fan_world.proofs.Machines.{as_kept, grace_done}
use Rattle.fan_world.proofs.inner.Inner.grace.Goals as goal

pub returns-clause-done : goal.returns-clause-done
returns-clause-done g c world machine =
    let kept = as_kept g.row.S.Denot g.S.Sections.shows g.S.Sections.honest _ _ world c.self.view_is machine in
    rw c.grace.ensures.same
    (grace_done g.row.S.Denot g.S.Sections.shows g.S.Sections.honest _ world kept
    c.grace.ensures.begun c.grace.result _ c.grace.ensures.reclaimed c.grace.ensures.kept)
