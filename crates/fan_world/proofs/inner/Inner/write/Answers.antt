use Rattle.std.proofs.Common.{refl}
use Rattle.fan_world.proofs.Flags.{keeps_written}
use Rattle.fan_world.proofs.Safe.{safe_others}
use Rattle.fan_world.proofs.inner.Inner.write.Goals as goal

pub returns-clause-safe : goal.returns-clause-safe
returns-clause-safe g c =
    safe_others g.row.S.Denot g.S.Sections.inside c.args.self.now.steps _ c.args.self.now _ c.self.view_is
    c.requires.safe (c.write.ensures.bounds c.args.self.now.steps)
    (keeps_written _ _ c.args.group c.args.bytes.now _ c.in_ok-write.ensures.ok) refl refl refl refl refl
