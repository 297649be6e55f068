use Rattle.std.proofs.Common.{refl}
use Rattle.fan_world.proofs.Flags.{keeps_read}
use Rattle.fan_world.proofs.Safe.{safe_others}
use Rattle.fan_world.proofs.inner.Inner.read.Goals as goal

pub returns-clause-safe : goal.returns-clause-safe
returns-clause-safe g c =
    safe_others g.row.S.Denot g.S.Sections.inside c.args.self.now.steps _ c.args.self.now _ c.self.view_is
    c.requires.safe (c.read.ensures.bounds c.args.self.now.steps)
    (keeps_read _ _ c.args.group c.args.size _ c.in_ok-bytes.ensures.ok) refl refl refl refl refl
