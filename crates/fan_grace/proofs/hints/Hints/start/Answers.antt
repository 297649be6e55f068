use Rattle.std.proofs.Common.{arith}
use Rattle.fan_grace.proofs.Hinted.{hint_fits}
use Rattle.fan_grace.proofs.hints.Hints.start.Goals as goal

pub returns : goal.returns
returns c = λ words all.
    rw (c.then_some.ensures, c.fits.ensures)
    (hint_fits words _ c.args.root c.args.object c.args.after.0
    (all c.place.result _ (omega (arith, c.place.ensures))))
