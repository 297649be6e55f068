use Rattle.std.proofs.Common.{arith}
use Rattle.std.proofs.lemmas.List.{length-append}
use Rattle.fan_tree.proofs.Named.{padded-one, padded-refl}
use Rattle.fan_tree.proofs.entries.Entries.reserve.Goals as goal

pub loop-self-init : goal.loop-self-init
loop-self-init c = (padded-refl c.self.inside.slots.items, c.self.invariant)

pub loop-self-preserved : goal.loop-self-preserved
loop-self-preserved c =
    let slots = c.loop-self.self-inside.slots.items in
    rw c.in_ok-push.ensures.items (
      padded-one c.self.inside.slots.items slots c.loop-self.invariant.0,
      rw length-append (omega (arith, c.loop-self-test.true, c.ranges.number.fits, c.len.ensures)),
    )
