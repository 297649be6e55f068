use Rattle.std.proofs.Common.{[], ◌∷◌, arith}
use Rattle.fan_grace.proofs.tests.enter_twice.Goals as goal

pub enter-after-requires : goal.enter-after-requires
enter-after-requires c =
    let one = c.make_changes.ensures.inside (c.enter-before.result ∷ [])
    (c.enter-before.ensures.inside [] c.in_ok-table.ensures.inside) in
    record { few = omega (arith, one.count) }

pub returns : goal.returns
returns c =
    let one = c.make_changes.ensures.inside (c.enter-before.result ∷ [])
    (c.enter-before.ensures.inside [] c.in_ok-table.ensures.inside) in
    c.enter-after.ensures.inside (c.enter-before.result ∷ []) one
