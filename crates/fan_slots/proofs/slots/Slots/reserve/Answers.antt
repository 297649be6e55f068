use Rattle.std.proofs.Common.{ap}
use Rattle.slab.specs.Slab.{Slab, get}
use Rattle.fan_slots.proofs.Placing.{same_placed}
use Rattle.fan_slots.proofs.slots.Slots.reserve.Goals as goal

pub invariant_of-self : goal.invariant_of-self
invariant_of-self g c =
    same_placed c.self.inside.slots c.reserve.new.self
    (λ slot. ap (λ (slots : Slab g.row.V.Denot). get slots slot) c.reserve.ensures.rest_kept)
    c.self.inside.places.entries c.self.invariant

pub invariant_of-self-in_err-reserve-2 : goal.invariant_of-self-in_err-reserve-2
invariant_of-self-in_err-reserve-2 g c =
    rw c.reserve-2.ensures.same (same_placed c.self.inside.slots c.reserve.new.self
    (λ slot. ap (λ (slots : Slab g.row.V.Denot). get slots slot) c.reserve.ensures.rest_kept)
    c.self.inside.places.entries c.self.invariant)

pub invariant_of-self-2 : goal.invariant_of-self-2
invariant_of-self-2 g c =
    rw c.reserve-2.ensures.same (same_placed c.self.inside.slots c.reserve.new.self
    (λ slot. ap (λ (slots : Slab g.row.V.Denot). get slots slot) c.reserve.ensures.rest_kept)
    c.self.inside.places.entries c.self.invariant)
