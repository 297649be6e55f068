use Rattle.std.proofs.Common.{◌∙◌, sym}
use Rattle.std.specs.BTreeMap.{is_at}
use Rattle.std.specs.Ordering.{nat_cmp}
use Rattle.fan_slots.proofs.Placing.{none_in, some_in}
use Rattle.fan_slots.proofs.slots.Slots.get.Goals as goal

pub returns-in_err-slot : goal.returns-in_err-slot
returns-in_err-slot g c =
    let inside = c.self.inside in
    rw (c.from_residual.ensures, ← c.self.view_is)
    (sym (none_in inside.slots (is_at (nat_cmp c.args.number)) inside.places.entries c.self.invariant
    (sym c.in_err-slot.ensures.value)))

pub returns : goal.returns
returns g c =
    let inside = c.self.inside in
    rw (← c.self.view_is) (c.get-2.ensures
    ∙ sym (some_in inside.slots (is_at (nat_cmp c.args.number)) c.in_ok-slot.slot inside.places.entries
    c.self.invariant (sym c.in_ok-slot.ensures.value)))
