use Rattle.std.proofs.Common.{◌≡◌, ◌∙◌, None, sym}
use Rattle.std.specs.BTreeMap.{is_at}
use Rattle.std.specs.Map.{lookup}
use Rattle.std.specs.Ordering.{nat_cmp}
use Rattle.fan_slots.specs.Placed.{in_slots}
use Rattle.fan_slots.proofs.Placing.{in_slots-remove, none_in, placed-remove, remove_absent, some_in}
use Rattle.fan_slots.proofs.slots.Slots.remove.Goals as goal

pub invariant_of-self : goal.invariant_of-self
invariant_of-self g c =
    let inside = c.self.inside in
    let same = c.remove.ensures.entries
    ∙ remove_absent (is_at (nat_cmp c.args.number)) inside.places.entries (sym c.in_err-slot.ensures.value) in
    rw same c.self.invariant

pub returns-in_err-slot-clause-value : goal.returns-in_err-slot-clause-value
returns-in_err-slot-clause-value g c =
    let inside = c.self.inside in
    rw (c.from_residual.ensures, ← c.self.view_is)
    (sym (none_in inside.slots (is_at (nat_cmp c.args.number)) inside.places.entries c.self.invariant
    (sym c.in_err-slot.ensures.value)))

pub returns-in_err-slot-clause-entries : goal.returns-in_err-slot-clause-entries
returns-in_err-slot-clause-entries g c =
    let inside = c.self.inside in
    let test = is_at (nat_cmp c.args.number) in
    let none : lookup test inside.places.entries ≡ None = sym c.in_err-slot.ensures.value in
    let same = c.remove.ensures.entries ∙ remove_absent test inside.places.entries none in
    rw (same, ← c.self.view_is)
    (sym (remove_absent test (in_slots inside.slots inside.places.entries)
    (none_in inside.slots test inside.places.entries c.self.invariant none)))

pub invariant_of-self-2 : goal.invariant_of-self-2
invariant_of-self-2 g c =
    let inside = c.self.inside in
    rw c.remove.ensures.entries
    (placed-remove inside.slots c.try_remove.new.self c.in_ok-slot.slot (is_at (nat_cmp c.args.number))
    c.try_remove.ensures.updates.others inside.places.entries c.self.invariant (sym c.in_ok-slot.ensures.value))

pub returns-clause-value : goal.returns-clause-value
returns-clause-value g c =
    let inside = c.self.inside in
    rw (← c.self.view_is) (c.try_remove.ensures.value
    ∙ sym (some_in inside.slots (is_at (nat_cmp c.args.number)) c.in_ok-slot.slot inside.places.entries c.self.invariant
    (sym c.in_ok-slot.ensures.value)))

pub returns-clause-entries : goal.returns-clause-entries
returns-clause-entries g c =
    let inside = c.self.inside in
    rw (c.remove.ensures.entries, ← c.self.view_is)
    (in_slots-remove inside.slots c.try_remove.new.self c.in_ok-slot.slot (is_at (nat_cmp c.args.number))
    c.try_remove.ensures.updates.others inside.places.entries c.self.invariant (sym c.in_ok-slot.ensures.value))
