use Rattle.std.proofs.Common.{◌≡◌, ◌∙◌, ◌-◌, true, false, ap, inl, is_some, min, refl, sym, Some, None}
use Rattle.std.specs.BTreeMap.{is_at}
use Rattle.std.specs.Map.{lookup}
use Rattle.std.specs.Ordering.{nat_cmp}
use Rattle.slab.proofs.SlabLemmas.{Updates-with_value}
use Rattle.slab.specs.Slab.{get, with_value}
use Rattle.fan_slots.specs.Placed.{in_slots}
use Rattle.fan_slots.proofs.Placing.{held_at, in_slots-set, none_in, placed-set, slab_len-with_value, some_in}
use Rattle.fan_slots.proofs.slots.Slots.get_mut.Goals as goal

pub returns-in_err-slot : goal.returns-in_err-slot
returns-in_err-slot g c =
    let inside = c.self.inside in
    let test = is_at (nat_cmp c.args.number) in
    let no_slot : lookup test inside.places.entries ≡ None = sym c.in_err-slot.ensures.value in
    let none : lookup test (in_slots inside.slots inside.places.entries) ≡ None =
    none_in inside.slots test inside.places.entries c.self.invariant no_slot in
    rw (c.from_residual.ensures, c.find.ensures.same, ← c.self.view_is)
    (refl, record { writes_back = tt; value = rw none refl })

pub unreachable-requires : goal.unreachable-requires
unreachable-requires g c =
    let inside = c.self.inside in
    let found : lookup (is_at (nat_cmp c.args.number)) inside.places.entries ≡ Some c.in_ok-slot.slot =
    sym c.in_ok-slot.ensures.value in
    let some : is_some (get inside.slots c.in_ok-slot.slot) ≡ true =
    held_at inside.slots (is_at (nat_cmp c.args.number)) c.in_ok-slot.slot inside.places.entries
    c.self.invariant found in
    let none : get inside.slots c.in_ok-slot.slot ≡ None = sym c.in_default.ensures.value in
    let never : false ≡ true = ap is_some (sym none) ∙ some in absurd cc

pub invariant_of-self-lent : goal.invariant_of-self-lent
invariant_of-self-lent g c = λ w.
    let inside = c.self.inside in
    let slot = c.in_ok-slot.slot in
    let found : lookup (is_at (nat_cmp c.args.number)) inside.places.entries ≡ Some slot =
    sym c.in_ok-slot.ensures.value in
    let some : is_some (get inside.slots slot) ≡ true =
    held_at inside.slots (is_at (nat_cmp c.args.number)) slot inside.places.entries c.self.invariant found in
    let updates = Updates-with_value inside.slots slot w (rw some refl) in
    rw c.find.ensures.same (placed-set inside.slots (with_value inside.slots slot w) slot (is_at (nat_cmp c.args.number))
    updates.others w updates.changed inside.places.entries c.self.invariant found)

pub returns : goal.returns
returns g c =
    let inside = c.self.inside in
    let slot = c.in_ok-slot.slot in
    let test = is_at (nat_cmp c.args.number) in
    let found : lookup test inside.places.entries ≡ Some slot = sym c.in_ok-slot.ensures.value in
    let some : is_some (get inside.slots slot) ≡ true =
    held_at inside.slots test slot inside.places.entries c.self.invariant found in
    let its : lookup test (in_slots inside.slots inside.places.entries) ≡ get inside.slots slot =
    some_in inside.slots test slot inside.places.entries c.self.invariant found in
    let same_len = λ (w : g.row.V.Denot). slab_len-with_value inside.slots slot w some in
    let entries = λ (w : g.row.V.Denot).
    let updates = Updates-with_value inside.slots slot w (rw some refl) in
    in_slots-set inside.slots (with_value inside.slots slot w) slot test updates.others
    w updates.changed inside.places.entries c.self.invariant found in
    rw (c.find.ensures.same, ← c.self.view_is) (
      (λ i. inl (
        c.in-Some.value.ghost_name,
        λ w. record {
          entries = entries w i;
          spare = min inside.places.spare (inside.slots.capacity - same_len w i);
        },
      )),
      record {
        writes_back = tt;
        value = rw its c.in-Some.ensures.value;
      },
    )
