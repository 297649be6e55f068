use Rattle.std.proofs.Common.{ap}
use Rattle.std.specs.BTreeMap.{is_at}
use Rattle.std.specs.Ordering.{nat_cmp}
use Rattle.fan_slots.specs.SlotsState.{SlotsState}
use Rattle.fan_slots.proofs.Placing.{in_slots-insert, no_place_of, placed-insert, vacant_elsewhere}
use Rattle.fan_slots.proofs.slots.Slots.insert_reserved.Goals as goal

pub insert_reserved-requires-clause-absent : goal.insert_reserved-requires-clause-absent
insert_reserved-requires-clause-absent g c =
    let inside = c.self.inside in
    no_place_of inside.slots (is_at (nat_cmp c.args.number)) inside.places.entries c.args.self.now.entries
    c.self.invariant (ap (λ (state : SlotsState g.row.V.Denot). state.entries) c.self.view_is) c.requires.absent

pub invariant_of-self : goal.invariant_of-self
invariant_of-self g c =
    let inside = c.self.inside in
    let came = c.insert_reserved-slot.ensures in
    let slot = c.insert_reserved-slot.result in
    let absent = no_place_of inside.slots (is_at (nat_cmp c.args.number)) inside.places.entries
    c.args.self.now.entries c.self.invariant
    (ap (λ (state : SlotsState g.row.V.Denot). state.entries) c.self.view_is) c.requires.absent in
    rw c.insert_reserved.ensures.entries
    (placed-insert inside.slots c.insert_reserved-slot.new.self slot c.args.number c.args.value came.updates.others
    came.updates.changed inside.places.entries
    (vacant_elsewhere inside.slots slot inside.places.entries c.self.invariant came.was_vacant) c.self.invariant absent)

pub returns : goal.returns
returns g c =
    let inside = c.self.inside in
    let came = c.insert_reserved-slot.ensures in
    let slot = c.insert_reserved-slot.result in
    let absent = no_place_of inside.slots (is_at (nat_cmp c.args.number)) inside.places.entries
    c.args.self.now.entries c.self.invariant
    (ap (λ (state : SlotsState g.row.V.Denot). state.entries) c.self.view_is) c.requires.absent in
    record {
      entries = rw (c.insert_reserved.ensures.entries, ← c.self.view_is)
          (in_slots-insert inside.slots c.insert_reserved-slot.new.self slot c.args.number c.args.value came.updates.others
          came.updates.changed inside.places.entries
          (vacant_elsewhere inside.slots slot inside.places.entries c.self.invariant came.was_vacant) c.self.invariant absent);
    }
