use Rattle.std.proofs.Common.{◌≡◌, ◌≤◌, sym, subst, arith, slice_get}
use Rattle.fan_build.specs.Objects.{changed_on}
use Rattle.fan_build.proofs.Objects.{changed_on_keeps_list}
use Rattle.fan_build.specs.Needs.{needed_between}
use Rattle.fan_build.specs.Publishing.{CanChange}
use Rattle.fan_grace.specs.Stored.{IsStored}
use Rattle.fan_grace.proofs.Making.{Published, can_change, can_publish, made_of, room_made}
use Rattle.fan_grace.proofs.stored.StoredRows.change_on.Goals as goal

pub rows_needed_on-needed-requires : goal.rows_needed_on-needed-requires
rows_needed_on-needed-requires c = (
  c.requires.0,
  subst (λ words. CanChange (slice_get words) c.args.root c.requires.0 c.args.change.now) (sym c.cells.ensures)
      (can_change c.args.self.now c.args.root c.requires.0 c.requires.1 c.args.change.now c.requires.2),
)

pub publish_on-built-requires : goal.publish_on-built-requires
publish_on-built-requires c =
    let old = c.args.self.now in
    let mid = c.make_room.new.self in
    let marks = c.requires.0 in
    let change = c.args.change.now in
    let after = changed_on marks change c.args.object in
    let count : c.rows_needed_on-needed.result ≡ needed_between marks after =
    c.rows_needed_on-needed.ensures.number marks
    (subst (λ words. CanChange (slice_get words) c.args.root marks change) (sym c.cells.ensures)
    (can_change old c.args.root marks c.requires.1 change c.requires.2)) in
    let roomy = room_made old mid c.rows_needed_on-needed.result (needed_between marks after) count
    c.in_ok-make_room.ensures.words c.make_room.ensures.next c.make_room.ensures.retired in
    let above : 1 ≤ old.next = omega (arith, c.make_room.ensures.stored.above, c.make_room.ensures.next) in (
      marks,
      can_publish old mid c.args.root marks after c.requires.1 change c.requires.2 above roomy,
    )

pub returns-clause-made : goal.returns-clause-made
returns-clause-made c = λ marks tree can.
    let old = c.args.self.now in
    let mid = c.make_room.new.self in
    let new = c.publish_on-built.new.rows in
    let change = c.args.change.now in
    let after = changed_on marks change c.args.object in
    let count : c.rows_needed_on-needed.result ≡ needed_between marks after =
    c.rows_needed_on-needed.ensures.number marks
    (subst (λ words. CanChange (slice_get words) c.args.root marks change) (sym c.cells.ensures)
    (can_change old c.args.root marks tree change can)) in
    let roomy = room_made old mid c.rows_needed_on-needed.result (needed_between marks after) count
    c.in_ok-make_room.ensures.words c.make_room.ensures.next c.make_room.ensures.retired in
    let above : 1 ≤ old.next = omega (arith, c.make_room.ensures.stored.above, c.make_room.ensures.next) in
    let publish = can_publish old mid c.args.root marks after tree change can above roomy in
    let told = c.publish_on-built.ensures in
    let published : Published mid new c.args.root marks after c.of.result = rw c.of.ensures (record {
      pictures = told.pictures marks publish;
      wrote = told.fresh;
      needed = told.needed marks publish;
      marks_is = told.marks marks publish;
      same = told.same marks publish;
      once = told.once;
    }) in
    made_of old mid new c.args.root marks after tree change c.of.result can above roomy published
    (changed_on_keeps_list marks change c.args.object can.kept.list can.allowed)
    (subst IsStored c.self.view_is c.self.invariant.0)
