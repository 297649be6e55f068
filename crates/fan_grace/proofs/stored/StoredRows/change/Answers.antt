use Rattle.std.proofs.Common.{◌≡◌, ◌≤◌, sym, subst, arith, slice_get}
use Rattle.fan_bits.specs.Marks.{changed, retired}
use Rattle.fan_bits.proofs.MarkLists.{changed_keeps_list}
use Rattle.fan_build.specs.Needs.{needed_between}
use Rattle.fan_build.specs.Publishing.{CanChange}
use Rattle.fan_grace.specs.Stored.{IsStored}
use Rattle.fan_grace.proofs.Making.{Published, can_change, can_publish, made_of, room_made}
use Rattle.fan_grace.proofs.stored.StoredRows.change.Goals as goal

pub rows_needed-needed-requires : goal.rows_needed-needed-requires
rows_needed-needed-requires c = (
  c.requires.0,
  subst (λ words. CanChange (slice_get words) c.args.root c.requires.0 c.args.change.now) (sym c.cells.ensures)
      (can_change c.args.self.now c.args.root c.requires.0 c.requires.1 c.args.change.now c.requires.2),
)

pub publish_rows-built-requires : goal.publish_rows-built-requires
publish_rows-built-requires c =
    let old = c.args.self.now in
    let mid = c.make_room.new.self in
    let marks = c.requires.0 in
    let change = c.args.change.now in
    let after = changed marks change in
    let count : c.rows_needed-needed.result ≡ needed_between marks after =
    c.rows_needed-needed.ensures.number marks
    (subst (λ words. CanChange (slice_get words) c.args.root marks change) (sym c.cells.ensures)
    (can_change old c.args.root marks c.requires.1 change c.requires.2)) in
    let roomy = room_made old mid c.rows_needed-needed.result (needed_between marks after) count
    c.in_ok-make_room.ensures.words c.make_room.ensures.next c.make_room.ensures.retired in
    let above : 1 ≤ old.next = omega (arith, c.make_room.ensures.stored.above, c.make_room.ensures.next) in (
      marks,
      can_publish old mid c.args.root marks after c.requires.1 change c.requires.2 above roomy,
    )

pub returns-clause-made : goal.returns-clause-made
unfolding retired
returns-clause-made c = λ marks tree can.
    let old = c.args.self.now in
    let mid = c.make_room.new.self in
    let new = c.publish_rows-built.new.rows in
    let change = c.args.change.now in
    let after = changed marks change in
    let count : c.rows_needed-needed.result ≡ needed_between marks after =
    c.rows_needed-needed.ensures.number marks
    (subst (λ words. CanChange (slice_get words) c.args.root marks change) (sym c.cells.ensures)
    (can_change old c.args.root marks tree change can)) in
    let roomy = room_made old mid c.rows_needed-needed.result (needed_between marks after) count
    c.in_ok-make_room.ensures.words c.make_room.ensures.next c.make_room.ensures.retired in
    let above : 1 ≤ old.next = omega (arith, c.make_room.ensures.stored.above, c.make_room.ensures.next) in
    let publish = can_publish old mid c.args.root marks after tree change can above roomy in
    let told = c.publish_rows-built.ensures in
    let published : Published mid new c.args.root marks after c.of.result = rw c.of.ensures (record {
      pictures = told.pictures marks publish;
      wrote = told.fresh;
      needed = told.needed marks publish;
      marks_is = told.marks marks publish;
      same = told.same marks publish;
      once = told.once;
    }) in
    made_of old mid new c.args.root marks after tree change c.of.result can above roomy published
    (changed_keeps_list marks change can.allowed can.kept.list)
    (subst IsStored c.self.view_is c.self.invariant.0)
