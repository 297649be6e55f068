use Rattle.std.proofs.Common.{rules}
use Rattle.fan_build.specs.Objects.{changed_on}
use Rattle.fan_build.specs.Standing.{IsPossible, Stands}
use Rattle.fan_build.proofs.Standing.{can_change, can_make, stands_after_on}
use Rattle.fan_build.proofs.tests.make_on.Goals as goal

pub rows_needed_on-needed-requires : goal.rows_needed_on-needed-requires
rows_needed_on-needed-requires g c = (
  c.requires.0,
  can_change (g.N.Cells.words c.args.rows.now) (g.N.Cells.rows c.args.rows.now) c.args.root c.requires.0
      c.requires.1 c.args.change.now (search rules),
)

pub publish_on-requires : goal.publish_on-requires
publish_on-requires g c =
    let words = g.N.Cells.words c.args.rows.now in
    let rows = g.N.Cells.rows c.args.rows.now in
    let same_rows = c.rows_needed_on-needed.ensures.rows in
    let possible : IsPossible c.args.change.now = search rules in
    let can = can_change words rows c.args.root c.requires.0 c.requires.1 c.args.change.now possible in (
      c.requires.0,
      rw (c.rows_needed_on-needed.ensures.words, same_rows)
          (can_make words rows c.args.root c.requires.0 c.requires.1 c.args.change.now possible
          (changed_on c.requires.0 c.args.change.now c.args.object) c.rows_needed_on-needed.result c.room.result
          (c.rows_needed_on-needed.ensures.number c.requires.0 can) (search rules) (rw same_rows at c.room.ensures)),
    )

pub returns : goal.returns
returns g c =
    let words = g.N.Cells.words c.rows_needed_on-needed.new.cells in
    let rows = g.N.Cells.rows c.rows_needed_on-needed.new.cells in
    let marks = c.requires.0 in
    let change = c.args.change.now in
    let new = changed_on marks change c.args.object in
    let stands : Stands words rows c.args.root marks =
    rw (c.rows_needed_on-needed.ensures.words, c.rows_needed_on-needed.ensures.rows) c.requires.1 in
    let possible : IsPossible change = search rules in
    let asks = can_change (g.N.Cells.words c.args.rows.now) (g.N.Cells.rows c.args.rows.now) c.args.root marks
    c.requires.1 change possible in
    let can = can_make words rows c.args.root marks stands change possible new c.rows_needed_on-needed.result
    c.room.result (c.rows_needed_on-needed.ensures.number marks asks) (search rules) c.room.ensures in (
      new,
      stands_after_on words rows c.args.root marks stands change possible (g.N.Cells.words c.publish_on.new.rows)
          (g.N.Cells.rows c.publish_on.new.rows) c.publish_on.result.root c.publish_on.ensures.fresh
          c.publish_on.ensures.once c.args.object (c.publish_on.ensures.pictures marks can),
    )
