use Rattle.std.proofs.Common.{arith}
use Rattle.fan_build.proofs.Roots.{root_before, root_built, root_few}
use Rattle.fan_build.proofs.publish.build.Goals as goal

pub publish_below-made-requires : goal.publish_below-made-requires
publish_below-made-requires g c = record {
  depth = omega arith;
  tree = (
    c.requires.2.pictured.0,
    root_before (g.N.Cells.words c.args.rows.now) (g.N.Cells.rows c.args.rows.now) c.args.root c.args.edit.now
        c.requires.0 c.requires.1 c.requires.2,
  );
}

pub overflow_cast-result : goal.overflow_cast-result
overflow_cast-result g c =
    let words = g.N.Cells.words c.args.rows.now in
    let rows = g.N.Cells.rows c.args.rows.now in
    let can = c.requires.2 in
    let before = root_before words rows c.args.root c.args.edit.now c.requires.0 c.requires.1 can in
    record {
      fits = root_few words rows c.args.root c.args.edit.now c.requires.0 c.requires.1 can
          (g.N.Cells.words c.publish_below-made.new.rows) (g.N.Cells.rows c.publish_below-made.new.rows)
          c.publish_below-made.result (c.publish_below-made.ensures can.pictured.0 before);
    }

pub returns : goal.returns
returns g c = λ marks after can.
    let words = g.N.Cells.words c.args.rows.now in
    let rows = g.N.Cells.rows c.args.rows.now in
    let before = root_before words rows c.args.root c.args.edit.now marks after can in
    root_built words rows c.args.root c.args.edit.now marks after can
    (g.N.Cells.words c.publish_below-made.new.rows) (g.N.Cells.rows c.publish_below-made.new.rows)
    c.publish_below-made.result (c.publish_below-made.ensures can.pictured.0 before)
