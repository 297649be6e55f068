use Rattle.std.proofs.Common.{arith, refl}
use Rattle.fan_build.proofs.IndexSteps.{index_made, not_yet, there_yet}
use Rattle.fan_build.proofs.index.replace_index.Goals as goal

pub write_index-new-requires : goal.write_index-new-requires
write_index-new-requires g c = c.requires.5.enough

pub retire_index-retired-requires-clause-there : goal.retire_index-retired-requires-clause-there
retire_index-retired-requires-clause-there g c =
    there_yet (g.N.Cells.words c.args.rows.now) (g.N.Cells.words c.write_index-new.new.rows)
    (g.N.Cells.rows c.args.rows.now) (g.N.Cells.rows c.write_index-new.new.rows) c.requires.0 c.args.row
    c.args.parts.now c.requires.1 c.requires.2 c.requires.3 c.requires.4 c.requires.5
    c.write_index-new.result c.write_index-new.ensures

pub retire_index-retired-requires-clause-once : goal.retire_index-retired-requires-clause-once
retire_index-retired-requires-clause-once g c =
    not_yet (g.N.Cells.words c.args.rows.now) (g.N.Cells.words c.write_index-new.new.rows)
    (g.N.Cells.rows c.args.rows.now) (g.N.Cells.rows c.write_index-new.new.rows) c.requires.0 c.args.row
    c.args.parts.now c.requires.1 c.requires.2 c.requires.3 c.requires.4 c.requires.5
    c.write_index-new.result c.write_index-new.ensures

pub marks-requires : goal.marks-requires
marks-requires g c = c.requires.5.small_marks

pub rows-requires : goal.rows-requires
rows-requires g c = let small = c.requires.5.small_rows in omega arith

pub returns : goal.returns
returns g c = λ depth t1 t2 t3 t4 before.
    index_made (g.N.Cells.words c.args.rows.now) (g.N.Cells.words c.write_index-new.new.rows)
    (g.N.Cells.rows c.args.rows.now) (g.N.Cells.rows c.write_index-new.new.rows) depth c.args.row
    c.args.parts.now t1 t2 t3 t4 before
    c.write_index-new.result c.write_index-new.ensures (g.N.Cells.words c.retire_index-retired.new.rows)
    (g.N.Cells.rows c.retire_index-retired.new.rows) c.retire_index-retired.ensures.grown _
    (rw (c.marks.ensures, c.rows.ensures, c.retire_index-retired.ensures.count) refl)
