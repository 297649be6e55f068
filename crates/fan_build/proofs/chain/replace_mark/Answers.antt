use Rattle.std.proofs.Common.{◌≡◌, Bool, true, false, cond, refl}
use Rattle.std.specs.Prelude.{not}
use mir.Val.{bool_byte}
use Rattle.fan_build.proofs.ChainSteps.{not_retired, replace_adds, replaced_by, there_still}
use Rattle.fan_build.proofs.chain.replace_mark.Goals as goal

pub add_mark-first-requires : goal.add_mark-first-requires
add_mark-first-requires g c = (
  c.requires.0,
  replace_adds (g.N.Cells.words c.args.rows.now) (g.N.Cells.rows c.args.rows.now) c.args.row c.args.left
      c.args.rest c.requires.0 c.requires.1,
)

pub retire-requires-clause-there : goal.retire-requires-clause-there
retire-requires-clause-there g c =
    let before = c.requires.1 in
    let adds = replace_adds (g.N.Cells.words c.args.rows.now) (g.N.Cells.rows c.args.rows.now) c.args.row
    c.args.left c.args.rest c.requires.0 before in
    there_still (g.N.Cells.words c.args.rows.now) (g.N.Cells.words c.add_mark-first.new.rows)
    (g.N.Cells.rows c.args.rows.now) (g.N.Cells.rows c.add_mark-first.new.rows) c.args.row c.args.left
    c.args.rest c.add_mark-first.result c.requires.0 before c.add_mark-first.ensures.none
    (c.add_mark-first.ensures.made c.requires.0 adds)

pub retire-requires-clause-once : goal.retire-requires-clause-once
retire-requires-clause-once g c =
    let before = c.requires.1 in
    let adds = replace_adds (g.N.Cells.words c.args.rows.now) (g.N.Cells.rows c.args.rows.now) c.args.row
    c.args.left c.args.rest c.requires.0 before in
    not_retired (g.N.Cells.words c.args.rows.now) (g.N.Cells.words c.add_mark-first.new.rows)
    (g.N.Cells.rows c.args.rows.now) (g.N.Cells.rows c.add_mark-first.new.rows) c.args.row c.args.left
    c.args.rest c.add_mark-first.result c.requires.0 before c.add_mark-first.ensures.none
    (c.add_mark-first.ensures.made c.requires.0 adds)

-- a flag counts for 1 where it fails
byte_is : (flag : Bool) → bool_byte (not flag) ≡ cond flag 0 1
byte_is true = refl
byte_is false = refl

pub returns : goal.returns
returns g c = λ links before.
    let adds = replace_adds (g.N.Cells.words c.args.rows.now) (g.N.Cells.rows c.args.rows.now) c.args.row
    c.args.left c.args.rest links before in
    replaced_by (g.N.Cells.words c.args.rows.now) (g.N.Cells.words c.add_mark-first.new.rows)
    (g.N.Cells.rows c.args.rows.now) (g.N.Cells.rows c.add_mark-first.new.rows) c.args.row c.args.left
    c.args.rest c.add_mark-first.result links before c.add_mark-first.ensures.none
    (c.add_mark-first.ensures.made links adds) (g.N.Cells.words c.retire.new.self)
    (g.N.Cells.rows c.retire.new.self) c.args.same _ c.retire.ensures.words c.retire.ensures.free
    c.retire.ensures.given c.retire.ensures.retired
    (rw (c.from.ensures, byte_is c.args.same) refl)
