use Rattle.std.proofs.Common.{◌≤◌, ◌∙◌, sym, subst}
use Rattle.fan_rows.specs.Costs.{copied_rows}
use Rattle.fan_build.proofs.Copied.{few_needed}
use Rattle.fan_build.proofs.Roots.{change_needs}
use Rattle.fan_build.proofs.needed.rows_needed.Goals as goal

pub needed-requires : goal.needed-requires
needed-requires g c =
    let by = c.requires.1.pictured.1 in
    (c.requires.1.pictured.0, by.lies, by.root_is)

pub returns-clause-number : goal.returns-clause-number
returns-clause-number g c = λ marks can.
    let by = can.pictured.1 in
    c.needed.ensures.number can.pictured.0 by.lies by.root_is
    ∙ change_needs (g.C.Cells.words c.args.cells.now) c.args.root marks c.args.change.now can
    c.of-edit.result c.of-edit.ensures

pub returns-clause-most : goal.returns-clause-most
returns-clause-most g c = λ marks can.
    let by = can.pictured.1 in
    let number = c.needed.ensures.number can.pictured.0 by.lies by.root_is
    ∙ change_needs (g.C.Cells.words c.args.cells.now) c.args.root marks c.args.change.now can
    c.of-edit.result c.of-edit.ensures in
    subst (λ n. n ≤ copied_rows marks c.args.change.now) (sym number)
    (few_needed marks c.args.change.now can.list can.allowed)
