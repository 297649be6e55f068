use Rattle.std.proofs.Common.{◌≤◌, ◌∙◌, sym, subst}
use Rattle.fan_rows.specs.Costs.{copied_between}
use Rattle.fan_build.specs.Objects.{changed_on}
use Rattle.fan_build.proofs.Copied.{few_needed_on}
use Rattle.fan_build.proofs.Roots.{change_needs_on}
use Rattle.fan_build.proofs.needed.rows_needed_on.Goals as goal

pub needed-requires : goal.needed-requires
needed-requires g c =
    let by = c.requires.1.pictured.1 in
    (c.requires.1.pictured.0, by.lies, by.root_is)

pub returns-clause-number : goal.returns-clause-number
returns-clause-number g c = λ marks can.
    let by = can.pictured.1 in
    c.needed.ensures.number can.pictured.0 by.lies by.root_is
    ∙ change_needs_on (g.C.Cells.words c.args.cells.now) c.args.root marks c.args.change.now can
    c.args.object c.on-edit.result c.on-edit.ensures

pub returns-clause-most : goal.returns-clause-most
returns-clause-most g c = λ marks can.
    let by = can.pictured.1 in
    let number = c.needed.ensures.number can.pictured.0 by.lies by.root_is
    ∙ change_needs_on (g.C.Cells.words c.args.cells.now) c.args.root marks c.args.change.now can
    c.args.object c.on-edit.result c.on-edit.ensures in
    subst (λ n. n ≤ copied_between marks (changed_on marks c.args.change.now c.args.object)) (sym number)
    (few_needed_on marks c.args.change.now c.args.object can.list can.allowed)
