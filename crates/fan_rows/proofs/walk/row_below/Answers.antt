use Rattle.std.proofs.Common.{◌≡◌, ◌∙◌, Some, sym, arith}
use Rattle.fan_rows.specs.Trees.{child, top}
use Rattle.fan_rows.proofs.Walks.{below}
use Rattle.fan_rows.proofs.walk.row_below.Goals as goal

pub returns-clause-lies : goal.returns-clause-lies
returns-clause-lies g c = λ depth tree lies is.
    (below (g.C.Cells.words c.args.cells.now) c.args.row depth c.args.digit tree
    (record { lies = lies; top_is = is }) (omega arith) c.requires.digit).lies

pub returns-clause-top : goal.returns-clause-top
returns-clause-top g c = λ depth tree lies is.
    let word = (below (g.C.Cells.words c.args.cells.now) c.args.row depth c.args.digit tree
    (record { lies = lies; top_is = is }) (omega arith) c.requires.digit).word in
    let same : Some (top (child tree c.args.digit)) ≡ Some c.word.result = sym word ∙ c.word.ensures.found in
    cc
