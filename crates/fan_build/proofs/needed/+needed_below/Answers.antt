use Rattle.std.proofs.Common.{◌≡◌, ◌∙◌, ◌-◌, true, sym, subst, arith, rules}
use Rattle.fan_rows.specs.Trees.{child}
use Rattle.fan_build.specs.Edits.{goes}
use Rattle.fan_build.proofs.Trees.{lies_child, lies_deep}
use Rattle.fan_build.proofs.TreeEffects.{four_are, joined_is, joined_small}
use Rattle.fan_build.proofs.needed.+needed_below.Goals as goal

pub needed_below-requires : goal.needed_below-requires
needed_below-requires g t c κs within =
    let words = g.C.Cells.words c.args.cells.now in
    let tree = c.requires.tree.0 in
    let low = c.args.depth - 1 in
    let deep = lies_deep words c.args.depth tree c.requires.tree.1 c.if-depth-eq0.false in
    let are = c.rows_below-below.ensures.below low tree deep c.requires.tree.2 in (
      omega (arith, c.decreases, c.if-depth-eq0.false),
      (
        search rules,
        (
          omega (arith, c.requires.depth),
          (child tree 0, rw (c.rows_below-below.ensures.words) (lies_child words low 0 tree deep), are.first_is),
        ),
      ),
    )

pub needed_below-requires-2 : goal.needed_below-requires-2
needed_below-requires-2 g t c κs within =
    let words = g.C.Cells.words c.args.cells.now in
    let tree = c.requires.tree.0 in
    let low = c.args.depth - 1 in
    let deep = lies_deep words c.args.depth tree c.requires.tree.1 c.if-depth-eq0.false in
    let are = c.rows_below-below.ensures.below low tree deep c.requires.tree.2 in (
      omega (arith, c.decreases, c.if-depth-eq0.false),
      (
        search rules,
        (
          omega (arith, c.requires.depth),
          (child tree 1, rw (c.needed_below.ensures.words, c.rows_below-below.ensures.words) (lies_child words low 1 tree deep), are.second_is),
        ),
      ),
    )

pub needed_below-requires-3 : goal.needed_below-requires-3
needed_below-requires-3 g t c κs within =
    let words = g.C.Cells.words c.args.cells.now in
    let tree = c.requires.tree.0 in
    let low = c.args.depth - 1 in
    let deep = lies_deep words c.args.depth tree c.requires.tree.1 c.if-depth-eq0.false in
    let are = c.rows_below-below.ensures.below low tree deep c.requires.tree.2 in (
      omega (arith, c.decreases, c.if-depth-eq0.false),
      (
        search rules,
        (
          omega (arith, c.requires.depth),
          (
            child tree 2,
            rw (
              c.needed_below-2.ensures.words,
              c.needed_below.ensures.words,
              c.rows_below-below.ensures.words,
            ) (lies_child words low 2 tree deep),
            are.third_is,
          ),
        ),
      ),
    )

pub needed_below-requires-4 : goal.needed_below-requires-4
needed_below-requires-4 g t c κs within =
    let words = g.C.Cells.words c.args.cells.now in
    let tree = c.requires.tree.0 in
    let low = c.args.depth - 1 in
    let deep = lies_deep words c.args.depth tree c.requires.tree.1 c.if-depth-eq0.false in
    let are = c.rows_below-below.ensures.below low tree deep c.requires.tree.2 in (
      omega (arith, c.decreases, c.if-depth-eq0.false),
      (
        search rules,
        (
          omega (arith, c.requires.depth),
          (
            child tree 3,
            rw (
              c.needed_below-3.ensures.words,
              c.needed_below-2.ensures.words,
              c.needed_below.ensures.words,
              c.rows_below-below.ensures.words,
            ) (lies_child words low 3 tree deep),
            are.fourth_is,
          ),
        ),
      ),
    )

pub joined-requires-clause-taken : goal.joined-requires-clause-taken
joined-requires-clause-taken g t c =
    let words = g.C.Cells.words c.args.cells.now in
    let tree = c.requires.tree.0 in
    let low = c.args.depth - 1 in
    let deep = lies_deep words c.args.depth tree c.requires.tree.1 c.if-depth-eq0.false in
    let are = c.rows_below-below.ensures.below low tree deep c.requires.tree.2 in
    let four = four_are words c.args.edit.now low c.rows_below-below.result c.needed_below.result
    c.needed_below-2.result c.needed_below-3.result c.needed_below-4.result c.rows_below-below.ensures.words
    c.needed_below.ensures.words c.needed_below-2.ensures.words c.needed_below-3.ensures.words
    c.needed_below.ensures.effect c.needed_below-2.ensures.effect c.needed_below-3.ensures.effect
    c.needed_below-4.ensures.effect in
    (joined_small words c.args.edit.now c.args.depth tree c.requires.tree.1 c.if-depth-eq0.false
    c.rows_below-below.result are _ four c.requires.depth).0

pub joined-requires-clause-marks : goal.joined-requires-clause-marks
joined-requires-clause-marks g t c =
    let words = g.C.Cells.words c.args.cells.now in
    let tree = c.requires.tree.0 in
    let low = c.args.depth - 1 in
    let deep = lies_deep words c.args.depth tree c.requires.tree.1 c.if-depth-eq0.false in
    let are = c.rows_below-below.ensures.below low tree deep c.requires.tree.2 in
    let four = four_are words c.args.edit.now low c.rows_below-below.result c.needed_below.result
    c.needed_below-2.result c.needed_below-3.result c.needed_below-4.result c.rows_below-below.ensures.words
    c.needed_below.ensures.words c.needed_below-2.ensures.words c.needed_below-3.ensures.words
    c.needed_below.ensures.effect c.needed_below-2.ensures.effect c.needed_below-3.ensures.effect
    c.needed_below-4.ensures.effect in
    (joined_small words c.args.edit.now c.args.depth tree c.requires.tree.1 c.if-depth-eq0.false
    c.rows_below-below.result are _ four c.requires.depth).1

pub returns-clause-effect : goal.returns-clause-effect
returns-clause-effect g t c = λ tree lies is.
    let words = g.C.Cells.words c.args.cells.now in
    let low = c.args.depth - 1 in
    let deep = lies_deep words c.args.depth tree lies c.if-depth-eq0.false in
    let are = c.rows_below-below.ensures.below low tree deep is in
    let four = four_are words c.args.edit.now low c.rows_below-below.result c.needed_below.result
    c.needed_below-2.result c.needed_below-3.result c.needed_below-4.result c.rows_below-below.ensures.words
    c.needed_below.ensures.words c.needed_below-2.ensures.words c.needed_below-3.ensures.words
    c.needed_below.ensures.effect c.needed_below-2.ensures.effect c.needed_below-3.ensures.effect
    c.needed_below-4.ensures.effect in
    let comes = subst (λ row. goes c.args.edit.now.scope row c.args.depth c.args.digit ≡ true) (sym is)
    (sym c.goes.ensures ∙ c.if-not-goes.false) in
    c.joined.ensures ∙ joined_is words c.args.edit.now c.args.depth tree lies c.if-depth-eq0.false
    c.rows_below-below.result are _ four c.args.digit comes
