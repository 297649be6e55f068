use Rattle.std.proofs.Common.{◌∙◌, ◌-◌, ◌≤◌, ℕ, sym, arith, rules}
use Rattle.fan_rows.specs.Trees.{child, links_of}
use Rattle.fan_build.proofs.TreeSteps.{flat_before, flat_made, tree_same}
use Rattle.fan_build.proofs.Trees.{lies_deep}
use Rattle.fan_build.proofs.IndexWalks.{all_made, all_same, before_0, before_1, before_2, before_3, come_deep, deepen, flatten, index_before, made_of}
use Rattle.fan_build.proofs.index.+publish_below.Goals as goal

-- one less is no more
omega_small : (depth : ℕ) → depth ≤ 8 → depth - 1 ≤ 8
omega_small depth small = omega arith

pub returns-then-not-goes : goal.returns-then-not-goes
returns-then-not-goes g t c = λ tree before.
    rw c.same.ensures (tree_same (g.N.Cells.words c.args.rows.now) (g.N.Cells.rows c.args.rows.now)
    c.args.edit.now c.args.depth c.args.digit c.args.row tree before (sym c.goes.ensures ∙ c.if-not-goes.true))

pub returns-then-depth-eq0 : goal.returns-then-depth-eq0
returns-then-depth-eq0 g t c = λ tree before.
    let words = g.N.Cells.words c.args.rows.now in
    let rows = g.N.Cells.rows c.args.rows.now in
    let comes = sym c.goes.ensures ∙ c.if-not-goes.false in
    let chain = flat_before words rows c.args.edit.now c.args.depth c.args.digit c.args.row tree before
    c.if-depth-eq0.true comes in
    flat_made words (g.N.Cells.words c.publish_chain.new.rows) rows (g.N.Cells.rows c.publish_chain.new.rows)
    c.args.edit.now c.args.depth c.args.digit c.args.row tree c.publish_chain.result before c.if-depth-eq0.true
    comes (c.publish_chain.ensures (links_of tree) chain)

pub rows_below-below-requires : goal.rows_below-below-requires
rows_below-below-requires g t c =
    let tree = c.requires.tree.0 in
    let before = c.requires.tree.1 in (
      c.args.depth - 1,
      tree,
      lies_deep (g.N.Cells.words c.args.rows.now) c.args.depth tree before.lies c.if-depth-eq0.false,
      before.top_is,
    )

pub publish_below-requires : goal.publish_below-requires
publish_below-requires g t c κs within =
    let tree = c.requires.tree.0 in
    let some = c.if-depth-eq0.false in
    let deep = deepen c.requires.tree.1 some in
    let comes = come_deep c.requires.tree.1 some (sym c.goes.ensures ∙ c.if-not-goes.false) in
    let are = c.rows_below-below.ensures.below (c.args.depth - 1) tree deep.lies deep.top_is in
    let b0 = before_0 deep comes are in (
      omega (arith, c.decreases, some),
      (search rules, (omega (arith, c.requires.depth), (child tree 0, rw (c.rows_below-below.ensures.words, c.rows_below-below.ensures.rows) b0))),
    )

pub publish_below-requires-2 : goal.publish_below-requires-2
publish_below-requires-2 g t c κs within =
    let tree = c.requires.tree.0 in
    let some = c.if-depth-eq0.false in
    let deep = deepen c.requires.tree.1 some in
    let comes = come_deep c.requires.tree.1 some (sym c.goes.ensures ∙ c.if-not-goes.false) in
    let are = c.rows_below-below.ensures.below (c.args.depth - 1) tree deep.lies deep.top_is in
    let b0 = before_0 deep comes are in
    let m0 = made_of c.rows_below-below.ensures.words c.rows_below-below.ensures.rows
    (c.publish_below.ensures (child tree 0)) b0 in
    let b1 = before_1 deep comes are m0 in (
      omega (arith, c.decreases, some),
      (search rules, (omega (arith, c.requires.depth), (child tree 1, b1))),
    )

pub publish_below-requires-3 : goal.publish_below-requires-3
publish_below-requires-3 g t c κs within =
    let tree = c.requires.tree.0 in
    let some = c.if-depth-eq0.false in
    let deep = deepen c.requires.tree.1 some in
    let comes = come_deep c.requires.tree.1 some (sym c.goes.ensures ∙ c.if-not-goes.false) in
    let are = c.rows_below-below.ensures.below (c.args.depth - 1) tree deep.lies deep.top_is in
    let b0 = before_0 deep comes are in
    let m0 = made_of c.rows_below-below.ensures.words c.rows_below-below.ensures.rows
    (c.publish_below.ensures (child tree 0)) b0 in
    let b1 = before_1 deep comes are m0 in
    let m1 = c.publish_below-2.ensures (child tree 1) b1 in
    let b2 = before_2 deep comes are m0 m1 in (
      omega (arith, c.decreases, some),
      (search rules, (omega (arith, c.requires.depth), (child tree 2, b2))),
    )

pub publish_below-requires-4 : goal.publish_below-requires-4
publish_below-requires-4 g t c κs within =
    let tree = c.requires.tree.0 in
    let some = c.if-depth-eq0.false in
    let deep = deepen c.requires.tree.1 some in
    let comes = come_deep c.requires.tree.1 some (sym c.goes.ensures ∙ c.if-not-goes.false) in
    let are = c.rows_below-below.ensures.below (c.args.depth - 1) tree deep.lies deep.top_is in
    let b0 = before_0 deep comes are in
    let m0 = made_of c.rows_below-below.ensures.words c.rows_below-below.ensures.rows
    (c.publish_below.ensures (child tree 0)) b0 in
    let b1 = before_1 deep comes are m0 in
    let m1 = c.publish_below-2.ensures (child tree 1) b1 in
    let b2 = before_2 deep comes are m0 m1 in
    let m2 = c.publish_below-3.ensures (child tree 2) b2 in
    let b3 = before_3 deep comes are m0 m1 m2 in (
      omega (arith, c.decreases, some),
      (search rules, (omega (arith, c.requires.depth), (child tree 3, b3))),
    )

pub returns-then-not-altered : goal.returns-then-not-altered
returns-then-not-altered g t c = λ tree before.
    let some = c.if-depth-eq0.false in
    let deep = deepen before some in
    let comes = come_deep before some (sym c.goes.ensures ∙ c.if-not-goes.false) in
    let are = c.rows_below-below.ensures.below (c.args.depth - 1) tree deep.lies deep.top_is in
    let b0 = before_0 deep comes are in
    let m0 = made_of c.rows_below-below.ensures.words c.rows_below-below.ensures.rows
    (c.publish_below.ensures (child tree 0)) b0 in
    let b1 = before_1 deep comes are m0 in
    let m1 = c.publish_below-2.ensures (child tree 1) b1 in
    let b2 = before_2 deep comes are m0 m1 in
    let m2 = c.publish_below-3.ensures (child tree 2) b2 in
    let b3 = before_3 deep comes are m0 m1 m2 in
    let m3 = c.publish_below-4.ensures (child tree 3) b3 in
    let none = sym c.altered.ensures ∙ c.if-not-altered.true in
    rw c.same-then-not-altered.ensures (flatten some (all_same deep comes are m0 m1 m2 m3 none))

pub replace_index-requires : goal.replace_index-requires
replace_index-requires g t c =
    let tree = c.requires.tree.0 in
    let some = c.if-depth-eq0.false in
    let deep = deepen c.requires.tree.1 some in
    let comes = come_deep c.requires.tree.1 some (sym c.goes.ensures ∙ c.if-not-goes.false) in
    let are = c.rows_below-below.ensures.below (c.args.depth - 1) tree deep.lies deep.top_is in
    let b0 = before_0 deep comes are in
    let m0 = made_of c.rows_below-below.ensures.words c.rows_below-below.ensures.rows
    (c.publish_below.ensures (child tree 0)) b0 in
    let b1 = before_1 deep comes are m0 in
    let m1 = c.publish_below-2.ensures (child tree 1) b1 in
    let b2 = before_2 deep comes are m0 m1 in
    let m2 = c.publish_below-3.ensures (child tree 2) b2 in
    let b3 = before_3 deep comes are m0 m1 m2 in
    let m3 = c.publish_below-4.ensures (child tree 3) b3 in
    let yes = sym c.altered.ensures ∙ c.if-not-altered.false in
    let small = omega_small c.args.depth c.requires.depth in
    (c.args.depth - 1, m0.new, m1.new, m2.new, m3.new, index_before deep comes are m0 m1 m2 m3 yes small)

pub returns : goal.returns
returns g t c = λ tree before.
    let some = c.if-depth-eq0.false in
    let deep = deepen before some in
    let comes = come_deep before some (sym c.goes.ensures ∙ c.if-not-goes.false) in
    let are = c.rows_below-below.ensures.below (c.args.depth - 1) tree deep.lies deep.top_is in
    let b0 = before_0 deep comes are in
    let m0 = made_of c.rows_below-below.ensures.words c.rows_below-below.ensures.rows
    (c.publish_below.ensures (child tree 0)) b0 in
    let b1 = before_1 deep comes are m0 in
    let m1 = c.publish_below-2.ensures (child tree 1) b1 in
    let b2 = before_2 deep comes are m0 m1 in
    let m2 = c.publish_below-3.ensures (child tree 2) b2 in
    let b3 = before_3 deep comes are m0 m1 m2 in
    let m3 = c.publish_below-4.ensures (child tree 3) b3 in
    let yes = sym c.altered.ensures ∙ c.if-not-altered.false in
    let small = omega_small c.args.depth c.requires.depth in
    let can = index_before deep comes are m0 m1 m2 m3 yes small in
    let made = c.replace_index.ensures (c.args.depth - 1) m0.new m1.new m2.new m3.new can in
    flatten some (all_made deep comes are m0 m1 m2 m3 yes small made)
