use Rattle.std.proofs.Common.{◌≡◌, ◌∙◌, suc, refl, sym, subst, arith}
use Rattle.fan_rows.specs.Trees.{Lies, chain_at, digits}
use Rattle.fan_rows.proofs.Walks.{Led, StepsDown, deep, led_end, led_on, led_start}
use Rattle.fan_rows.proofs.walk.connector.Goals as goal

pub row_below-row-requires-clause-tree : goal.row_below-row-requires-clause-tree
row_below-row-requires-clause-tree g c =
    let tree = c.requires.0 in
    let some = c.loop-place-test.true in
    let here = deep (g.C.Cells.words c.args.cells.now) c.loop-place.row c.loop-place.place c.args.object
    (chain_at tree (digits c.args.object))
    (c.loop-place.invariant.led tree c.requires.1 c.requires.2) some in (
      here.depth,
      here.tree,
      subst (λ words. Lies words here.tree (suc here.depth)) (sym c.loop-place.invariant.words) here.at.lies,
      here.at.top_is,
    )

pub loop-place-init : goal.loop-place-init
loop-place-init g c = record {
  words = refl;
  rows = refl;
  led = λ tree lies is.
      led_start (g.C.Cells.words c.args.cells.now) c.args.root c.args.object tree lies is;
}

pub loop-place-preserved : goal.loop-place-preserved
loop-place-preserved g c =
    let words = g.C.Cells.words c.args.cells.now in
    let row = c.loop-place.row in
    let next = c.row_below-row.result in
    let same = c.loop-place.invariant.words in
    let step : StepsDown (g.C.Cells.words c.loop-place.cells) row c.from.result next = record {
      lies = c.row_below-row.ensures.lies;
      top_is = c.row_below-row.ensures.top;
    } in
    let step_here = subst (λ w. StepsDown w row c.from.result next) same step in
    record {
      words = c.row_below-row.ensures.words ∙ same;
      rows = c.row_below-row.ensures.rows ∙ c.loop-place.invariant.rows;
      led = λ tree lies is.
          led_on words row c.loop-place.place c.args.object (chain_at tree (digits c.args.object))
          (c.loop-place.invariant.led tree lies is) c.loop-place-test.true next
          (subst (λ digit. StepsDown words row digit next) c.from.ensures step_here);
    }

pub returns-clause-chain : goal.returns-clause-chain
returns-clause-chain g c = λ tree lies is.
    let end : c.loop-place.place ≡ 0 = omega arith in
    let words = g.C.Cells.words c.args.cells.now in
    let links = chain_at tree (digits c.args.object) in
    (led_end words c.loop-place.row c.args.object links
    (subst (λ place. Led words c.loop-place.row place c.args.object links) end
    (c.loop-place.invariant.led tree lies is))).0

pub returns-clause-first : goal.returns-clause-first
returns-clause-first g c = λ tree lies is.
    let end : c.loop-place.place ≡ 0 = omega arith in
    let words = g.C.Cells.words c.args.cells.now in
    let links = chain_at tree (digits c.args.object) in
    (led_end words c.loop-place.row c.args.object links
    (subst (λ place. Led words c.loop-place.row place c.args.object links) end
    (c.loop-place.invariant.led tree lies is))).1
