use Rattle.std.proofs.Common.{true, ◌≡◌, ◌∙◌, ◌*◌, ◌<◌, ◌≤◌, ℕ, Option, ap, sym, subst, arith}
use Rattle.std.proofs.lemmas.Bool.Decides.{nat_tests}
use Rattle.std.proofs.lemmas.Map.Keys.{le_from_not_gt}
use Rattle.std.specs.Ordering.{is_gt, nat_cmp}
use Rattle.fan_rows.specs.Rows.{MarkAt}
use Rattle.fan_rows.proofs.Walks.{along_on, found_here, room_falls}
use Rattle.fan_rows.proofs.walk.first_above.Goals as goal

-- what the test of two orders says
gt_by : (a b : ℕ) → is_gt (nat_cmp a b) ≡ true → b < a
gt_by a b is = grind (arith, nat_tests)

pub returns-then-gt-clause-found : goal.returns-then-gt-clause-found
returns-then-gt-clause-found g c = λ links chain is.
    let along = c.loop-row.invariant.along links chain is in
    found_here (g.C.Cells.words c.args.cells.now) c.loop-row.row c.args.after.0 links along
    c.loop-row-test.true c.mark_at-mark.result
    (λ next one at. c.mark_at-mark.ensures.found next one
    (subst (λ words. MarkAt words c.loop-row.row next one) (sym c.loop-row.invariant.words) at))
    (rw (← c.order.ensures) (gt_by (c.order.result.0) c.args.after.0 (sym c.gt.ensures ∙ c.if-gt.true)))

pub loop-row-smaller : goal.loop-row-smaller
loop-row-smaller g c =
    let along = c.loop-row.invariant.along c.requires.0 c.requires.1 c.requires.2 in
    room_falls (g.C.Cells.words c.args.cells.now) c.loop-row.row c.args.after.0 c.requires.0 along
    c.loop-row-test.true c.word-row.result
    (ap (λ (words : ℕ → Option ℕ). words (4 * c.loop-row.row))
    (sym (c.mark_at-mark.ensures.words ∙ c.loop-row.invariant.words)) ∙ c.word-row.ensures.found)

pub loop-row-preserved : goal.loop-row-preserved
loop-row-preserved g c =
    let same = c.loop-row.invariant.words in
    let order = c.order.result.0 in
    let within : order ≤ c.args.after.0 =
    le_from_not_gt order c.args.after.0 (sym c.gt.ensures ∙ c.if-gt.false) in
    let word = ap (λ (words : ℕ → Option ℕ). words (4 * c.loop-row.row))
    (sym (c.mark_at-mark.ensures.words ∙ same)) in
    record {
      words = c.word-row.ensures.words ∙ c.mark_at-mark.ensures.words ∙ same;
      rows = c.word-row.ensures.rows ∙ c.mark_at-mark.ensures.rows ∙ c.loop-row.invariant.rows;
      along = λ links chain is.
          let along = c.loop-row.invariant.along links chain is in
          along_on (g.C.Cells.words c.args.cells.now) c.loop-row.row c.args.after.0 links along
          c.loop-row-test.true c.mark_at-mark.result
          (λ next one at. c.mark_at-mark.ensures.found next one
          (subst (λ words. MarkAt words c.loop-row.row next one) (sym same) at))
          (rw (← c.order.ensures) within)
          c.word-row.result
          (word ∙ c.word-row.ensures.found);
    }
