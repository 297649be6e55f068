use Rattle.std.proofs.Common.{true, ◌≡◌, ◌∙◌, ◌*◌, ◌<◌, ◌≤◌, ℕ, Option, ap, refl, sym, subst, arith}
use Rattle.std.proofs.lemmas.Bool.Decides.{nat_tests}
use Rattle.std.proofs.lemmas.Map.Keys.{le_from_not_gt}
use Rattle.std.specs.Ordering.{is_gt, nat_cmp}
use Rattle.std.specs.Prelude.{IsSome}
use Rattle.fan_bits.specs.Marks.{order_of}
use Rattle.fan_rows.specs.Rows.{MarkAt}
use Rattle.fan_rows.proofs.Walks.{room_falls}
use Rattle.fan_grace.proofs.Hinted.{along, mark_on, stands_first, stands_more}
use Rattle.fan_grace.proofs.walk.row_above.Goals as goal

-- what the test of two orders says
gt_by : (a b : ℕ) → is_gt (nat_cmp a b) ≡ true → b < a
gt_by a b is = grind (arith, nat_tests)

pub loop-row-init : goal.loop-row-init
loop-row-init g c = record {
  words = refl;
  rows = refl;
  stands = λ links chain is. stands_first links c.args.after.0 c.args.first is;
}

pub mark_at-mark-requires : goal.mark_at-mark-requires
mark_at-mark-requires g c =
    let there = mark_on (g.C.Cells.words c.args.cells.now) c.requires.0 c.args.after.0 c.loop-row.row
    c.requires.1
    (c.loop-row.invariant.stands c.requires.0 c.requires.1 c.requires.2) c.loop-row-test.true in (
      there.0,
      there.1,
      subst (λ w. MarkAt w c.loop-row.row there.0 there.1) (sym c.loop-row.invariant.words) there.2,
    )

pub overflow_mul-row : goal.overflow_mul-row
overflow_mul-row g c =
    let there = mark_on (g.C.Cells.words c.args.cells.now) c.requires.0 c.args.after.0 c.loop-row.row
    c.requires.1
    (c.loop-row.invariant.stands c.requires.0 c.requires.1 c.requires.2) c.loop-row-test.true in
    record { fits = omega (arith, there.2.at.below) }

pub word-row-requires : goal.word-row-requires
word-row-requires g c =
    let there = mark_on (g.C.Cells.words c.args.cells.now) c.requires.0 c.args.after.0 c.loop-row.row
    c.requires.1
    (c.loop-row.invariant.stands c.requires.0 c.requires.1 c.requires.2) c.loop-row-test.true in
    let words = c.mark_at-mark.ensures.words ∙ c.loop-row.invariant.words in
    subst IsSome (sym (ap (λ (all : ℕ → Option ℕ). all (4 * c.loop-row.row)) words ∙ there.2.at.word_0)) refl

pub returns-then-gt-clause-above : goal.returns-then-gt-clause-above
returns-then-gt-clause-above g c = λ some next mark at.
    let is = c.mark_at-mark.ensures.found next mark
    (subst (λ words. MarkAt words c.loop-row.row next mark) (sym c.loop-row.invariant.words) at) in
    let order : c.args.after.0 < order_of c.mark_at-mark.result =
    rw (← c.order.ensures) (gt_by c.order.result.0 c.args.after.0 (sym c.gt.ensures ∙ c.if-gt.true)) in
    subst (λ m. c.args.after.0 < order_of m) is order

pub loop-row-smaller : goal.loop-row-smaller
loop-row-smaller g c =
    let words = g.C.Cells.words c.args.cells.now in
    let at = c.loop-row.invariant.stands c.requires.0 c.requires.1 c.requires.2 in
    room_falls words c.loop-row.row c.args.after.0 c.requires.0
    (along words c.requires.0 c.args.after.0 c.loop-row.row c.requires.1 at) c.loop-row-test.true
    c.word-row.result
    (ap (λ (words : ℕ → Option ℕ). words (4 * c.loop-row.row))
    (sym (c.mark_at-mark.ensures.words ∙ c.loop-row.invariant.words)) ∙ c.word-row.ensures.found)

pub loop-row-preserved : goal.loop-row-preserved
loop-row-preserved g c =
    let same = c.loop-row.invariant.words in
    let order = c.order.result.0 in
    let within : order ≤ c.args.after.0 =
    le_from_not_gt order c.args.after.0 (sym c.gt.ensures ∙ c.if-gt.false) in
    let word = ap (λ (words : ℕ → Option ℕ). words (4 * c.loop-row.row))
    (sym (c.mark_at-mark.ensures.words ∙ same)) in
    record {
      words = c.word-row.ensures.words ∙ c.mark_at-mark.ensures.words ∙ same;
      rows = c.word-row.ensures.rows ∙ c.mark_at-mark.ensures.rows ∙ c.loop-row.invariant.rows;
      stands = λ links chain is.
          stands_more (g.C.Cells.words c.args.cells.now) links c.args.after.0 c.loop-row.row chain
          (c.loop-row.invariant.stands links chain is) c.loop-row-test.true c.mark_at-mark.result
          (λ next one at. c.mark_at-mark.ensures.found next one
          (subst (λ words. MarkAt words c.loop-row.row next one) (sym same) at))
          (rw (← c.order.ensures) within)
          c.word-row.result
          (word ∙ c.word-row.ensures.found);
    }
