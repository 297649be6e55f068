use Rattle.std.proofs.Common.{◌%◌, sym, subst, arith, slice_get}
use Rattle.fan_rows.specs.Rows.{MarkAt}
use Rattle.fan_grace.proofs.Hinted.{hint_kept, mark_there, next_none, next_some, start_lies}
use Rattle.fan_grace.proofs.table.Table.next.Goals as goal

pub invariant_of-self : goal.invariant_of-self
invariant_of-self c = record {
  kept = c.self.invariant.kept;
  marked = c.self.invariant.marked;
  hinted = rw c.keep.ensures (hint_kept (slice_get c.self.inside.rows.words) c.self.inside.hints.hints
      (c.args.object % 16) _ c.self.invariant.hinted (rw (← c.self.view_is) at c.walk-row.ensures.walked));
}

pub returns-then-row-eq0-clause-found : goal.returns-then-row-eq0-clause-found
returns-then-row-eq0-clause-found c =
    let object = c.requires.object in
    let start = rw (← c.self.view_is) at c.walk-row.ensures.walked in
    rw (← c.self.view_is) (λ marks shows.
    next_none (slice_get c.self.inside.rows.words) c.args.section.now.root c.args.object c.args.after.0
    c.walk-row.result marks (omega arith) shows.0 start c.if-row-eq0.true)

pub mark_at-requires : goal.mark_at-requires
mark_at-requires c =
    let start = rw (← c.self.view_is) at c.walk-row.ensures.walked in
    let words = slice_get c.self.inside.rows.words in
    let there = mark_there words c.walk-row.result start.3.rest
    (start_lies words c.args.section.now.root c.args.object c.args.after.0 c.walk-row.result start)
    start.3.row_is c.if-row-eq0.false in (
      there.0,
      there.1,
      subst (λ all. MarkAt (slice_get all) c.walk-row.result there.0 there.1) (sym c.cells.ensures) there.2,
    )

pub invariant_of-self-2 : goal.invariant_of-self-2
invariant_of-self-2 c = record {
  kept = c.self.invariant.kept;
  marked = c.self.invariant.marked;
  hinted = rw c.keep.ensures (hint_kept (slice_get c.self.inside.rows.words) c.self.inside.hints.hints
      (c.args.object % 16) _ c.self.invariant.hinted (rw (← c.self.view_is) at c.walk-row.ensures.walked));
}

pub returns-clause-found : goal.returns-clause-found
returns-clause-found c =
    let object = c.requires.object in
    let start = rw (← c.self.view_is) at c.walk-row.ensures.walked in
    let above = rw (← c.self.view_is) at c.walk-row.ensures.above in
    rw (← c.self.view_is) (λ marks shows.
    next_some (slice_get c.self.inside.rows.words) c.args.section.now.root c.args.object c.args.after.0
    c.walk-row.result marks (omega arith) shows.0 start c.if-row-eq0.false c.mark_at.result
    (λ next one at. c.mark_at.ensures.found next one
    (subst (λ all. MarkAt (slice_get all) c.walk-row.result next one) (sym c.cells.ensures) at))
    (above c.if-row-eq0.false))
