use Rattle.std.proofs.Common.{sym, subst, slice_get}
use Rattle.fan_rows.specs.Rows.{MarkAt}
use Rattle.fan_rows.specs.Trees.{IsChain}
use Rattle.fan_grace.proofs.Hinted.{start_lies, walked}
use Rattle.fan_grace.proofs.table.Table.walk.Goals as goal

pub row_above-requires : goal.row_above-requires
row_above-requires c =
    let start = rw (← c.self.view_is) at c.start-first.ensures in (
      start.3.rest,
      subst (λ words. IsChain (slice_get words) start.3.rest) (sym c.cells.ensures)
          (start_lies (slice_get c.self.inside.rows.words) c.args.root c.args.object c.args.after.0
          c.start-first.result start),
      start.3.row_is,
    )

pub returns-clause-walked : goal.returns-clause-walked
returns-clause-walked c =
    rw (← c.self.view_is) (walked c.self.inside.rows.words c.cells.result.words.now c.args.root c.args.object
    c.args.after.0 c.start-first.result c.row_above.result c.cells.ensures
    (rw (← c.self.view_is) at c.start-first.ensures) c.row_above.ensures.stands)

pub returns-clause-above : goal.returns-clause-above
returns-clause-above c = rw (← c.self.view_is) (λ some next mark at.
    c.row_above.ensures.above some next mark
    (subst (λ words. MarkAt (slice_get words) c.row_above.result next mark) (sym c.cells.ensures) at))
