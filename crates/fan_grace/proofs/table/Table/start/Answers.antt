use Rattle.std.proofs.Common.{sym, subst, slice_get}
use Rattle.fan_rows.specs.Trees.{Lies}
use Rattle.fan_grace.proofs.Hinted.{start_first}
use Rattle.fan_grace.proofs.table.Table.start.Goals as goal

pub connector-requires : goal.connector-requires
connector-requires c =
    let asks = rw (← c.self.view_is) at c.requires in
    (asks.0, subst (λ words. Lies (slice_get words) asks.0 8) (sym c.cells.ensures) asks.1, asks.2)

pub returns-in-Some : goal.returns-in-Some
returns-in-Some c =
    rw (← c.self.view_is) (c.in-Some.ensures (slice_get c.self.inside.rows.words) c.self.invariant.hinted)

pub returns-in-None : goal.returns-in-None
returns-in-None c =
    let asks = rw (← c.self.view_is) at c.requires in
    let first = c.connector.ensures.first asks.0
    (subst (λ words. Lies (slice_get words) asks.0 8) (sym c.cells.ensures) asks.1) asks.2 in
    rw (← c.self.view_is) (start_first (slice_get c.self.inside.rows.words) c.args.root c.args.object
    c.args.after.0 c.connector.result asks.0 asks.1 asks.2 first)
