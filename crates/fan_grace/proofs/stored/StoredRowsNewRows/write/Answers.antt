use Rattle.std.proofs.Common.{◌-◌, arith}
use Rattle.fan_grace.proofs.Numbers.{in_range}
use Rattle.fan_grace.proofs.stored.StoredRowsNewRows.write.Goals as goal

pub write_at-requires : goal.write_at-requires
write_at-requires c =
    let stored = c.self.invariant.0 in
    let given = rw (← c.self.view_is) at c.requires in
    let row = in_range c.args.row 1 (c.self.inside.next - 1) given in
    omega (arith, row.1, c.deref_mut.ensures.value, stored.whole, stored.within, stored.above)
