use Rattle.std.proofs.Common.{◌-◌, length, arith}
use Rattle.fan_build.proofs.Standing.{numbers_count}
use Rattle.fan_build.proofs.tests.MemoryCounted.room.Goals as goal

pub returns : goal.returns
returns g c =
    let memory = c.args.self.now in
    let count = numbers_count memory.next (length memory.rows.items - memory.next) in
    omega (arith, count, c.saturating_sub.ensures, c.len.ensures)
