use Rattle.std.proofs.Common.{arith}
use Rattle.fan_queue.proofs.KeyLemmas.{numbers_below}
use Rattle.fan_queue.proofs.table.front_number.Goals as goal

pub overflow_sub-result : goal.overflow_sub-result
overflow_sub-result c =
    omega (arith, c.len.ensures, numbers_below c.args.next_entry c.args.entries.now.items c.requires)

pub returns : goal.returns
returns c = omega (arith, c.len.ensures, numbers_below c.args.next_entry c.args.entries.now.items c.requires)
