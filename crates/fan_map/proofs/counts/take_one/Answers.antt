use Rattle.std.proofs.Common.{◌-◌, None, Some, arith}
use Rattle.fan_map.proofs.Numbers.{found_replaced, number_taken}
use Rattle.fan_map.proofs.counts.take_one.Goals as goal

pub returns-then-number-gt1 : goal.returns-then-number-gt1
returns-then-number-gt1 c =
    let old = c.args.counts.now.entries in
    let new = c.replace.new.self.entries in
    let now = c.number_at-number.result - 1 in
    number_taken old new c.args.key (Some now)
    (found_replaced old new c.args.key now c.replace.ensures.found c.requires) (omega arith)

pub returns-else-number-gt1 : goal.returns-else-number-gt1
returns-else-number-gt1 c =
    number_taken c.args.counts.now.entries c.remove.new.self.entries c.args.key None c.remove.ensures.found
    (omega arith)
