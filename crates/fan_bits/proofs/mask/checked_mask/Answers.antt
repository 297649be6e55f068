use Rattle.std.proofs.Common.{◌<◌, ◌^◌, rules, sym}
use Rattle.fan_bits.proofs.Masks.{mask_small}
use Rattle.fan_bits.proofs.mask.checked_mask.Goals as goal

pub overflow_cast-result : goal.overflow_cast-result
overflow_cast-result c =
    let small : c.args.mask < 2 ^ 32 =
    mask_small c.args.mask (search rules) (sym c.in_ok-bits.ensures.found) in
    search rules
