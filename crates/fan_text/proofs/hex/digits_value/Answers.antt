use Rattle.std.proofs.Common.{◌+◌, arith}
use Rattle.fan_text.proofs.HexLemmas.{value_more, value_within}
use Rattle.fan_text.proofs.hex.digits_value.Goals as goal

pub overflow_mul-value : goal.overflow_mul-value
overflow_mul-value c =
    omega (
      arith,
      value_more c.args.digits.now c.loop-digit.digit-index c.requires.digits (omega arith),
      value_within c.args.digits.now (c.loop-digit.digit-index + 1) c.requires.digits c.requires.short,
    )

pub overflow_add-value : goal.overflow_add-value
overflow_add-value c =
    omega (
      arith,
      c.from.ensures,
      c.hex_value.ensures.value,
      value_more c.args.digits.now c.loop-digit.digit-index c.requires.digits (omega arith),
      value_within c.args.digits.now (c.loop-digit.digit-index + 1) c.requires.digits c.requires.short,
    )

pub loop-digit-preserved : goal.loop-digit-preserved
loop-digit-preserved c =
    omega (
      arith,
      c.from.ensures,
      c.hex_value.ensures.value,
      value_more c.args.digits.now c.loop-digit.digit-index c.requires.digits (omega arith),
    )
