use Rattle.std.proofs.Common.{◌≡◌, Some, None, rules}
use Rattle.fan_text.specs.Reading.{hex_at}
use Rattle.fan_text.proofs.HexLemmas.{hex_takes, hex_missed}
use Rattle.fan_text.proofs.hex.read_hex.Goals as goal

pub returns-then-not-is_numeral-clause-none : goal.returns-then-not-is_numeral-clause-none
unfolding hex_at
returns-then-not-is_numeral-clause-none c =
    let missed : hex_at c.args.word.now ≡ None = search rules in
    rw missed at (hex_missed c.args.word.now)

pub returns-then-not-are_hex_digits-clause-none : goal.returns-then-not-are_hex_digits-clause-none
unfolding hex_at
returns-then-not-are_hex_digits-clause-none c =
    let missed : hex_at c.args.word.now ≡ None = search rules in
    rw missed at (hex_missed c.args.word.now)

pub returns-clause-some : goal.returns-clause-some
unfolding hex_at
returns-clause-some c =
    let read : hex_at c.args.word.now ≡ Some c.digits_value.result = search rules in
    hex_takes c.args.word.now c.digits_value.result read
