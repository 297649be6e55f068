use Rattle.std.proofs.Common.{◌≡◌, None, rules}
use Rattle.fan_text.specs.Reading.{decimal_at}
use Rattle.fan_text.proofs.DecimalLemmas.{decimal_found, decimal_missed}
use Rattle.fan_text.proofs.decimal.read_decimal.Goals as goal

pub returns-then-not-is_numeral-clause-none : goal.returns-then-not-is_numeral-clause-none
unfolding decimal_at
returns-then-not-is_numeral-clause-none c =
    let missed : decimal_at c.args.word.now ≡ None = search rules in
    rw missed at (decimal_missed c.args.word.now)

pub returns-then-not-are_digits-clause-none : goal.returns-then-not-are_digits-clause-none
unfolding decimal_at
returns-then-not-are_digits-clause-none c =
    let missed : decimal_at c.args.word.now ≡ None = search rules in
    rw missed at (decimal_missed c.args.word.now)

pub returns-clause-some : goal.returns-clause-some
unfolding decimal_at
returns-clause-some c =
    let read : c.ok.result ≡ decimal_at c.args.word.now = search rules in
    rw read (decimal_found c.args.word.now)

pub returns-clause-none : goal.returns-clause-none
unfolding decimal_at
returns-clause-none c =
    let read : c.ok.result ≡ decimal_at c.args.word.now = search rules in
    rw read (decimal_missed c.args.word.now)
