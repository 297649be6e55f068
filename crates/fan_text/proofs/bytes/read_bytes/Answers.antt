use Rattle.std.proofs.Common.{◌≡◌, true, Some, None, arith, rules}
use Rattle.fan_text.specs.Reading.{is_response, bytes_at}
use Rattle.fan_text.proofs.BytesLemmas.{response_digits, bytes_takes, bytes_missed}
use Rattle.fan_text.proofs.bytes.read_bytes.Goals as goal

pub bytes_of-requires : goal.bytes_of-requires
bytes_of-requires c =
    let passes : is_response c.args.word.now ≡ true = grind arith in
    response_digits c.args.word.now passes

pub returns-then-not-is_response-clause-none : goal.returns-then-not-is_response-clause-none
unfolding bytes_at
returns-then-not-is_response-clause-none c =
    let missed : bytes_at c.args.word.now ≡ None = search rules in
    rw missed at (bytes_missed c.args.word.now)

pub returns-clause-some : goal.returns-clause-some
unfolding bytes_at
returns-clause-some c =
    let read : bytes_at c.args.word.now ≡ Some c.in_ok-bytes_of.field-0.items = search rules in
    bytes_takes c.args.word.now c.in_ok-bytes_of.field-0.items read
