use Rattle.std.proofs.Common.{◌≡◌, true, ◌++◌, length}
use Rattle.std.specs.List.{list_all}
use Rattle.fan_text.specs.Reading.{is_hex_digit, bytes_of}
use Rattle.fan_text.proofs.bytes.bytes_of.Given as goal

-- digits are left, and the bytes so far and those of what is left are those of all
abbrev pub invariant-loop-rest : goal.invariant-loop-rest
invariant-loop-rest l = (list_all is_hex_digit l.rest ≡ true) ×
    (l.bytes.items ++ bytes_of l.rest ≡ bytes_of l.digits)

abbrev pub decreases-loop-rest : goal.decreases-loop-rest
decreases-loop-rest l = length l.rest
