-- What was made for the four digits.
use Rattle.std.specs.Prelude.{◌==◌, ◌||◌, Bool, not}
use Rattle.fan_build.specs.declared.made.Parts.{Parts}

-- a mark is left below one of four
abbrev pub parts_left : Parts → Bool
parts_left parts =
    not (parts.first.row == 0)
    || not (parts.second.row == 0)
    || not (parts.third.row == 0)
    || not (parts.fourth.row == 0)
