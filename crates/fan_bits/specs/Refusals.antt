-- Which changes of marks are refused: fanotify_mark(2), under ENOENT and ENOSPC.
use Rattle.std.specs.Prelude.{◌≡◌, ℕ, ◌&&◌, Bool, true, false, not, List, Option, Some, None, is_some, is_none, nat_lt, if◌then◌else◌}
use Rattle.fan_bits.specs.declared.change.Change.{Change}
use Rattle.fan_bits.specs.declared.change.Change.TheVariants.{Put}
use Rattle.fan_bits.specs.declared.errno.Errno.{Errno}
use Rattle.fan_bits.specs.declared.errno.Errno.TheVariants.{Enoent, Enospc}
use Rattle.fan_bits.specs.declared.kind.Verb.{Verb}
use Rattle.fan_bits.specs.declared.kind.Verb.TheVariants.{Remove}
use Rattle.fan_bits.specs.declared.mark.Mark.{Mark}
use Rattle.fan_bits.specs.Marks.{IsChange, count_of, mark_of, put_mark}

-- the limit of marks per group without FAN_UNLIMITED_MARKS
abbrev pub max_marks : ℕ
max_marks = 8192

-- FAN_MARK_REMOVE
abbrev pub is_removal : Verb → Bool
is_removal Remove = true
is_removal _ = false

-- bits are to be removed from a mark that isn't there
abbrev pub lacks_mark : List Mark → Change → Bool
lacks_mark marks (Put group class words object) =
    is_removal words.verb && is_none (mark_of marks group object)
lacks_mark marks _ = false

-- a mark is to be made: the group has none on the object, and one with these bits stands
abbrev pub makes_mark : List Mark → Change → Bool
makes_mark marks (Put group class words object) =
    is_none (mark_of marks group object) && is_some (put_mark None group class words object)
makes_mark marks _ = false

-- a group that is at the limit would get another mark
abbrev pub is_too_many : List Mark → Change → Bool
is_too_many marks (Put group class words object) =
    makes_mark marks (Put group class words object) && not (nat_lt (count_of marks group) max_marks)
is_too_many marks _ = false

-- why a change is refused, if it is, of a group with FAN_UNLIMITED_MARKS or without
abbrev pub refusal_of : List Mark → Change → Bool → Option Errno
refusal_of marks change unlimited =
    if lacks_mark marks change then Some Enoent
    else if not unlimited && is_too_many marks change then Some Enospc else None

-- a change that can be made, and removes bits from no mark that isn't there
pub record MayChange (marks : List Mark) (change : Change) : Type 0 where
  pub is_change : IsChange marks change
  pub has_mark : lacks_mark marks change ≡ false
