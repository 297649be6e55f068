-- The book of all marks, and why it refuses a change: fanotify_mark(2).
use Rattle.std.specs.Prelude.{◌≡◌, ℕ, List, Option, Some, None}
use Rattle.fan_bits.specs.declared.errno.Errno.{Errno}
use Rattle.fan_bits.specs.declared.errno.Errno.TheVariants.{Enoent, Enospc}
use Rattle.fan_bits.specs.declared.mark.Mark.{Mark}
use Rattle.fan_bits.specs.Refusals.{max_marks}
use Rattle.fan_marks.specs.declared.refused.MarkRefused.{MarkRefused}
use Rattle.fan_marks.specs.declared.refused.MarkRefused.TheVariants.{NoMark, Limit, NoMemory}

-- the list of marks, and how many new marks the book takes whatever memory is left
pub record BookState : Type 0 where
  pub marks : List Mark
  pub spare : ℕ

-- a change was refused for its cause, or because memory ran out when there was no room
abbrev pub IsRefused : BookState → MarkRefused → Option Errno → Type 0
IsRefused book NoMark refusal = refusal ≡ Some Enoent
IsRefused book (Limit marks) refusal = (refusal ≡ Some Enospc) × (marks ≡ max_marks)
IsRefused book NoMemory refusal = (refusal ≡ None) × (book.spare ≡ 0)

-- the refusal that stands for an errno
abbrev pub IsErrno : MarkRefused → Errno → Type 0
IsErrno NoMark errno = errno ≡ Enoent
IsErrno (Limit marks) errno = (errno ≡ Enospc) × (marks ≡ max_marks)
IsErrno NoMemory errno = ⊥
