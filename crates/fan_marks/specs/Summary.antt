-- The summary of a change. No public clause cites this module.
use Rattle.std.specs.Prelude.{◌≡◌, ◌≢◌, ◌↔◌, ℕ, ◌&&◌, if◌then◌else◌, nat_lt, Bool, true, not, List, Option, is_some, length}
use Rattle.std.specs.Option.{option_eq}
use Rattle.fan_bits.specs.declared.change.Change.{Change}
use Rattle.fan_bits.specs.declared.change.Changed.{Changed}
use Rattle.fan_bits.specs.declared.mark.Mark.{Mark}
use Rattle.fan_bits.specs.Marks.{changed, retired, same_mark}

-- a list became another by a change, and this is its summary
pub record IsMade (old new : List Mark) (change : Change) (done : Changed) : Type 0 where
  pub made : new ≡ changed old change
  pub differs : (done.changed ≡ true) ↔ (changed old change ≢ old)
  pub gone : done.retired ≡ length (retired old change)

-- the mark at a key, if there is one, is another than before
abbrev pub is_other : Option Mark → Option Mark → Bool
is_other old new = not (option_eq same_mark old new)

-- the summary of a change at one key
abbrev pub summary_at : Option Mark → Option Mark → Changed
summary_at old new =
    record { changed = is_other old new; retired = if is_some old && is_other old new then 1 else 0 }

-- the summary of a change that took away, or emptied, so many marks
abbrev pub summary_of : ℕ → Changed
summary_of count = record { changed = nat_lt 0 count; retired = count }
