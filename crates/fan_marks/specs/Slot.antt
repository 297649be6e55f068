-- What FAN_MARK_ADD and FAN_MARK_REMOVE find at the key of their mark, and leave there.
-- No public clause cites this module.
use Rattle.std.specs.Prelude.{◌≡◌, ℕ, ◌&&◌, Bool, not, List, Option, Some, None, IfSome, find, is_none, is_some, nat_lt, if◌then◌else◌}
use Rattle.fan_bits.specs.declared.class.Class.{Class}
use Rattle.fan_bits.specs.declared.errno.Errno.{Errno}
use Rattle.fan_bits.specs.declared.errno.Errno.TheVariants.{Enoent, Enospc}
use Rattle.fan_bits.specs.declared.kind.Verb.{Verb}
use Rattle.fan_bits.specs.declared.mark.Mark.{Mark}
use Rattle.fan_bits.specs.declared.mark_call.MarkWords.{MarkWords}
use Rattle.fan_bits.specs.Marks.{mark_of, put_mark}
use Rattle.fan_bits.specs.Refusals.{is_removal, max_marks}
use Rattle.fan_marks.specs.declared.put.Slot.{Slot}
use Rattle.fan_marks.specs.Keys.{group_key, has_object_key, key_at, object_key}
use Rattle.fan_marks.specs.Stored.{IsStorable}

-- the key of the group on the object, and the mark before and after
abbrev pub slot_of : List Mark → ℕ → Class → MarkWords → ℕ → Slot
slot_of marks group class words object = record {
  key = key_at object class group;
  old = mark_of marks group object;
  new = put_mark (mark_of marks group object) group class words object;
}

-- why a Put is refused, if it is, by the mark before and after, and by how many marks the group has
abbrev pub refusal_at : Option Mark → Option Mark → Verb → ℕ → Bool → Option Errno
refusal_at old new verb count unlimited =
    if is_removal verb && is_none old then Some Enoent
    else if not unlimited && (is_none old && is_some new && not (nat_lt count max_marks)) then Some Enospc
    else None

-- the mark after can take the place of the mark before
pub record IsFillable (marks : List Mark) (slot : Slot) : Type 0 where
  pub found : slot.old ≡ find (has_object_key slot.key) marks
  pub fits : IfSome slot.new (λ mark. IsStorable marks mark × (object_key mark ≡ slot.key))
  pub same : IfSome slot.old (λ old. IfSome slot.new (λ new. group_key old ≡ group_key new))
