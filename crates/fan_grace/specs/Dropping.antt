-- Changes that take marks of a group away. No public clause cites this module.
use Rattle.std.specs.Prelude.{◌==◌, ◌&&◌, Bool, false}
use Rattle.fan_bits.specs.declared.change.Change.{Change}
use Rattle.fan_bits.specs.declared.change.Change.TheVariants.{Flush, DropGroup}
use Rattle.fan_bits.specs.declared.mark.Mark.{Mark}
use Rattle.fan_bits.specs.Marks.{same_kind}

-- the marks that a flush, or the end of a group, takes away
abbrev pub selected : Change → Mark → Bool
selected (Flush group kind) mark = mark.group == group && same_kind mark.kind kind
selected (DropGroup group) mark = mark.group == group
selected _ mark = false

-- a change that takes away marks of a group alone
abbrev pub IsDrop : Change → Type 0
IsDrop (Flush group kind) = Unit {0}
IsDrop (DropGroup group) = Unit {0}
IsDrop _ = ⊥
