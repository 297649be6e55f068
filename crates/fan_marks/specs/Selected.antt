-- Which marks a change takes away, and which lose what they ignore. No public clause cites this module.
use Rattle.std.specs.Prelude.{◌≡◌, ℕ, ◌==◌, ◌&&◌, Bool, true, false, not, List, Option, None, Some, All, find, if◌then◌else◌}
use Rattle.std.specs.Option.{IsSomeAnd}
use Rattle.fan_bits.specs.declared.change.Change.{Change}
use Rattle.fan_bits.specs.declared.change.Change.TheVariants.{Flush, DropGroup, DropObject}
use Rattle.fan_bits.specs.declared.class.Class.{Class}
use Rattle.fan_bits.specs.declared.kind.Kind.{Kind}
use Rattle.fan_bits.specs.declared.kind.Kind.TheVariants.{Inode}
use Rattle.fan_bits.specs.declared.mark.Mark.{Mark}
use Rattle.fan_bits.specs.Marks.{same_kind}
use Rattle.fan_marks.specs.declared.keys.GroupKey.{GroupKey}
use Rattle.fan_marks.specs.declared.keys.ObjectKey.{ObjectKey}
use Rattle.fan_marks.specs.declared.selection.Selection.{Selection}
use Rattle.fan_marks.specs.declared.selection.Selection.TheVariants.{OfKind, OfGroup, OnObject}
use Rattle.fan_marks.specs.Keys.{group_key, has_object_key, key_at}

-- the marks with a key are selected
abbrev pub selects : Selection → GroupKey → Bool
selects (OfKind group kind) key = key.group == group && same_kind key.kind kind
selects (OfGroup group) key = key.group == group
selects (OnObject object) key = key.object == object

-- a mark is selected
abbrev pub is_selected : Selection → Mark → Bool
is_selected selection mark = selects selection (group_key mark)

-- the change that takes away what is selected
abbrev pub dropping : Selection → Change
dropping (OfKind group kind) = Flush group kind
dropping (OfGroup group) = DropGroup group
dropping (OnObject object) = DropObject object

-- what is selected begins with a group and a kind
abbrev pub IsStart : Selection → ℕ → Kind → Type 0
IsStart (OfKind group kind) first least = (first ≡ group) × (least ≡ kind)
IsStart (OfGroup group) first least = (first ≡ group) × (least ≡ Inode)
IsStart (OnObject object) first least = ⊥

-- the key of one of the marks that pass a test, or none if none passes
abbrev pub IsOneOf : (Mark → Bool) → List Mark → Option ObjectKey → Type 0
IsOneOf p marks None = All (λ mark. p mark ≡ false) marks
IsOneOf p marks (Some key) = IsSomeAnd (find (has_object_key key) marks) (λ mark. p mark ≡ true)

-- the mark of an entry, if it is on an object
abbrev pub on_object : ℕ → Option (ObjectKey × Mark) → Option Mark
on_object object None = None
on_object object (Some entry) = if entry.0.object == object then Some entry.1 else None

-- the key of the mark that an entry stands for, if it is selected
abbrev pub selected_key : Selection → Option (GroupKey × Class) → Option ObjectKey
selected_key selection None = None
selected_key selection (Some entry) =
    if selects selection entry.0 then Some (key_at entry.0.object entry.1 entry.0.group) else None

-- a mark loses what it ignores when its file is written to
abbrev pub forgets : ℕ → Mark → Bool
forgets object mark = mark.object == object && not mark.survives && not (mark.ignored == 0)
