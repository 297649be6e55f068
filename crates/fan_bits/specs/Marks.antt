-- The marks of all groups, as a list sorted by object and, on one object, by the order of groups; and what a
-- change makes of it: fanotify_mark(2).
use Rattle.std.specs.Prelude.{◌≡◌, ◌≢◌, ℕ, ◌+◌, ◌*◌, ◌<◌, ◌≤◌, ◌^◌, ◌==◌, ◌&&◌, ◌||◌, Bool, true, false, not, List, [], ◌∷◌, ◌++◌, Option, Some, None, All, filter, find, map, count_by, nat_lt, if◌then◌else◌}
use Rattle.std.specs.Int.RustNames.{bit_and, bit_or, bit_xor}
use Rattle.std.specs.Bool.{beq}
use Rattle.std.specs.List.{list_any}
use Rattle.fan_bits.specs.declared.change.Change.{Change}
use Rattle.fan_bits.specs.declared.change.Change.TheVariants.{Put, Flush, Clear, DropGroup, DropObject}
use Rattle.fan_bits.specs.declared.class.Class.{Class}
use Rattle.fan_bits.specs.declared.kind.Kind.{Kind}
use Rattle.fan_bits.specs.declared.kind.Kind.TheVariants as kinds
use Rattle.fan_bits.specs.declared.kind.Verb.{Verb}
use Rattle.fan_bits.specs.declared.kind.Verb.TheVariants as verbs
use Rattle.fan_bits.specs.declared.mark.Mark.{Mark}
use Rattle.fan_bits.specs.declared.mark_call.MarkWords.{MarkWords}
use Rattle.fan_bits.specs.MarkWords.{event_on_child, ondir}
use Rattle.fan_bits.specs.Places.{IsObject}
use Rattle.fan_bits.specs.Words.{bit, rank_of}

-- the position of a group in the order of asks and tells: by class, and within a class by number
abbrev pub order_number : Class → ℕ → ℕ
order_number class group = rank_of class * 2 ^ 32 + group

-- the position of the group of a mark
abbrev pub order_of : Mark → ℕ
order_of mark = order_number mark.class mark.group

-- a mark comes before an order on an object
abbrev pub is_before : ℕ → ℕ → Mark → Bool
is_before object order mark =
    nat_lt mark.object object || (mark.object == object && nat_lt (order_of mark) order)

-- a mark comes after an order on an object
abbrev pub is_behind : ℕ → ℕ → Mark → Bool
is_behind object order mark =
    nat_lt object mark.object || (mark.object == object && nat_lt order (order_of mark))

-- the marks on an object
abbrev pub on : ℕ → List Mark → List Mark
on object marks = filter (λ mark. mark.object == object) marks

-- the first mark on an object after an order
abbrev pub next_on : List Mark → ℕ → ℕ → Option Mark
next_on marks object after = find (λ mark. nat_lt after (order_of mark)) (on object marks)

-- the mark of a group on an object; there is at most one
abbrev pub mark_of : List Mark → ℕ → ℕ → Option Mark
mark_of marks group object = find (λ mark. mark.group == group && mark.object == object) marks

-- how many marks a group has
abbrev pub count_of : List Mark → ℕ → ℕ
count_of marks group = count_by (λ mark. mark.group == group) marks

-- FAN_ONDIR and FAN_EVENT_ON_CHILD, which qualify events and are none
abbrev pub qualifiers : ℕ
qualifiers = bit_or (bit ondir) (bit event_on_child)

-- a word without the bits of another
abbrev pub without : ℕ → ℕ → ℕ
without word bits = bit_and word (bit_xor bits 0xffffffff)

-- a mark stands: it has an event in its mask or in its ignored set
abbrev pub stands : Mark → Bool
stands mark = not (without mark.mask qualifiers == 0) || not (mark.ignored == 0)

-- the mark to which a Put is applied: the one that is there, or a new one without bits
abbrev pub or_blank : Option Mark → ℕ → Class → Kind → ℕ → Mark
or_blank (Some old) group class kind object = old
or_blank None group class kind object = record {
  group = group;
  class = class;
  object = object;
  kind = kind;
  mask = 0;
  ignored = 0;
  survives = false;
}

-- FAN_MARK_ADD adds the bits to the mask, or, without the qualifiers, to the ignored set, which may then be
-- told to survive a write to the file, and goes on doing so
abbrev pub with_bits : MarkWords → Mark → Mark
with_bits words mark =
    if words.ignored
    then record mark {
      ignored = bit_or mark.ignored (without words.mask qualifiers);
      survives = mark.survives || words.survives;
    }
    else record mark { mask = bit_or mark.mask words.mask }

-- FAN_MARK_REMOVE removes the bits from the mask, or from the ignored set
abbrev pub without_bits : MarkWords → Mark → Mark
without_bits words mark =
    if words.ignored then record mark { ignored = without mark.ignored words.mask }
    else record mark { mask = without mark.mask words.mask }

-- the mark with bits put on it or taken from it
abbrev pub put_on : Verb → MarkWords → Mark → Mark
put_on verbs.Add words mark = with_bits words mark
put_on verbs.Remove words mark = without_bits words mark
put_on verbs.Flush words mark = mark

-- the mark, if it stands
abbrev pub standing : Mark → Option Mark
standing mark = if stands mark then Some mark else None

-- the mark of a group on an object after bits were put on it or taken from it, if it stands
unfoldable pub put_mark : Option Mark → ℕ → Class → MarkWords → ℕ → Option Mark
put_mark old group class words object =
    standing (put_on words.verb words (or_blank old group class words.kind object))

-- the mark of a group on an object after a Put; what other changes do to marks is said by `changed`
unfoldable pub updated : Option Mark → Change → Option Mark
updated old (Put group class words object) = put_mark old group class words object
updated old _ = old

-- the list of an optional mark
abbrev pub listed : Option Mark → List Mark
listed None = []
listed (Some mark) = mark ∷ []

-- the two kinds are the same
abbrev pub same_kind : Kind → Kind → Bool
same_kind kinds.Inode kinds.Inode = true
same_kind kinds.Mount kinds.Mount = true
same_kind kinds.Filesystem kinds.Filesystem = true
same_kind _ _ = false

-- a mark after a write to a file: one on the file ignores nothing any more, unless its ignored set survives
abbrev pub cleared : ℕ → Mark → Mark
cleared object mark =
    if mark.object == object && not mark.survives then record mark { ignored = 0 } else mark

-- the marks after a change
unfoldable pub changed : List Mark → Change → List Mark
changed marks (Put group class words object) =
    let order = order_number class group in
    filter (is_before object order) marks
    ++ listed (put_mark (mark_of marks group object) group class words object)
    ++ filter (is_behind object order) marks
changed marks (Flush group kind) =
    filter (λ mark. not (mark.group == group && same_kind mark.kind kind)) marks
changed marks (Clear object) = filter stands (map (cleared object) marks)
changed marks (DropGroup group) = filter (λ mark. not (mark.group == group)) marks
changed marks (DropObject object) = filter (λ mark. not (mark.object == object)) marks

-- the two marks are the same, field by field
unfoldable pub same_mark : Mark → Mark → Bool
same_mark mark other =
    mark.group == other.group
    && rank_of mark.class == rank_of other.class
    && mark.object == other.object
    && same_kind mark.kind other.kind
    && mark.mask == other.mask
    && mark.ignored == other.ignored
    && beq mark.survives other.survives

-- the marks of a list that are not in another
abbrev pub gone : List Mark → List Mark → List Mark
gone old new = filter (λ mark. not (list_any (same_mark mark) new)) old

-- the marks that a change removes, or replaces by different ones
unfoldable pub retired : List Mark → Change → List Mark
retired marks change = gone marks (changed marks change)

-- a mark: its numbers and bits are in their ranges, and it stands
pub record IsMark (mark : Mark) : Type 0 where
  pub group : (1 ≤ mark.group) × (mark.group < 2 ^ 32)
  pub object : IsObject mark.object
  pub mask : mark.mask < 2 ^ 32
  pub ignored : mark.ignored < 2 ^ 32
  pub whole : stands mark ≡ true

-- each mark comes before all that follow it
abbrev pub Rises : List Mark → Type 0
Rises [] = Unit {0}
Rises (mark ∷ more) = All (λ other. is_before other.object (order_of other) mark ≡ true) more × Rises more

-- a list of marks: each is one, they are in order, with at most one of a group on an object, and all marks of
-- a group have one class
pub record IsMarkList (marks : List Mark) : Type 0 where
  pub each : All IsMark marks
  pub rises : Rises marks
  pub classes : All (λ mark. All (λ other. mark.group ≡ other.group → mark.class ≡ other.class) marks) marks

-- a Put: the numbers are in their ranges, the verb is not FAN_MARK_FLUSH, and all marks of the group have its
-- class
pub record IsPut (marks : List Mark) (group : ℕ) (class : Class) (words : MarkWords) (object : ℕ)
    : Type 0 where
  pub numbered : (1 ≤ group) × (group < 2 ^ 32)
  pub placed : IsObject object
  pub mask : words.mask < 2 ^ 32
  pub verb : words.verb ≢ verbs.Flush
  pub classes : All (λ mark. mark.group ≡ group → mark.class ≡ class) marks

-- a change that can be made of a list
abbrev pub IsChange : List Mark → Change → Type 0
IsChange marks (Put group class words object) = IsPut marks group class words object
IsChange marks _ = Unit {0}
