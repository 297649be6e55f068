-- The keys of a mark in the two indexes of a book. No public clause cites this module.
use Rattle.std.specs.Prelude.{ℕ, Bool, List, ◌++◌, Option, filter}
use Rattle.std.specs.BTreeMap.{is_at}
use Rattle.std.specs.declared.cmp.Ordering.{Ordering}
use Rattle.fan_bits.specs.declared.class.Class.{Class}
use Rattle.fan_bits.specs.declared.mark.Mark.{Mark}
use Rattle.fan_bits.specs.Marks.{is_before, is_behind, listed, order_number}
use Rattle.fan_marks.specs.contracts.keys.GroupKeyOrd.TheImpl as group_ord
use Rattle.fan_marks.specs.contracts.keys.ObjectKeyOrd.TheImpl as object_ord
use Rattle.fan_marks.specs.declared.keys.GroupKey.{GroupKey}
use Rattle.fan_marks.specs.declared.keys.ObjectKey.{ObjectKey}

-- the order of all marks: by object, and on one object by the order of groups
abbrev pub object_cmp : ObjectKey → ObjectKey → Ordering
object_cmp = (object_ord.ghosts).cmp

-- the order by group, in a group by the kind of the object, and in a kind by object
abbrev pub group_cmp : GroupKey → GroupKey → Ordering
group_cmp = (group_ord.ghosts).cmp

-- the key in the first order of a group's mark on an object
abbrev pub key_at : ℕ → Class → ℕ → ObjectKey
key_at object class group = record { object = object; order = record { 0 = order_number class group } }

-- the key of a mark in the first order
abbrev pub object_key : Mark → ObjectKey
object_key mark = key_at mark.object mark.class mark.group

-- its key in the second
abbrev pub group_key : Mark → GroupKey
group_key mark = record { group = mark.group; kind = mark.kind; object = mark.object }

-- a mark has a key of the first order
abbrev pub has_object_key : ObjectKey → Mark → Bool
has_object_key key mark = is_at (object_cmp key) (object_key mark)

-- a mark has a key of the second
abbrev pub has_group_key : GroupKey → Mark → Bool
has_group_key key mark = is_at (group_cmp key) (group_key mark)

-- two lists with a mark, or none, between them
abbrev pub between : List Mark → Option Mark → List Mark → List Mark
between front here back = front ++ listed here ++ back

-- the marks before a key
abbrev pub before : ObjectKey → List Mark → List Mark
before key marks = filter (is_before key.object key.order.0) marks

-- the marks behind a key
abbrev pub behind : ObjectKey → List Mark → List Mark
behind key marks = filter (is_behind key.object key.order.0) marks

-- the marks with another one at a key, or with none there
abbrev pub replaced : List Mark → ObjectKey → Option Mark → List Mark
replaced marks key new = between (before key marks) new (behind key marks)
