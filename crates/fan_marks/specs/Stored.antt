-- How a book stores its marks. No public clause cites this module.
use Rattle.std.specs.Prelude.{◌≡◌, ℕ, ◌≤◌, Bool, true, List, All, map, find, length}
use Rattle.std.specs.BTreeMap.{is_at}
use Rattle.std.specs.Map.{lookup, values_of}
use Rattle.std.specs.Option.{option_map}
use Rattle.fan_bits.specs.declared.class.Class.{Class}
use Rattle.fan_bits.specs.declared.mark.Mark.{Mark}
use Rattle.fan_bits.specs.Marks.{IsMark, IsMarkList, count_of}
use Rattle.fan_map.specs.Counts.{number_at}
use Rattle.fan_marks.specs.declared.keys.GroupKey.{GroupKey}
use Rattle.fan_marks.specs.declared.keys.ObjectKey.{ObjectKey}
use Rattle.fan_marks.specs.Keys.{group_cmp, has_group_key, object_key}
use Rattle.fan_seen.specs.Seen.{has}

-- how many marks a book holds at most, so that their number is a u32
abbrev pub max_stored : ℕ
max_stored = 4294967295

-- marks that a book can hold
pub record AreWhole (marks : List Mark) : Type 0 where
  pub list : IsMarkList marks
  pub few : length marks ≤ max_stored

-- a mark that a book can hold beside others: it has the class of its group's marks
pub record IsStorable (marks : List Mark) (mark : Mark) : Type 0 where
  pub is : IsMark mark
  pub agrees : All (λ other. other.group ≡ mark.group → other.class ≡ mark.class) marks

-- the marks, each at its key
abbrev pub keyed : List Mark → List (ObjectKey × Mark)
keyed marks = map (λ mark. (object_key mark, mark)) marks

-- marks, each at its key; the class of each by its group, the kind of its object and the object; and how many
-- each group has
pub record AreStored (marks : List Mark) (by_object : List (ObjectKey × Mark))
    (by_group : List (GroupKey × Class)) (counts : List (ℕ × ℕ)) : Type 0 where
  pub whole : AreWhole marks
  pub entries : by_object ≡ keyed marks
  pub indexed : (key : GroupKey) → lookup (is_at (group_cmp key)) by_group
      ≡ option_map (λ mark. mark.class) (find (has_group_key key) marks)
  pub counted : (group : ℕ) → number_at counts group ≡ count_of marks group

-- the same of the marks that the first index has
abbrev pub IsStored : List (ObjectKey × Mark) → List (GroupKey × Class) → List (ℕ × ℕ) → Type 0
IsStored by_object by_group counts = AreStored (values_of by_object) by_object by_group counts

-- the objects of marks are in a set
abbrev pub AreMarked : List Bool → List Mark → Type 0
AreMarked marked marks = All (λ mark. has marked mark.object ≡ true) marks
