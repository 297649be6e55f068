-- How many rows a change copies at most, and how many a list of marks takes: docs/FORMATS.md, "Rows".
use Rattle.std.specs.Prelude.{ℕ, ◌+◌, ◌*◌, ◌==◌, Bool, not, List, [], ◌∷◌, ◌++◌, filter, length, nat_lt, if◌then◌else◌, sum_by}
use Rattle.std.specs.List.{list_any}
use Rattle.fan_bits.specs.declared.change.Change.{Change}
use Rattle.fan_bits.specs.declared.mark.Mark.{Mark}
use Rattle.fan_bits.specs.Marks.{changed, gone, on, order_of}

-- the objects of marks, each once
abbrev pub objects_of : List Mark → List ℕ
objects_of [] = []
objects_of (mark ∷ marks) =
    if list_any (λ object. object == mark.object) (objects_of marks) then objects_of marks
    else mark.object ∷ objects_of marks

-- the marks that aren't the same in two lists, as they are in either
abbrev pub altered : List Mark → List Mark → List Mark
altered old new = gone old new ++ gone new old

-- the marks of two lists on one object, one of each group
abbrev pub in_either : List Mark → List Mark → List Mark
in_either old new =
    old ++ filter (λ mark. not (list_any (λ other. other.group == mark.group) old)) new

-- a mark comes no later than one of a list
abbrev pub upto : List Mark → Mark → Bool
upto others mark = list_any (λ other. not (nat_lt (order_of other) (order_of mark))) others

-- the rows that are copied where the marks on an object are replaced: eight index rows, and one for each mark
-- that comes no later than the last altered one
abbrev pub copied_on : List Mark → List Mark → ℕ
copied_on old new = 8 + length (filter (upto (altered old new)) (in_either old new))

-- the rows that are copied at most where one list of marks becomes another, over the objects on which a mark is
-- altered
unfoldable pub copied_between : List Mark → List Mark → ℕ
copied_between old new = sum_by (λ object. copied_on (on object old) (on object new)) (objects_of (altered old new))

-- the rows that a change copies at most
abbrev pub copied_rows : List Mark → Change → ℕ
copied_rows marks change = copied_between marks (changed marks change)

-- the rows that a list of marks takes at most: eight index rows for each marked object, one row for each mark,
-- and row 0
unfoldable pub live_rows : List Mark → ℕ
live_rows marks = 8 * length (objects_of marks) + length marks + 1
