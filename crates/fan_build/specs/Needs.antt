-- How many rows a change takes: docs/FORMATS.md, "Rows".
use Rattle.std.specs.Prelude.{ℕ, zero, suc, ◌+◌, ◌*◌, ◌/◌, ◌^◌, ◌==◌, ◌&&◌, Bool, List, filter, length, if◌then◌else◌}
use Rattle.std.specs.List.{list_any}
use Rattle.fan_bits.specs.declared.change.Change.{Change}
use Rattle.fan_bits.specs.declared.mark.Mark.{Mark}
use Rattle.fan_bits.specs.Marks.{changed, on}
use Rattle.fan_rows.specs.Costs.{altered, upto}

-- a mark is on an object of a block: of those with the same digits but for so many
abbrev pub is_within : ℕ → ℕ → Mark → Bool
is_within depth block mark = mark.object / 4 ^ depth == block

-- the rows that are taken for the marks of an object: one for each mark that it then has and that comes no
-- later than the last altered one
abbrev pub needed_on : List Mark → List Mark → ℕ
needed_on old new = length (filter (upto (altered old new)) new)

-- the rows that are taken for the objects of a block: those for its four parts, and an index row where a mark
-- is altered and one is left
abbrev pub needed_within : List Mark → List Mark → ℕ → ℕ → ℕ
needed_within old new zero object = needed_on (on object old) (on object new)
needed_within old new (suc depth) block =
    needed_within old new depth (4 * block + 0)
    + needed_within old new depth (4 * block + 1)
    + needed_within old new depth (4 * block + 2)
    + needed_within old new depth (4 * block + 3)
    + (if list_any (is_within (suc depth) block) (altered old new) && list_any (is_within (suc depth) block) new
    then 1 else 0)

-- the rows that are taken where one list of marks becomes another
unfoldable pub needed_between : List Mark → List Mark → ℕ
needed_between old new = needed_within old new 8 0

-- the rows that a change takes
abbrev pub needed_rows : List Mark → Change → ℕ
needed_rows marks change = needed_between marks (changed marks change)
