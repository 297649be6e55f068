-- What a change makes of the marks of one object, mark by mark.
use Rattle.std.specs.Prelude.{ℕ, ◌+◌, ◌/◌, ◌%◌, ◌^◌, ◌==◌, ◌&&◌, ◌||◌, Bool, true, false, not, List, [], ◌∷◌, ◌++◌, Option, Some, None, is_some, nat_lt, if◌then◌else◌}
use Rattle.fan_bits.specs.declared.change.Change.{Change}
use Rattle.fan_bits.specs.declared.change.Change.TheVariants.{Put, Flush, Clear, DropGroup, DropObject}
use Rattle.fan_bits.specs.declared.mark.Mark.{Mark}
use Rattle.fan_bits.specs.Marks.{listed, order_number, order_of, same_kind, same_mark, standing, updated}
use Rattle.fan_build.specs.declared.edit.Edit.{Edit}
use Rattle.fan_build.specs.declared.edit.Scope.{Scope}
use Rattle.fan_build.specs.declared.edit.Scope.TheVariants.{Everywhere, Object, Nowhere}
use Rattle.fan_build.specs.declared.effect.Effect.{Effect}

-- one object; a number above 65,535 is none of an object
abbrev pub scope_at : ℕ → Scope
scope_at object = if nat_lt 65535 object then Nowhere else Object object

-- the objects on which a change is made
abbrev pub scope_of : Change → Scope
scope_of (Put group class words object) = scope_at object
scope_of (Flush group kind) = Everywhere
scope_of (Clear object) = scope_at object
scope_of (DropGroup group) = Everywhere
scope_of (DropObject object) = scope_at object

-- an object, if a change may be made on it: a Put is made on its own
abbrev pub scope_on : Change → ℕ → Scope
scope_on (Put group class words own) object = if own == object then scope_at object else Nowhere
scope_on _ object = scope_at object

-- a change where it is made, and its part on one object
abbrev pub edit_of : Change → Edit
edit_of change = record { change = change; scope = scope_of change }

abbrev pub edit_on : Change → ℕ → Edit
edit_on change object = record { change = change; scope = scope_on change object }

-- a change goes down to a row that stands for a digit, with so many index rows below
abbrev pub goes : Scope → ℕ → ℕ → ℕ → Bool
goes Everywhere row depth digit = not (row == 0)
goes (Object object) row depth digit = object / 4 ^ depth % 4 == digit
goes Nowhere row depth digit = false

-- a mark is the one on which bits are put
abbrev pub is_at : Change → Mark → Bool
is_at (Put group class words object) mark = order_of mark == order_number class group
is_at _ mark = false

-- a mark comes behind the place where bits are put
abbrev pub is_past : Change → Mark → Bool
is_past (Put group class words object) mark = nat_lt (order_number class group) (order_of mark)
is_past _ mark = false

-- what a write to a file leaves of a mark
unfoldable pub cleared_mark : ℕ → Mark → Option Mark
cleared_mark object mark =
    if not (mark.object == object) || mark.survives then Some mark
    else standing (record mark { ignored = 0 })

-- what a change leaves of a mark to which it comes
abbrev pub kept : Change → Mark → Option Mark
kept (Put group class words object) mark =
    if order_of mark == order_number class group
    then updated (Some mark) (Put group class words object) else Some mark
kept (Flush group kind) mark =
    if mark.group == group && same_kind mark.kind kind then None else Some mark
kept (Clear object) mark = cleared_mark object mark
kept (DropGroup group) mark = if mark.group == group then None else Some mark
kept (DropObject object) mark = if mark.object == object then None else Some mark

-- the marks of an object after a change that comes to them
abbrev pub edited : Change → List Mark → List Mark
edited change [] = listed (updated None change)
edited change (mark ∷ marks) =
    if is_past change mark then listed (updated None change) ++ mark ∷ marks
    else listed (kept change mark) ++ (if is_at change mark then marks else edited change marks)

-- what is left of a mark is the mark itself
abbrev pub stays : Option Mark → Mark → Bool
stays None mark = false
stays (Some left) mark = same_mark left mark

-- there is a mark
abbrev pub has_any : List Mark → Bool
has_any [] = false
has_any (mark ∷ marks) = true

-- nothing is altered
abbrev pub no_effect : Bool → Effect
no_effect left = record { altered = false; left = left; taken = 0; marks = 0 }

-- a mark is added, if there is one, before others
abbrev pub added_effect : Option Mark → Bool → Effect
added_effect None left = no_effect left
added_effect (Some mark) left = record { altered = true; left = true; taken = 1; marks = 0 }

-- a mark stays, or is replaced by what is left of it, before others
abbrev pub replaced_effect : Option Mark → Bool → Effect → Effect
replaced_effect left same rest =
    if same && not rest.altered then no_effect true
    else record {
      altered = true;
      left = is_some left || rest.left;
      taken = rest.taken + (if is_some left then 1 else 0);
      marks = rest.marks + (if same then 0 else 1);
    }

-- the effect of a change on the marks of a chain to which it comes: a mark before an altered one is copied
abbrev pub chain_effect : Change → List Mark → Effect
chain_effect change [] = added_effect (updated None change) false
chain_effect change (mark ∷ marks) =
    if is_past change mark then added_effect (updated None change) true
    else replaced_effect (kept change mark) (stays (kept change mark) mark)
    (if is_at change mark then no_effect (has_any marks) else chain_effect change marks)
