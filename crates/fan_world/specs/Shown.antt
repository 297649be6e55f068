-- A single step of an open access by what its section shows, whatever that is.
use Rattle.std.specs.Prelude.{◌≡◌, ℕ, List, [], ◌∷◌, Some, None, Result, Ok, Err}
use Rattle.std.specs.BTreeMap.{is_at}
use Rattle.std.specs.Map.{lookup}
use Rattle.std.specs.Ordering.{nat_cmp}
use Rattle.fan_access.specs.Access.{AccessState, access_step}
use Rattle.fan_access.specs.Kept.{IsAccess}
use Rattle.fan_bits.specs.declared.mark.Mark.{Mark}
use Rattle.fan_bits.specs.declared.outcome.StepOutcome.{StepOutcome}
use Rattle.fan_grace.specs.declared.section.Section.{Section}
use Rattle.fan_script.specs.declared.reply.Reply.{Reply}
use Rattle.fan_script.specs.declared.reply.Reply.TheVariants as replies
use Rattle.fan_world.specs.declared.open_accesses.OpenAccess.{OpenAccess}
use Rattle.fan_world.specs.declared.refused.Refused.{Refused}
use Rattle.fan_world.specs.declared.refused.Refused.TheVariants.{No, NoMemory}
use Rattle.fan_world.specs.Machine.{PartsOver}
use Rattle.fan_world.specs.Opened.{HasStepped}

-- the open access with a number did a single step. Take the access as it is kept at the number, and a state for
-- which it stands, whose view is what its section shows: the outcome, the listeners and the access as it is kept
-- afterwards are those of the step of that state, for which a group that isn't open counts as closed
abbrev pub HasShown : {S : Type 0} → (S → Section → List Mark → Type 0) → ℕ → PartsOver S → PartsOver S → Reply
    → Type 0
HasShown shows number old new reply =
    (kept : OpenAccess) (access : AccessState)
    → lookup (is_at (nat_cmp number)) old.accesses ≡ Some kept
    → shows old.sections kept.section access.view
    → IsAccess access.view kept.access access
    → (outcome : StepOutcome) × (reply ≡ replies.Out (outcome ∷ []))
    × HasStepped number kept.section access.view (access_step old.groups access) outcome new.groups old.accesses
    new.accesses

-- the same of an attempt of a step: it is refused only if no access is open with the number
abbrev pub IsShown : {S : Type 0} → (S → Section → List Mark → Type 0) → ℕ → PartsOver S → PartsOver S
    → Result Reply Refused → Type 0
IsShown shows number old new (Ok reply) = HasShown shows number old new reply
IsShown shows number old new (Err (No errno)) = lookup (is_at (nat_cmp number)) old.accesses ≡ None
IsShown shows number old new (Err NoMemory) = Unit {0}
