-- Why a single step of an access has the outcome that it has.
use Rattle.std.specs.Prelude.{◌≡◌, ◌⊎◌, ℕ, Bool, true, false, List, Option, Some, None, is_some, slice_get}
use Rattle.fan_access.specs.Access.{AccessState, Asking, Telling, Waiting, asks, event_of, tells}
use Rattle.fan_access.specs.Rounds.{Turn}
use Rattle.fan_bits.specs.declared.outcome.StepOutcome.{StepOutcome}
use Rattle.fan_bits.specs.declared.outcome.StepOutcome.TheVariants as outcomes
use Rattle.fan_listener.specs.declared.answers.Verdict.{Verdict}
use Rattle.fan_listener.specs.declared.answers.Verdict.TheVariants.{Allow, Deny}
use Rattle.fan_queue.specs.declared.entry.Put.{Put}
use Rattle.fan_queue.specs.declared.entry.Put.TheVariants as puts
use Rattle.fan_listener.specs.Groups.{listener_at, open_listener, put_to}
use Rattle.fan_listener.specs.ListenerState.{ListenerState}
use Rattle.fan_listener.specs.Responses.{verdict_on}

-- the verdict on an entry that a listener keeps, if it keeps one: no access has taken it yet
abbrev pub kept_verdict : Option ListenerState → ℕ → Option Verdict
kept_verdict None entry = None
kept_verdict (Some listener) entry = verdict_on entry listener.answers

-- the access waits for the group to answer an entry, on which this verdict is kept, if any is
pub record WaitsFor (groups : List ListenerState) (access : AccessState) (group : ℕ)
    (verdict : Option Verdict) : Type 0 where
  pub at : ℕ
  pub entry : ℕ
  pub waits : access.phase ≡ Waiting at group entry
  pub kept : kept_verdict (listener_at groups group) entry ≡ verdict

-- the access is at a place of its tells: it has told those before, or has no turn of its asks left and tells
-- none yet
abbrev pub IsAtTell : AccessState → ℕ → Type 0
IsAtTell access at =
    (access.phase ≡ Telling at)
    ⊎ ((asked : ℕ) × (access.phase ≡ Asking asked) × (slice_get (asks access) asked ≡ None) × (at ≡ 0))

-- a turn comes next: of its asks, to be asked permission, or of its tells
abbrev pub HasNext : Bool → AccessState → Turn → Type 0
HasNext true access turn = (at : ℕ) × (access.phase ≡ Asking at) × (slice_get (asks access) at ≡ Some turn)
HasNext false access turn = (at : ℕ) × IsAtTell access at × (slice_get (tells access) at ≡ Some turn)

-- the access asks, or tells, this group next, and this becomes of the event
pub record PutsNext (perm : Bool) (groups : List ListenerState) (access : AccessState) (group : ℕ)
    (result : Put) : Type 0 where
  pub turn : Turn
  pub next : HasNext perm access turn
  pub its : turn.interest.group ≡ group
  pub became : (put_to groups turn.interest.group (event_of perm turn access)).0 ≡ result

-- the access has no turn left to ask or to tell
abbrev pub HasNoneLeft : AccessState → Type 0
HasNoneLeft access = (at : ℕ) × IsAtTell access at × (slice_get (tells access) at ≡ None)

-- the access waits for a group with no verdict kept, or asks or tells it and the event isn't taken
abbrev pub MeetsClosed : List ListenerState → AccessState → ℕ → Type 0
MeetsClosed groups access group =
    WaitsFor groups access group None
    ⊎ (PutsNext true groups access group puts.Closed ⊎ PutsNext false groups access group puts.Closed)

-- a group is open
abbrev pub is_group_open : List ListenerState → ℕ → Bool
is_group_open groups group = is_some (open_listener groups group)

-- the cause of each outcome
abbrev pub IsDueTo : List ListenerState → AccessState → StepOutcome → Type 0
IsDueTo groups access (outcomes.Asked group) = (entry : ℕ)
    × PutsNext true groups access group (puts.Queued entry)
IsDueTo groups access (outcomes.Full group) = (entry : ℕ)
    × PutsNext true groups access group (puts.Overflow entry)
IsDueTo groups access (outcomes.Blocked group) = WaitsFor groups access group None
    × (is_group_open groups group ≡ true)
IsDueTo groups access (outcomes.Allowed group) = WaitsFor groups access group (Some Allow)
IsDueTo groups access (outcomes.Denied group) = WaitsFor groups access group (Some Deny)
IsDueTo groups access (outcomes.Closed group) = MeetsClosed groups access group
    × (is_group_open groups group ≡ false)
IsDueTo groups access (outcomes.Queued group) = (entry : ℕ)
    × PutsNext false groups access group (puts.Queued entry)
IsDueTo groups access (outcomes.Merged group) = (entry : ℕ)
    × PutsNext false groups access group (puts.Merged entry)
IsDueTo groups access (outcomes.Overflow group) = (entry : ℕ)
    × PutsNext false groups access group (puts.Overflow entry)
IsDueTo groups access outcomes.Done = HasNoneLeft access
