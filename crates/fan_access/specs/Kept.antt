-- An access as it is kept, beside the marks by which it goes; and what it stands for.
use Rattle.std.specs.Prelude.{◌≡◌, ℕ, ◌+◌, List, [], ◌∷◌, ◌++◌, All, filter, drop, nat_lt}
use Rattle.fan_access.specs.Access.{AccessState, Asking, Stepped, Telling, Waiting, asks, tells}
use Rattle.fan_access.specs.declared.op.Op.{Op}
use Rattle.fan_access.specs.declared.phase.Cursor.{Cursor}
use Rattle.fan_access.specs.declared.phase.Phase.{Phase}
use Rattle.fan_access.specs.declared.phase.Phase.TheVariants as phases
use Rattle.fan_access.specs.declared.spot.Spot.{Spot}
use Rattle.fan_access.specs.Rounds.{Round, Turn, asked_rounds, told_rounds, turns, turns_of}
use Rattle.fan_bits.specs.declared.mark.Mark.{Mark}
use Rattle.fan_bits.specs.declared.outcome.StepOutcome.{StepOutcome}
use Rattle.fan_bits.specs.declared.place.Happening.{Happening}
use Rattle.fan_bits.specs.Interest.{interest_order, interests}
use Rattle.fan_listener.specs.ListenerState.{ListenerState}

-- an access without the marks by which it goes
pub record KeptAccess : Type 0 where
  pub op : Op
  pub spots : List Spot
  pub pid : ℕ
  pub tid : ℕ
  pub phase : Phase

-- the turns of these rounds: of the first one those of the groups behind an order, of the others all
abbrev pub turns_behind : List Mark → List Round → ℕ → List Turn
turns_behind marks [] after = []
turns_behind marks (round ∷ more) after =
    turns_of round
    (filter (λ interest. nat_lt after (interest_order interest)) (interests marks round.happening))
    ++ turns marks more

-- the turns that are left from a cursor on
abbrev pub turns_left : List Mark → List Round → Cursor → List Turn
turns_left marks rounds cursor = turns_behind marks (drop cursor.round rounds) cursor.after.0

-- the asks of an access from a number on are those that are left from a cursor on
abbrev pub AsksLeft : AccessState → ℕ → Cursor → Type 0
AsksLeft access at cursor =
    drop at (asks access) ≡ turns_left access.view (asked_rounds access.op access.spots) cursor

-- and so are its tells
abbrev pub TellsLeft : AccessState → ℕ → Cursor → Type 0
TellsLeft access at cursor =
    drop at (tells access) ≡ turns_left access.view (told_rounds access.op access.spots) cursor

-- the access stands where it is kept to stand
abbrev pub IsPhase : AccessState → Phase → Type 0
IsPhase access (phases.Asking cursor) = (at : ℕ) × (access.phase ≡ Asking at) × AsksLeft access at cursor
IsPhase access (phases.Waiting cursor group entry) =
    (at : ℕ) × (access.phase ≡ Waiting at group entry) × AsksLeft access (at + 1) cursor
IsPhase access (phases.Telling cursor) = (at : ℕ) × (access.phase ≡ Telling at) × TellsLeft access at cursor

-- some marks tell the same as others of whatever happens at a spot
abbrev pub TellsSame : List Mark → List Mark → Spot → Type 0
TellsSame marks view spot =
    (happening : Happening) → happening.place ≡ spot.place → interests marks happening ≡ interests view happening

-- some marks tell of an access whatever its view tells
abbrev pub SeesSame : List Mark → AccessState → Type 0
SeesSame marks access = All (TellsSame marks access.view) access.spots

-- an access is kept so, beside these marks
pub record IsAccess (marks : List Mark) (kept : KeptAccess) (access : AccessState) : Type 0 where
  pub op : kept.op ≡ access.op
  pub spots : kept.spots ≡ access.spots
  pub pid : kept.pid ≡ access.pid
  pub tid : kept.tid ≡ access.tid
  pub phase : IsPhase access kept.phase
  pub sees : SeesSame marks access

-- a step answered so, and left the listeners and the access so
pub record IsStepped (marks : List Mark) (outcome : StepOutcome) (groups : List ListenerState) (kept : KeptAccess) (stepped : Stepped) : Type 0 where
  pub answers : outcome ≡ stepped.outcome
  pub listeners : groups ≡ stepped.groups
  pub goes_on : IsAccess marks kept stepped.access
