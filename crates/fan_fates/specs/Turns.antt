-- What a step says of the deeds in a group: the turn from which an event comes, and who takes entries.
use Rattle.std.specs.Prelude.{◌≡◌, ◌≢◌, ◌⊎◌, ◌≤◌, ℕ, Bool, true, false, List, [], ◌∷◌, Option, Some, None, length}
use Rattle.fan_access.specs.Access.{AccessState, event_of}
use Rattle.fan_access.specs.Rounds.{Turn}
use Rattle.fan_bits.specs.declared.outcome.StepOutcome.{StepOutcome}
use Rattle.fan_bits.specs.declared.outcome.StepOutcome.TheVariants as outcomes
use Rattle.fan_bits.specs.Words.{occurs, unlimited_queue}
use Rattle.fan_fates.specs.Calls.{Call, Came, after_calls}
use Rattle.fan_fates.specs.Steps.{deeds_by}
use Rattle.fan_laws.specs.Causes.{HasNext}
use Rattle.fan_event.specs.declared.event.Event.{Event}
use Rattle.fan_queue.specs.declared.entry.Put.{Put}
use Rattle.fan_queue.specs.declared.entry.Put.TheVariants as puts
use Rattle.fan_listener.specs.Groups.{listener_at}
use Rattle.fan_listener.specs.ListenerState.{ListenerState, new_listener}
use Rattle.fan_machine.specs.Accesses.{access_of}
use Rattle.fan_machine.specs.Next.{next}
use Rattle.fan_machine.specs.World.{WorldState}
use Rattle.fan_script.specs.declared.reply.Reply.TheVariants as replies
use Rattle.fan_script.specs.declared.step.Step.{Step}
use Rattle.fan_script.specs.declared.step.Step.TheVariants as steps

-- what a single step answers, by whether it asks permission or tells, and by the fate of its event; none that
-- asks is merged
abbrev pub outcome_for : Bool → ℕ → Put → Option StepOutcome
outcome_for true group (puts.Queued entry) = Some (outcomes.Asked group)
outcome_for true group (puts.Merged entry) = None
outcome_for true group (puts.Overflow entry) = Some (outcomes.Full group)
outcome_for false group (puts.Queued entry) = Some (outcomes.Queued group)
outcome_for false group (puts.Merged entry) = Some (outcomes.Merged group)
outcome_for false group (puts.Overflow entry) = Some (outcomes.Overflow group)
outcome_for perm group puts.Closed = Some (outcomes.Closed group)

-- the single step of an access that takes a turn puts the event of this turn on the queue of its group, puts
-- none on another, and answers by its fate
pub record HasFate (world : WorldState) (number : ℕ) (access : AccessState) (perm : Bool) (turn : Turn)
    : Type 0 where
  pub listener : ListenerState
  pub fate : Put
  pub outcome : StepOutcome
  pub there : listener_at world.groups turn.interest.group ≡ Some listener
  pub came : deeds_by world (steps.Advance number) turn.interest.group
      ≡ Came (event_of perm turn access listener.flags) fate ∷ []
  pub its : outcome_for perm turn.interest.group fate ≡ Some outcome
  pub answers : (next world (steps.Advance number)).reply ≡ replies.Out (outcome ∷ [])
  pub alone : (other : ℕ) → other ≢ turn.interest.group → deeds_by world (steps.Advance number) other ≡ []

-- an event in a group is that of the turn that an access takes next, and the step is the access's
pub record IsDue (world : WorldState) (step : Step) (group : ℕ) (event : Event) : Type 0 where
  pub number : ℕ
  pub access : AccessState
  pub perm : Bool
  pub turn : Turn
  pub listener : ListenerState
  pub its : step ≡ steps.Advance number
  pub found : access_of world number ≡ Some access
  pub takes : HasNext perm access turn
  pub on : turn.interest.group ≡ group
  pub there : listener_at world.groups group ≡ Some listener
  pub is : event ≡ event_of perm turn access listener.flags

-- a group has a limit, and as many entries are queued
pub record IsFull (world : WorldState) (group : ℕ) : Type 0 where
  pub listener : ListenerState
  pub there : listener_at world.groups group ≡ Some listener
  pub limited : occurs listener.flags unlimited_queue ≡ false
  pub full : listener.limit ≤ length listener.queue

-- a step may take entries from a queue: a read of the group that gives bytes, or its close
abbrev pub Takes : WorldState → Step → ℕ → Type 0
Takes world step group =
    ((size : ℕ) × (bytes : List ℕ) × (step ≡ steps.Read group size)
    × ((next world step).reply ≡ replies.Bytes bytes))
    ⊎ ((step ≡ steps.Close group) × ((next world step).reply ≡ replies.Done))

-- a listener is what calls made of a new one with its flags and limit; without a listener there were no calls
abbrev pub IsMadeBy : List Call → Option ListenerState → Type 0
IsMadeBy calls None = calls ≡ []
IsMadeBy calls (Some listener) =
    listener ≡ after_calls (new_listener listener.flags listener.limit) calls
