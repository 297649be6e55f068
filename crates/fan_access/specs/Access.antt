-- Accesses in progress, and the single step of one: fanotify(7), "Dealing with permission events".
use Rattle.std.specs.Prelude.{ℕ, ◌+◌, Bool, true, false, List, Option, Some, None, slice_get}
use Rattle.fan_access.specs.declared.op.Op.{Op}
use Rattle.fan_access.specs.declared.spot.Spot.{Spot}
use Rattle.fan_access.specs.Rounds.{Turn, asked_rounds, told_rounds, turns}
use Rattle.fan_bits.specs.declared.mark.Mark.{Mark}
use Rattle.fan_bits.specs.declared.outcome.StepOutcome.{StepOutcome}
use Rattle.fan_bits.specs.declared.outcome.StepOutcome.TheVariants as outcomes
use Rattle.fan_listener.specs.declared.answers.Answer.{Answer}
use Rattle.fan_listener.specs.declared.answers.Answer.TheVariants as answers
use Rattle.fan_event.specs.declared.event.Event.{Event}
use Rattle.fan_queue.specs.declared.entry.Put.{Put}
use Rattle.fan_queue.specs.declared.entry.Put.TheVariants as puts
use Rattle.fan_event.specs.Events.{event_for}
use Rattle.fan_listener.specs.Groups.{answer_from, put_to}
use Rattle.fan_listener.specs.ListenerState.{ListenerState}

-- where an access stands: at a turn of its asks; waiting there for a group to answer an entry; or at a
-- turn of its tells. Turns are counted from 0
pub data Phase : Type 0 where
  Asking : ℕ → Phase
  Waiting : ℕ → ℕ → ℕ → Phase
  Telling : ℕ → Phase

-- an access: what it does and at which spots, the process and thread that do it, the marks as they stood at its
-- begin, all of them, and where it stands
pub record AccessState : Type 0 where
  pub op : Op
  pub spots : List Spot
  pub pid : ℕ
  pub tid : ℕ
  pub view : List Mark
  pub phase : Phase

-- an access at its begin
abbrev pub new_access : Op → List Spot → ℕ → ℕ → List Mark → AccessState
new_access op spots pid tid view = record {
  op = op;
  spots = spots;
  pid = pid;
  tid = tid;
  view = view;
  phase = Asking 0;
}

-- whom it asks, in order
abbrev pub asks : AccessState → List Turn
asks access = turns access.view (asked_rounds access.op access.spots)

-- whom it tells, in order
abbrev pub tells : AccessState → List Turn
tells access = turns access.view (told_rounds access.op access.spots)

-- the event of a turn, as a group with these flags is asked or told it
abbrev pub event_of : Bool → Turn → AccessState → ℕ → Event
event_of perm turn access flags =
    event_for flags turn.happening turn.name turn.interest.bits access.pid access.tid perm

-- what one step of an access makes of the listeners and of the access
pub record Stepped : Type 0 where
  pub outcome : StepOutcome
  pub groups : List ListenerState
  pub access : AccessState

-- the outcome of an ask, by what became of its event; at the limit of the queue it is dropped
abbrev pub asked_outcome : ℕ → Put → StepOutcome
asked_outcome group (puts.Queued entry) = outcomes.Asked group
asked_outcome group puts.Closed = outcomes.Closed group
asked_outcome group _ = outcomes.Full group

-- a group that was asked is waited for, if its event was queued; else the next one is asked
abbrev pub after_ask : ℕ → ℕ → Put → Phase
after_ask at group (puts.Queued entry) = Waiting at group entry
after_ask at group _ = Asking (at + 1)

-- the group of a turn is asked
abbrev pub asked : Turn → ℕ → List ListenerState → AccessState → Stepped
asked turn at groups access =
    let group = turn.interest.group in
    let r = put_to groups group (event_of true turn access) in
    record {
      outcome = asked_outcome group r.0;
      groups = r.1;
      access = record access { phase = after_ask at group r.0 };
    }

-- the outcome of a look at an answer
abbrev pub answered_outcome : ℕ → Answer → StepOutcome
answered_outcome group answers.Waiting = outcomes.Blocked group
answered_outcome group answers.Allowed = outcomes.Allowed group
answered_outcome group answers.Denied = outcomes.Denied group
answered_outcome group answers.Closed = outcomes.Closed group

-- without an answer the group is still waited for; else the next one is asked
abbrev pub after_answer : ℕ → ℕ → ℕ → Answer → Phase
after_answer at group entry answers.Waiting = Waiting at group entry
after_answer at group entry _ = Asking (at + 1)

-- the answer that is waited for is looked for
abbrev pub looked : ℕ → ℕ → ℕ → List ListenerState → AccessState → Stepped
looked at group entry groups access =
    let r = answer_from groups group entry in
    record {
      outcome = answered_outcome group r.0;
      groups = r.1;
      access = record access { phase = after_answer at group entry r.0 };
    }

-- the outcome of a tell, by what became of its event
abbrev pub told_outcome : ℕ → Put → StepOutcome
told_outcome group (puts.Queued entry) = outcomes.Queued group
told_outcome group (puts.Merged entry) = outcomes.Merged group
told_outcome group (puts.Overflow entry) = outcomes.Overflow group
told_outcome group puts.Closed = outcomes.Closed group

-- the group of a turn is told
abbrev pub told : Turn → ℕ → List ListenerState → AccessState → Stepped
told turn at groups access =
    let group = turn.interest.group in
    let r = put_to groups group (event_of false turn access) in
    record {
      outcome = told_outcome group r.0;
      groups = r.1;
      access = record access { phase = Telling (at + 1) };
    }

-- the next group is told; after the last one the access is done
abbrev pub tells_next : Option Turn → ℕ → List ListenerState → AccessState → Stepped
tells_next (Some turn) at groups access = told turn at groups access
tells_next None at groups access = record { outcome = outcomes.Done; groups = groups; access = access }

-- the next group is asked; after the last one the first is told
abbrev pub asks_next : Option Turn → ℕ → List ListenerState → AccessState → Stepped
asks_next (Some turn) at groups access = asked turn at groups access
asks_next None at groups access = tells_next (slice_get (tells access) 0) 0 groups access

-- the step by where the access stands
abbrev pub step_at : Phase → List ListenerState → AccessState → Stepped
step_at (Asking at) groups access = asks_next (slice_get (asks access) at) at groups access
step_at (Waiting at group entry) groups access = looked at group entry groups access
step_at (Telling at) groups access = tells_next (slice_get (tells access) at) at groups access

-- the single step of an access; by `ends_access` its outcome tells whether the access is finished
unfoldable pub access_step : List ListenerState → AccessState → Stepped
access_step groups access = step_at access.phase groups access
