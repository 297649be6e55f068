-- Where an event in a group comes from, and what that says of the group.
use Rattle.std.proofs.Common.{◌≡◌, ◌∙◌, ℕ, ◌≤◌, ◌==◌, Bool, true, false, cond, List, [], ◌∷◌, append-nil, length, Option, Some, None, refl, ap, sym, subst, arith, inl, inr}
use Rattle.std.proofs.lemmas.Bool.{eqb-true}
use Rattle.std.specs.Prelude.{slice_get}
use Rattle.fan_access.specs.Access.{AccessState, Asking, Phase, Telling, Waiting, asks, event_of, tells}
use Rattle.fan_access.specs.Rounds.{Turn}
use Rattle.fan_fates.specs.Calls.{Call, Came, Closes, Looks, Puts, Reads, Writes, after_calls, deeds, deeds_of}
use Rattle.fan_fates.specs.Rules.{FindsClosed, IsQueued, NamesNext, is_lost_fate}
use Rattle.fan_fates.specs.Steps.{access_calls, ask_calls, calls_at, deeds_at, deeds_by, deeds_in, only_of, phase_calls, queue_in, queue_of, step_calls, turn_calls}
use Rattle.fan_fates.specs.Turns.{IsDue, IsFull}
use Rattle.fan_fates.proofs.History.{History}
use Rattle.fan_fates.proofs.Lifted.{lifted}
use Rattle.fan_fates.proofs.Lived.{lived}
use Rattle.fan_fates.proofs.Puts.{put_closed, put_full, put_names, put_queued}
use Rattle.fan_laws.specs.Causes.{HasNext}
use Rattle.fan_event.specs.declared.event.Event.{Event}
use Rattle.fan_queue.specs.declared.entry.Put.{Put}
use Rattle.fan_listener.specs.Groups.{is_open, listener_at}
use Rattle.fan_listener.specs.ListenerState.{ListenerState}
use Rattle.fan_listener.specs.Queue.{put}
use Rattle.fan_machine.specs.Accesses.{access_of}
use Rattle.fan_machine.specs.Next.{after, next}
use Rattle.fan_machine.specs.World.{WorldState, initial_world}
use Rattle.fan_script.specs.declared.step.Step.{Step}
use Rattle.fan_script.specs.declared.step.Step.TheVariants as steps

-- ---- a step makes one call of a listener at most

data Few : List Call → Type 0 where
  no_call : Few []
  one_call : (call : Call) → Few (call ∷ [])

few_if : (b : Bool) (call : Call) → Few (cond {A = List Call} b (call ∷ []) [])
few_if true call = one_call call
few_if false call = no_call

-- that of an access puts an event, or looks for an answer
pub data OfAccess : List Call → Type 0 where
  puts_none : OfAccess []
  puts_one : (event : Event) → OfAccess (Puts event ∷ [])
  looks_one : (entry : ℕ) → OfAccess (Looks entry ∷ [])

event_if : (b : Bool) (one : Event) → OfAccess (cond {A = List Call} b (Puts one ∷ []) [])
event_if true one = puts_one one
event_if false one = puts_none

look_if : (b : Bool) (entry : ℕ) → OfAccess (cond {A = List Call} b (Looks entry ∷ []) [])
look_if true entry = looks_one entry
look_if false entry = puts_none

module _ (group : ℕ) (listener : ListenerState) (access : AccessState) where
  of_turn : (perm : Bool) (turn : Option Turn) → OfAccess (turn_calls group listener access perm turn)
  of_turn perm None = puts_none
  of_turn perm (Some turn) = event_if (turn.interest.group == group) _

  of_ask : (turn : Option Turn) → OfAccess (ask_calls group listener access turn)
  of_ask None = of_turn false (slice_get (tells access) 0)
  of_ask (Some turn) = of_turn true (Some turn)

  of_phase : (phase : Phase) → OfAccess (phase_calls group listener access phase)
  of_phase (Asking at) = of_ask (slice_get (asks access) at)
  of_phase (Waiting at other entry) = look_if (other == group) entry
  of_phase (Telling at) = of_turn false (slice_get (tells access) at)

pub of_access : (group : ℕ) (listener : ListenerState) (access : Option AccessState)
    → OfAccess (access_calls group listener access)
of_access group listener None = puts_none
of_access group listener (Some access) = of_phase group listener access access.phase

few_of : (calls : List Call) → OfAccess calls → Few calls
few_of calls puts_none = no_call
few_of calls (puts_one one) = one_call (Puts one)
few_of calls (looks_one entry) = one_call (Looks entry)

few_close : (opened : Bool) (group other : ℕ)
    → Few (cond {A = List Call} opened (only_of group other Closes) [])
few_close true group other = few_if (other == group) Closes
few_close false group other = no_call

few_step : (world : WorldState) (step : Step) (group : ℕ) (listener : ListenerState)
    → Few (step_calls world step group listener)
few_step world (steps.Advance number) group listener =
    few_of _ (of_access group listener (access_of world number))
few_step world (steps.Read other size) group listener = few_if (other == group) (Reads size)
few_step world (steps.Write other bytes) group listener = few_if (other == group) (Writes bytes)
few_step world (steps.Close other) group listener = few_close (is_open listener) group other
few_step world (steps.MkFile path) group listener = no_call
few_step world (steps.MkDir path) group listener = no_call
few_step world steps.MkFs group listener = no_call
few_step world (steps.Mount fs path) group listener = no_call
few_step world (steps.Umount path) group listener = no_call
few_step world (steps.Limit entries) group listener = no_call
few_step world (steps.Init flags) group listener = no_call
few_step world (steps.Mark other flags mask path) group listener = no_call
few_step world (steps.Begin number pid tid word path second) group listener = no_call
few_step world steps.Grace group listener = no_call

-- so it does one thing at most
one_of : (listener : ListenerState) (call : Call) → length (deeds_of listener call) ≤ 1
one_of listener (Puts event) = omega arith
one_of listener (Reads size) = omega arith
one_of listener (Writes bytes) = omega arith
one_of listener (Looks entry) = omega arith
one_of listener Closes = omega arith

one_by : (listener : ListenerState) (calls : List Call) → Few calls → length (deeds listener calls) ≤ 1
unfolding deeds
one_by listener calls no_call = omega arith
one_by listener calls (one_call call) =
    rw (append-nil (deeds_of listener call)) (one_of listener call)

pub one_deed : (world : WorldState) (step : Step) (group : ℕ) → length (deeds_by world step group) ≤ 1
one_deed world step group = by (listener_at world.groups group)
  where
    by : (found : Option ListenerState) → length (deeds_at found (calls_at world step group found)) ≤ 1
    by None = omega arith
    by (Some listener) =
        one_by listener (step_calls world step group listener) (few_step world step group listener)

-- ---- the put of an event

-- the call by which an event came, and its fate
pub record CameBy (world : WorldState) (step : Step) (group : ℕ) (event : Event) (fate : Put) : Type 0 where
  pub listener : ListenerState
  pub there : listener_at world.groups group ≡ Some listener
  pub calls : step_calls world step group listener ≡ Puts event ∷ []
  pub became : (put listener event).0 ≡ fate

-- one deed says which call did it
record IsPutOf (listener : ListenerState) (calls : List Call) (event : Event) (fate : Put) : Type 0 where
  pub is : calls ≡ Puts event ∷ []
  pub became : (put listener event).0 ≡ fate

put_from : (listener : ListenerState) (calls : List Call) (event : Event) (fate : Put) → Few calls
    → deeds listener calls ≡ Came event fate ∷ [] → IsPutOf listener calls event fate
unfolding deeds
put_from listener calls event fate no_call came = absurd cc
put_from listener calls event fate (one_call (Puts other)) came =
    let same : other ≡ event = cc in
    let its : (put listener other).0 ≡ fate = cc in record {
      is = ap (λ (one : Event). Puts one ∷ []) same;
      became = ap (λ (one : Event). (put listener one).0) (sym same) ∙ its;
    }
put_from listener calls event fate (one_call (Reads size)) came = absurd cc
put_from listener calls event fate (one_call (Writes bytes)) came = absurd cc
put_from listener calls event fate (one_call (Looks entry)) came = absurd cc
put_from listener calls event fate (one_call Closes) came = absurd cc

pub came_by : (world : WorldState) (step : Step) (group : ℕ) (event : Event) (fate : Put)
    → deeds_by world step group ≡ Came event fate ∷ [] → CameBy world step group event fate
came_by world step group event fate came = by (listener_at world.groups group) refl came
  where
    by : (found : Option ListenerState) → listener_at world.groups group ≡ found
        → deeds_at found (calls_at world step group found) ≡ Came event fate ∷ []
        → CameBy world step group event fate
    by None is came = absurd cc
    by (Some listener) is came =
        let its = put_from listener (step_calls world step group listener) event fate
        (few_step world step group listener) came in
        record { listener = listener; there = is; calls = its.is; became = its.became }

-- right after, it is in the queue as its fate says
pub came_queued : (world : WorldState) (step : Step) (group : ℕ) (event : Event) (fate : Put)
    → deeds_by world step group ≡ Came event fate ∷ []
    → IsQueued (queue_in (next world step).world group) event fate
unfolding after_calls
came_queued world step group event fate came =
    let its = came_by world step group event fate came in
    let now : listener_at (next world step).world.groups group ≡ Some (put its.listener event).1 =
    lifted world step group its.listener its.there
    ∙ ap (λ calls. Some (after_calls its.listener calls)) its.calls in
    subst (λ queue. IsQueued queue event fate) (sym (ap queue_of now))
    (subst (IsQueued (put its.listener event).1.queue event) its.became (put_queued its.listener event))

-- and its fate fits what came before
module _ (before : List Step) (step : Step) (group : ℕ) (event : Event) (fate : Put)
    (came : deeds_by (after initial_world before) step group ≡ Came event fate ∷ []) where
  abbrev the_put : CameBy (after initial_world before) step group event fate
  the_put = came_by (after initial_world before) step group event fate came

  past_of : History (deeds_in group initial_world before) the_put.listener
  past_of =
      let its = lived before group in
      subst (History (deeds_in group initial_world before))
      (sym (its.own the_put.listener the_put.there)) its.history

  pub came_closed : FindsClosed (deeds_in group initial_world before) fate
  came_closed =
      subst (FindsClosed (deeds_in group initial_world before)) the_put.became
      (put_closed (deeds_in group initial_world before) the_put.listener event past_of)

  pub came_names : NamesNext (deeds_in group initial_world before) fate
  came_names =
      subst (NamesNext (deeds_in group initial_world before)) the_put.became
      (put_names (deeds_in group initial_world before) the_put.listener event past_of)

  -- an event is lost only at the limit
  pub came_full : is_lost_fate fate ≡ true → IsFull (after initial_world before) group
  came_full is =
      let full = put_full the_put.listener event (ap is_lost_fate the_put.became ∙ is) in record {
        listener = the_put.listener;
        there = the_put.there;
        limited = full.limited;
        full = full.full;
      }

-- ---- the turn of an event

-- a turn of this group
record TakesTurn (group flags : ℕ) (access : AccessState) (event : Event) : Type 0 where
  pub perm : Bool
  pub turn : Turn
  pub takes : HasNext perm access turn
  pub on : turn.interest.group ≡ group
  pub is : event ≡ event_of perm turn access flags

only_puts : (group other : ℕ) (call : Call) (event : Event) → only_of group other call ≡ Puts event ∷ []
    → (other ≡ group) × (call ≡ Puts event)
only_puts group other call event is = by (other == group) refl is
  where
    by : (b : Bool) → (other == group) ≡ b → cond {A = List Call} b (call ∷ []) [] ≡ Puts event ∷ []
        → (other ≡ group) × (call ≡ Puts event)
    by true same is = (eqb-true other group same, cc)
    by false differ is = absurd cc

module _ (group : ℕ) (listener : ListenerState) (access : AccessState) (event : Event) where
  turn_takes : (perm : Bool) (turn : Option Turn) → ((its : Turn) → turn ≡ Some its → HasNext perm access its)
      → turn_calls group listener access perm turn ≡ Puts event ∷ []
      → TakesTurn group listener.flags access event
  turn_takes perm None has is = absurd cc
  turn_takes perm (Some turn) has is =
      let its = event_of perm turn access listener.flags in
      let only = only_puts group turn.interest.group (Puts its) event is in
      let same : Puts its ≡ Puts event = only.1 in record {
        perm = perm;
        turn = turn;
        takes = has turn refl;
        on = only.0;
        is = cc;
      }

  ask_takes : (at : ℕ) → access.phase ≡ Asking at → (turn : Option Turn) → slice_get (asks access) at ≡ turn
      → ask_calls group listener access turn ≡ Puts event ∷ [] → TakesTurn group listener.flags access event
  ask_takes at asking None none is =
      turn_takes false (slice_get (tells access) 0)
      (λ its there. (0, inr (at, asking, none, refl), there)) is
  ask_takes at asking (Some turn) there is =
      turn_takes true (Some turn) (λ its same. (at, asking, there ∙ same)) is

  phase_takes : (phase : Phase) → access.phase ≡ phase
      → phase_calls group listener access phase ≡ Puts event ∷ []
      → TakesTurn group listener.flags access event
  phase_takes (Asking at) asking is = ask_takes at asking (slice_get (asks access) at) refl is
  phase_takes (Telling at) telling is =
      turn_takes false (slice_get (tells access) at) (λ its there. (at, inl telling, there)) is
  phase_takes (Waiting at other entry) waiting is = absurd (looks (other == group) is)
    where
      looks : (b : Bool) → cond {A = List Call} b (Looks entry ∷ []) [] ≡ Puts event ∷ [] → ⊥
      looks true is = absurd cc
      looks false is = absurd cc

-- no other call puts an event
no_put : (b : Bool) (call : Call) (event : Event) → ((other : Event) → call ≡ Puts other → ⊥)
    → cond {A = List Call} b (call ∷ []) [] ≡ Puts event ∷ [] → ⊥
no_put true call event differs is = differs event cc
no_put false call event differs is = absurd cc

due_by : (world : WorldState) (step : Step) (group : ℕ) (listener : ListenerState) (event : Event)
    → listener_at world.groups group ≡ Some listener
    → step_calls world step group listener ≡ Puts event ∷ [] → IsDue world step group event
due_by world (steps.Advance number) group listener event there is = by (access_of world number) refl is
  where
    by : (access : Option AccessState) → access_of world number ≡ access
        → access_calls group listener access ≡ Puts event ∷ []
        → IsDue world (steps.Advance number) group event
    by None none is = absurd cc
    by (Some access) found is =
        let its = phase_takes group listener access event access.phase refl is in record {
          number = number;
          access = access;
          perm = its.perm;
          turn = its.turn;
          listener = listener;
          its = refl;
          found = found;
          takes = its.takes;
          on = its.on;
          there = there;
          is = its.is;
        }
due_by world (steps.Read other size) group listener event there is =
    absurd (no_put (other == group) (Reads size) event (λ one same. absurd cc) is)
due_by world (steps.Write other bytes) group listener event there is =
    absurd (no_put (other == group) (Writes bytes) event (λ one same. absurd cc) is)
due_by world (steps.Close other) group listener event there is = absurd (by (is_open listener) is)
  where
    by : (opened : Bool) → cond {A = List Call} opened (only_of group other Closes) [] ≡ Puts event ∷ [] → ⊥
    by true is = no_put (other == group) Closes event (λ one same. absurd cc) is
    by false is = absurd cc
due_by world (steps.MkFile path) group listener event there is = absurd cc
due_by world (steps.MkDir path) group listener event there is = absurd cc
due_by world steps.MkFs group listener event there is = absurd cc
due_by world (steps.Mount fs path) group listener event there is = absurd cc
due_by world (steps.Umount path) group listener event there is = absurd cc
due_by world (steps.Limit entries) group listener event there is = absurd cc
due_by world (steps.Init flags) group listener event there is = absurd cc
due_by world (steps.Mark other flags mask path) group listener event there is = absurd cc
due_by world (steps.Begin number pid tid word path second) group listener event there is = absurd cc
due_by world steps.Grace group listener event there is = absurd cc

pub came_due : (world : WorldState) (step : Step) (group : ℕ) (event : Event) (fate : Put)
    → deeds_by world step group ≡ Came event fate ∷ [] → IsDue world step group event
came_due world step group event fate came =
    let its = came_by world step group event fate came in
    due_by world step group its.listener event its.there its.calls
