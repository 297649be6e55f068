-- What a step does to the listeners: nothing, one call of one of them, one more, or one is closed.
use Rattle.std.proofs.Common.{◌≡◌, ◌∙◌, ℕ, true, false, cond, List, [], ◌∷◌, ◌++◌, Option, Some, None, Result, Ok, Err, refl, ap, subst}
use Rattle.std.specs.Prelude.{count_by, nat_lt, option_map, slice_get}
use Rattle.fan_access.specs.Access.{AccessState, Asking, Phase, Telling, Waiting, access_step, asks, asks_next, event_of, step_at, tells, tells_next}
use Rattle.fan_access.specs.Rounds.{Turn}
use Rattle.fan_bits.specs.declared.errno.Errno.{Errno}
use Rattle.fan_listener.specs.declared.answers.Answer.TheVariants as answers
use Rattle.fan_listener.specs.declared.answers.Answered.{Answered}
use Rattle.fan_event.specs.declared.event.Event.{Event}
use Rattle.fan_queue.specs.declared.entry.Put.TheVariants as puts
use Rattle.fan_listener.specs.Groups.{answer_from, called_at, closed_in, if_open, is_open, listener_at, open_listener, outcome_in, put_to, read_from, tried_at, with_listener, written_to}
use Rattle.fan_listener.specs.ListenerState.{ListenerState, new_listener}
use Rattle.fan_listener.specs.Queue.{put}
use Rattle.fan_listener.specs.Records.{read_of}
use Rattle.fan_listener.specs.Responses.{answer_of, closed_of, written}
use Rattle.fan_machine.specs.Groups.{max_open_groups}
use Rattle.fan_machine.specs.Outcome.{Outcome}
use Rattle.fan_machine.specs.World.{WorldState}
use Rattle.fan_script.specs.declared.step.Step.{Step}
use Rattle.fan_laws.proofs.Forms.{Form, has_stepped, was_closed, was_made, was_read, was_written}

-- one call of a listener that leaves it open or closed
pub data Called (old : ListenerState) : ListenerState → Type 0 where
  put_one : (event : Event) → Called old (put old event).1
  read_some : (size : ℕ) (given : List ℕ × ListenerState) → read_of old size ≡ Ok given → Called old given.1
  wrote : (bytes : List ℕ) (given : Answered × ListenerState) → written old bytes ≡ Ok given
      → Called old given.1
  looked_for : (entry : ℕ) → Called old (answer_of old entry).1

-- at most one listener has one call
pub data Calls (old : List ListenerState) : List ListenerState → Type 0 where
  stays : Calls old old
  calls : (group : ℕ) (listener new : ListenerState) → listener_at old group ≡ Some listener
      → Called listener new
      → Calls old (with_listener old group new)

-- or a group is made or closed
pub data Moves (old : List ListenerState) : List ListenerState → Type 0 where
  called : (new : List ListenerState) → Calls old new → Moves old new
  opens : (flags limit : ℕ) → nat_lt (count_by is_open old) max_open_groups ≡ true
      → Moves old (old ++ new_listener flags limit ∷ [])
  closes : (group : ℕ) (listener : ListenerState) → listener_at old group ≡ Some listener
      → Moves old (with_listener old group (closed_of listener))

module _ (groups : List ListenerState) (group : ℕ) where
  put_calls : (found : Option ListenerState) (event : ℕ → Event) → listener_at groups group ≡ found
      → Calls groups (called_at puts.Closed (λ listener. put listener
      (event listener.flags)) groups group found).1
  put_calls None event is = stays
  put_calls (Some listener) event is = calls group listener _ is (put_one (event listener.flags))

  answer_calls : (found : Option ListenerState) (entry : ℕ) → listener_at groups group ≡ found
      → Calls groups (called_at answers.Closed (λ listener. answer_of listener entry) groups group found).1
  answer_calls None entry is = stays
  answer_calls (Some listener) entry is = calls group listener _ is (looked_for entry)

  outcome_calls : {A : Type 0} (listener : ListenerState) (tried : Result (A × ListenerState) Errno)
      (new : A × List ListenerState) → listener_at groups group ≡ Some listener
      → ((given : A × ListenerState) → tried ≡ Ok given → Called listener given.1)
      → outcome_in groups group tried ≡ Ok new → Calls groups new.1
  outcome_calls listener (Err refusal) new is each done = absurd cc
  outcome_calls {A} listener (Ok given) new is each done =
      let whole : A × List ListenerState = (given.0, with_listener groups group given.1) in
      let same : whole ≡ new = cc in
      subst (λ (r : A × List ListenerState). Calls groups r.1) same (calls group listener given.1 is
      (each given refl))

  tried_calls : {A : Type 0} (call : ListenerState → Result (A
      × ListenerState) Errno) (found : Option ListenerState)
      (new : A × List ListenerState) → listener_at groups group ≡ found
      → ((listener : ListenerState) (given : A × ListenerState) → call listener ≡ Ok given
      → Called listener given.1)
      → tried_at call groups group found ≡ Ok new → Calls groups new.1
  tried_calls call None new is each done = absurd cc
  tried_calls call (Some listener) new is each done =
      outcome_calls listener (call listener) new is (each listener) done

-- a single step of an access
tell_calls : (next : Option Turn) (at : ℕ) (groups : List ListenerState) (access : AccessState)
    → Calls groups (tells_next next at groups access).groups
unfolding put_to
tell_calls None at groups access = stays
tell_calls (Some turn) at groups access =
    let group = turn.interest.group in
    put_calls groups group (listener_at groups group) (event_of false turn access) refl

ask_calls : (next : Option Turn) (at : ℕ) (groups : List ListenerState) (access : AccessState)
    → Calls groups (asks_next next at groups access).groups
unfolding put_to
ask_calls None at groups access = tell_calls (slice_get (tells access) 0) 0 groups access
ask_calls (Some turn) at groups access =
    let group = turn.interest.group in
    put_calls groups group (listener_at groups group) (event_of true turn access) refl

phase_calls : (phase : Phase) (groups : List ListenerState) (access : AccessState)
    → Calls groups (step_at phase groups access).groups
unfolding answer_from
phase_calls (Asking at) groups access = ask_calls (slice_get (asks access) at) at groups access
phase_calls (Waiting at group entry) groups access = answer_calls groups group
    (listener_at groups group) entry refl
phase_calls (Telling at) groups access = tell_calls (slice_get (tells access) at) at groups access

pub step_calls : (groups : List ListenerState) (access : AccessState)
    → Calls groups (access_step groups access).groups
unfolding access_step
step_calls groups access = phase_calls access.phase groups access

pub read_calls : (groups : List ListenerState) (group size : ℕ) (new : List ℕ × List ListenerState)
    → read_from groups group size ≡ Ok new → Calls groups new.1
unfolding read_from
read_calls groups group size new is =
    tried_calls groups group (λ listener. read_of listener size) (listener_at groups group) new refl
    (λ listener given done. read_some size given done) is

pub written_calls : (groups : List ListenerState) (group : ℕ) (bytes : List ℕ) (new : Answered
    × List ListenerState)
    → written_to groups group bytes ≡ Ok new → Calls groups new.1
unfolding written_to
written_calls groups group bytes new is =
    tried_calls groups group (λ listener. written listener bytes) (listener_at groups group) new refl
    (λ listener given done. wrote bytes given done) is

-- what a search for an open listener finds is there, and open
pub record IsOpened (groups : List ListenerState) (group : ℕ) (listener : ListenerState) : Type 0 where
  pub there : listener_at groups group ≡ Some listener
  pub opened : is_open listener ≡ true

pub opened_is : (groups : List ListenerState) (group : ℕ) (listener : ListenerState)
    → open_listener groups group ≡ Some listener → IsOpened groups group listener
opened_is groups group listener found = go (listener_at groups group) refl found
  where
    go : (at : Option ListenerState) → listener_at groups group ≡ at → if_open at ≡ Some listener
        → IsOpened groups group listener
    go None is found = absurd cc
    go (Some other) is found =
        (elim (is_open other) as (λ b. is_open other ≡ b
        → cond {A = Option ListenerState} b (Some other) None ≡ Some listener
        → IsOpened groups group listener) [
          | true ↦ λ opened here. let same : other ≡ listener = cc in
              record {
                there = is ∙ ap (λ (l : ListenerState). Some l) same;
                opened = subst (λ l. is_open l
                    ≡ true) same opened;
              }
          | false ↦ λ shut none. absurd cc
        ]) refl found

pub open_is : (groups : List ListenerState) (group : ℕ) (listener : ListenerState)
    → IsOpened groups group listener
    → open_listener groups group ≡ Some listener
open_is groups group listener is = rw (is.there, is.opened) refl

-- the listeners after a close
pub record Closed (groups : List ListenerState) (group : ℕ) (new : List ListenerState) : Type 0 where
  pub listener : ListenerState
  pub was : IsOpened groups group listener
  pub is : with_listener groups group (closed_of listener) ≡ new

pub closed_is : (groups : List ListenerState) (group : ℕ) (new : List ListenerState)
    → closed_in groups group ≡ Some new → Closed groups group new
unfolding closed_in
closed_is groups group new done = go (open_listener groups group) refl done
  where
    go : (found : Option ListenerState) → open_listener groups group ≡ found
        → option_map (λ listener. with_listener groups group (closed_of listener)) found ≡ Some new
        → Closed groups group new
    go None is done = absurd cc
    go (Some listener) is done = record {
      listener = listener;
      was = opened_is groups group listener is;
      is = cc;
    }

-- any step moves the listeners so
pub step_moves : (world : WorldState) (step : Step) (outcome : Outcome) → Form world step outcome
    → Moves world.groups outcome.world.groups
step_moves world step outcome (was_made flags few) = opens flags world.limit few
step_moves world step outcome (has_stepped number access is) = called _ (step_calls world.groups access)
step_moves world step outcome (was_read group size read is) = called _
    (read_calls world.groups group size read is)
step_moves world step outcome (was_written group bytes given is) =
    called _ (written_calls world.groups group bytes given is)
step_moves world step outcome (was_closed group closed is) =
    let its = closed_is world.groups group closed is in
    subst (λ new. Moves world.groups new) its.is (closes group its.listener its.was.there)
step_moves world step outcome form = called world.groups stays
