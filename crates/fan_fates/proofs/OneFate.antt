-- Each turn of an access has one event, in the group whose turn it is, and its outcome tells its fate.
use Rattle.std.proofs.Common.{◌≡◌, ◌∙◌, ℕ, Bool, true, false, cond, not, List, [], ◌∷◌, Option, Some, None, refl, ap, sym, inl, inr}
use Rattle.std.proofs.lemmas.Bool.{eq-eqb, ne_eqb}
use Rattle.std.specs.Prelude.{is_some, slice_get}
use Rattle.fan_access.specs.Access.{AccessState, asks, event_of, tells}
use Rattle.fan_access.specs.Rounds.{Turn}
use Rattle.fan_bits.specs.declared.outcome.StepOutcome.{StepOutcome}
use Rattle.fan_bits.specs.declared.outcome.StepOutcome.TheVariants as outcomes
use Rattle.fan_fates.specs.Calls.{Call, Came, Puts, deeds}
use Rattle.fan_fates.specs.Steps.{access_calls, ask_calls, calls_at, deeds_at, deeds_by, only_of, phase_calls, step_calls, turn_calls}
use Rattle.fan_fates.specs.Turns.{HasFate, outcome_for}
use Rattle.fan_fates.proofs.CallForms.{PutForm, came_last, covered, joined, lost_first, put_form, shut}
use Rattle.fan_fates.proofs.History.{taken_by}
use Rattle.fan_fates.proofs.Lists.{found_split}
use Rattle.fan_fates.proofs.Seen.{next_there, sees_from_first}
use Rattle.fan_laws.specs.Causes.{HasNext, IsDueTo, PutsNext, is_group_open}
use Rattle.fan_laws.proofs.Due.{reply_from_due}
use Rattle.fan_event.specs.declared.event.Event.{Event}
use Rattle.fan_queue.specs.declared.entry.Put.{Put}
use Rattle.fan_queue.specs.declared.entry.Put.TheVariants as puts
use Rattle.fan_listener.specs.Groups.{called_at, if_open, listener_at, put_to}
use Rattle.fan_listener.specs.ListenerState.{ListenerState}
use Rattle.fan_listener.specs.Queue.{put}
use Rattle.fan_queue.specs.Queue.{merged, takes}
use Rattle.fan_machine.specs.Accesses.{access_of}
use Rattle.fan_machine.specs.Next.{after}
use Rattle.fan_machine.specs.World.{WorldState, initial_world}
use Rattle.fan_script.specs.declared.step.Step.{Step}
use Rattle.fan_script.specs.declared.step.Step.TheVariants as steps

-- ---- the calls of a turn

-- the next turn is the one that is called for
turn_called : (group : ℕ) (listener : ListenerState) (access : AccessState) (perm : Bool) (turn : Turn)
    → HasNext perm access turn
    → phase_calls group listener access access.phase ≡ turn_calls group listener access perm (Some turn)
turn_called group listener access true turn (at, asking, is) =
    ap (phase_calls group listener access) asking ∙ ap (ask_calls group listener access) is
turn_called group listener access false turn (at, inl telling, is) =
    ap (phase_calls group listener access) telling ∙ ap (turn_calls group listener access false) is
turn_called group listener access false turn (at, inr (asked, asking, none, first), is) =
    ap (phase_calls group listener access) asking ∙ ap (ask_calls group listener access) none
    ∙ ap (λ (n : ℕ). turn_calls group listener access false (slice_get (tells access) n)) (sym first)
    ∙ ap (turn_calls group listener access false) is

module _ (world : WorldState) (number : ℕ) (access : AccessState) (perm : Bool) (turn : Turn)
    (found : access_of world number ≡ Some access) (due : HasNext perm access turn) where
  -- the event, as a listener is asked or told it
  abbrev event_at : ListenerState → Event
  event_at listener = event_of perm turn access listener.flags

  calls_turn : (group : ℕ) (listener : ListenerState)
      → step_calls world (steps.Advance number) group listener
      ≡ only_of group turn.interest.group (Puts (event_at listener))
  calls_turn group listener =
      ap (access_calls group listener) found ∙ turn_called group listener access perm turn due

  deeds_turn : (group : ℕ) (listener : ListenerState) → listener_at world.groups group ≡ Some listener
      → deeds_by world (steps.Advance number) group
      ≡ deeds listener (only_of group turn.interest.group (Puts (event_at listener)))
  deeds_turn group listener there =
      ap (λ found. deeds_at found (calls_at world (steps.Advance number) group found)) there
      ∙ ap (deeds listener) (calls_turn group listener)

  came_here : (listener : ListenerState) → listener_at world.groups turn.interest.group ≡ Some listener
      → deeds_by world (steps.Advance number) turn.interest.group
      ≡ Came (event_at listener) (put listener (event_at listener)).0 ∷ []
  unfolding deeds
  came_here listener there =
      let group = turn.interest.group in
      deeds_turn group listener there
      ∙ ap (λ b. deeds listener (cond {A = List Call} b (Puts (event_at listener) ∷ []) []))
      (eq-eqb group group refl)

  none_else : (group : ℕ) → (group ≡ turn.interest.group → ⊥)
      → deeds_by world (steps.Advance number) group ≡ []
  unfolding deeds
  none_else group differ = by (listener_at world.groups group) refl
    where
      by : (its : Option ListenerState) → listener_at world.groups group ≡ its
          → deeds_by world (steps.Advance number) group ≡ []
      by None none = ap (λ found. deeds_at found (calls_at world (steps.Advance number) group found)) none
      by (Some listener) there =
          deeds_turn group listener there
          ∙ ap (λ b. deeds listener (cond {A = List Call} b (Puts (event_at listener) ∷ []) []))
          (ne_eqb turn.interest.group group (λ same. differ (sym same)))

  -- ---- the outcome

  put_is : (listener : ListenerState) → listener_at world.groups turn.interest.group ≡ Some listener
      → (put_to world.groups turn.interest.group (event_of perm turn access)).0
      ≡ (put listener (event_at listener)).0
  unfolding put_to
  put_is listener there =
      ap (λ found. (called_at puts.Closed (λ (l : ListenerState). put l (event_at l)) world.groups
      turn.interest.group found).0) there

-- what the outcome of a fate is due to
record HasOutcome (groups : List ListenerState) (access : AccessState) (perm : Bool) (group : ℕ) (fate : Put)
    : Type 0 where
  pub outcome : StepOutcome
  pub its : outcome_for perm group fate ≡ Some outcome
  pub due : IsDueTo groups access outcome

-- a closed group isn't open
shut_group : (groups : List ListenerState) (group : ℕ) (listener : ListenerState)
    → listener_at groups group ≡ Some listener → listener.closed ≡ true → is_group_open groups group ≡ false
shut_group groups group listener there closed =
    ap (λ found. is_some (if_open found)) there
    ∙ ap (λ b. is_some (cond {A = Option ListenerState} (not b) (Some listener) None)) closed

outcome_by : (groups : List ListenerState) (access : AccessState) (perm : Bool) (turn : Turn)
    (listener : ListenerState) (event : Event) (given : Put × ListenerState) → PutForm listener event given
    → event.perm ≡ perm → listener_at groups turn.interest.group ≡ Some listener
    → PutsNext perm groups access turn.interest.group given.0
    → HasOutcome groups access perm turn.interest.group given.0
outcome_by groups access true turn listener event given (shut closed) asks there puts_it = record {
  outcome = outcomes.Closed turn.interest.group;
  its = refl;
  due = (inr (inl puts_it), shut_group groups turn.interest.group listener there closed);
}
outcome_by groups access false turn listener event given (shut closed) asks there puts_it = record {
  outcome = outcomes.Closed turn.interest.group;
  its = refl;
  due = (inr (inr puts_it), shut_group groups turn.interest.group listener there closed);
}
outcome_by groups access true turn listener event given (covered lost opened full is) asks there puts_it =
    record { outcome = outcomes.Full turn.interest.group; its = refl; due = (lost.number, puts_it) }
outcome_by groups access false turn listener event given (covered lost opened full is) asks there puts_it =
    record { outcome = outcomes.Overflow turn.interest.group; its = refl; due = (lost.number, puts_it) }
outcome_by groups access true turn listener event given (lost_first opened full none) asks there puts_it =
    record { outcome = outcomes.Full turn.interest.group; its = refl; due = (listener.next_entry, puts_it) }
outcome_by groups access false turn listener event given (lost_first opened full none) asks there puts_it =
    record {
      outcome = outcomes.Overflow turn.interest.group;
      its = refl;
      due =
          (listener.next_entry, puts_it);
    }
outcome_by groups access true turn listener event given (joined same opened room is) asks there puts_it =
    let split = found_split (takes event) (merged event) listener.queue same is in
    let its = taken_by event same split.passes in
    let clash : true ≡ false = sym asks ∙ its.notice in absurd cc
outcome_by groups access false turn listener event given (joined same opened room is) asks there puts_it =
    record { outcome = outcomes.Merged turn.interest.group; its = refl; due = (same.number, puts_it) }
outcome_by groups access true turn listener event given (came_last opened room none) asks there puts_it =
    record { outcome = outcomes.Asked turn.interest.group; its = refl; due = (listener.next_entry, puts_it) }
outcome_by groups access false turn listener event given (came_last opened room none) asks there puts_it =
    record { outcome = outcomes.Queued turn.interest.group; its = refl; due = (listener.next_entry, puts_it) }

pub has_fate : (before : List Step) (number : ℕ) (access : AccessState) (perm : Bool) (turn : Turn)
    → access_of (after initial_world before) number ≡ Some access → HasNext perm access turn
    → HasFate (after initial_world before) number access perm turn
has_fate before number access perm turn found due =
    let world = after initial_world before in
    let group = turn.interest.group in
    let its = next_there world.groups access perm turn (sees_from_first before number access found) due in
    let listener = its.listener in
    let event = event_of perm turn access listener.flags in
    let puts_it : PutsNext perm world.groups access group (put listener event).0 = record {
      turn = turn;
      next = due;
      its = refl;
      became = put_is world number access perm turn found due listener its.found;
    } in
    let told = outcome_by world.groups access perm turn listener event (put listener event)
    (put_form listener event) refl its.found puts_it in record {
      listener = listener;
      fate = (put listener event).0;
      outcome = told.outcome;
      there = its.found;
      came = came_here world number access perm turn found due listener its.found;
      its = told.its;
      answers = reply_from_due world number access told.outcome found told.due;
      alone = none_else world number access perm turn found due;
    }
