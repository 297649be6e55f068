-- Each outcome of a single step has its cause, and each cause gives its outcome.
use Rattle.std.proofs.Common.{◌≡◌, ◌∙◌, ℕ, Bool, true, false, cond, not, List, [], ◌∷◌, Option, Some, None, refl, sym, ap, slice_get, inl, inr}
use Rattle.std.specs.Prelude.{is_some}
use Rattle.fan_access.specs.Access.{AccessState, Asking, Phase, Stepped, Telling, Waiting, access_step, answered_outcome, asked, asked_outcome, asks, asks_next, event_of, looked, step_at, tells, tells_next, told, told_outcome}
use Rattle.fan_access.specs.Rounds.{Turn}
use Rattle.fan_bits.specs.declared.outcome.StepOutcome.{StepOutcome}
use Rattle.fan_bits.specs.declared.outcome.StepOutcome.TheVariants as outcomes
use Rattle.fan_listener.specs.declared.answers.Answer.{Answer}
use Rattle.fan_listener.specs.declared.answers.Verdict.{Verdict}
use Rattle.fan_listener.specs.declared.answers.Verdict.TheVariants.{Allow, Deny}
use Rattle.fan_listener.specs.declared.answers.Answer.TheVariants as answers
use Rattle.fan_event.specs.declared.event.Event.{Event}
use Rattle.fan_queue.specs.declared.entry.Put.{Put}
use Rattle.fan_queue.specs.declared.entry.Put.TheVariants as puts
use Rattle.fan_listener.specs.Groups.{answer_from, called_at, if_open, is_open, listener_at, put_to}
use Rattle.fan_listener.specs.ListenerState.{ListenerState}
use Rattle.fan_listener.specs.Queue.{put}
use Rattle.fan_listener.proofs.PutLemmas.{by_put_to}
use Rattle.fan_listener.specs.Responses.{answer_of, answer_or_closed}
use Rattle.fan_machine.specs.Accesses.{access_of, advanced}
use Rattle.fan_machine.specs.Next.{attempted, next}
use Rattle.fan_machine.specs.World.{WorldState}
use Rattle.fan_script.specs.declared.reply.Reply.TheVariants as replies
use Rattle.fan_script.specs.declared.step.Step.TheVariants as steps
use Rattle.fan_laws.specs.Causes.{HasNext, HasNoneLeft, IsAtTell, IsDueTo, PutsNext, WaitsFor, is_group_open, kept_verdict}

-- ---- what becomes of an event

-- by whether the group is open and the event asks permission
abbrev MayBecome : Bool → Bool → Put → Type 0
MayBecome opened perm (puts.Queued entry) = opened ≡ true
MayBecome opened perm (puts.Merged entry) = (opened ≡ true) × (perm ≡ false)
MayBecome opened perm (puts.Overflow entry) = opened ≡ true
MayBecome opened perm puts.Closed = opened ≡ false

put_may : (listener : ListenerState) (event : Event) → MayBecome (is_open listener) event.perm
    (put listener event).0
put_may listener event =
    by_put_to (λ r. MayBecome (is_open listener) event.perm r.0) listener event (λ closed. rw closed refl)
    (λ entry opened. rw opened refl) (λ opened. rw opened refl) (λ entry opened plain. rw opened (refl, plain))
    (λ opened. rw opened refl)

if_open_is : (listener : ListenerState) → is_some (if_open (Some listener)) ≡ is_open listener
if_open_is listener =
    elim (is_open listener) as (λ opened. is_some (cond {A = Option ListenerState} opened
    (Some listener) None) ≡ opened)
    [ true ↦ refl | false ↦ refl ]

called_may : (found : Option ListenerState) (groups : List ListenerState) (group : ℕ) (event : ℕ
    → Event) (perm : Bool)
    → ((flags : ℕ) → (event flags).perm ≡ perm)
    → MayBecome (is_some (if_open found)) perm
    (called_at puts.Closed (λ listener. put listener (event listener.flags)) groups group found).0
called_may None groups group event perm is = refl
called_may (Some listener) groups group event perm is =
    rw (if_open_is listener, ← (is listener.flags)) (put_may listener (event listener.flags))

-- a closed group takes no event, and one that asks permission is not merged
puts_may : (perm : Bool) (groups : List ListenerState) (access : AccessState) (turn : Turn)
    → MayBecome (is_group_open groups turn.interest.group) perm
    (put_to groups turn.interest.group (event_of perm turn access)).0
unfolding put_to
puts_may perm groups access turn =
    called_may (listener_at groups turn.interest.group) groups turn.interest.group
    (event_of perm turn access) perm
    (λ flags. refl)

-- ---- what is seen of an answer

called_answer : (found : Option ListenerState) (groups : List ListenerState) (group entry : ℕ)
    → (called_at answers.Closed (λ listener. answer_of listener entry) groups group found).0
    ≡ answer_or_closed (not (is_some (if_open found))) (kept_verdict found entry)
unfolding answer_of
called_answer None groups group entry = refl
called_answer (Some listener) groups group entry =
    rw (if_open_is listener)
    (elim listener.closed as (λ closed. answer_or_closed closed (kept_verdict (Some listener) entry)
    ≡ answer_or_closed (not (not closed)) (kept_verdict
    (Some listener) entry)) [ true ↦ refl | false ↦ refl ])

answer_is : (groups : List ListenerState) (group entry : ℕ)
    → (answer_from groups group entry).0
    ≡ answer_or_closed (not (is_group_open groups group)) (kept_verdict (listener_at groups group) entry)
unfolding answer_from
answer_is groups group entry = called_answer (listener_at groups group) groups group entry

-- ---- the step, by what comes next

waits_is : (groups : List ListenerState) (access : AccessState) (at group entry : ℕ)
    → access.phase ≡ Waiting at group entry → access_step groups access ≡ looked at group entry groups access
unfolding access_step
waits_is groups access at group entry is = ap (λ phase. step_at phase groups access) is

-- an access that comes to its tells
tells_is : (groups : List ListenerState) (access : AccessState) (at : ℕ) → IsAtTell access at
    → access_step groups access ≡ tells_next (slice_get (tells access) at) at groups access
unfolding access_step
tells_is groups access at (inl is) = ap (λ phase. step_at phase groups access) is
tells_is groups access at (inr (asked, is, none, first)) =
    ap (λ phase. step_at phase groups access) is
    ∙ ap (λ next. asks_next next asked groups access) none
    ∙ ap (λ n. tells_next (slice_get (tells access) n) n groups access) (sym first)

none_is : (groups : List ListenerState) (access : AccessState) → HasNoneLeft access
    → access_step groups access ≡ record { outcome = outcomes.Done; groups = groups; access = access }
none_is groups access (at, comes, none) =
    tells_is groups access at comes ∙ ap (λ next. tells_next next at groups access) none

-- the outcome of a turn, by what became of its event
abbrev put_outcome : Bool → ℕ → Put → StepOutcome
put_outcome true group result = asked_outcome group result
put_outcome false group result = told_outcome group result

-- a turn that comes next puts its event
record Puts (perm : Bool) (groups : List ListenerState) (access : AccessState) (turn : Turn) : Type 0 where
  outcome : (access_step groups access).outcome
      ≡ put_outcome perm turn.interest.group (put_to groups turn.interest.group (event_of perm turn access)).0
  listeners : (access_step groups access).groups
      ≡ (put_to groups turn.interest.group (event_of perm turn access)).1

puts_is : (perm : Bool) (groups : List ListenerState) (access : AccessState) (turn : Turn)
    → HasNext perm access turn
    → Puts perm groups access turn
unfolding access_step
puts_is true groups access turn (at, is, next) =
    let step : access_step groups access ≡ asked turn at groups access =
    ap (λ phase. step_at phase groups access) is ∙ ap
    (λ next. asks_next next at groups access) next in record {
      outcome = ap (λ (s : Stepped). s.outcome) step;
      listeners = ap (λ (s : Stepped). s.groups) step;
    }
puts_is false groups access turn (at, comes, next) =
    let step : access_step groups access ≡ told turn at groups access =
    tells_is groups access at comes ∙ ap (λ next. tells_next next at groups access) next in record {
      outcome = ap (λ (s : Stepped). s.outcome) step;
      listeners = ap (λ (s : Stepped). s.groups) step;
    }

-- ---- from a cause to the outcome

puts_gives : (perm : Bool) (groups : List ListenerState) (access : AccessState) (group : ℕ) (result : Put)
    → PutsNext perm groups access group result → (access_step groups access).outcome
    ≡ put_outcome perm group result
puts_gives perm groups access group result due =
    (puts_is perm groups access due.turn due.next).outcome
    ∙ ap (λ (p : Put). put_outcome perm due.turn.interest.group p) due.became
    ∙ ap (λ (g : ℕ). put_outcome perm g result) due.its

waits_gives : (groups : List ListenerState) (access : AccessState) (group : ℕ) (kept : Option Verdict)
    (opened : Bool)
    → WaitsFor groups access group kept → is_group_open groups group ≡ opened
    → (access_step groups access).outcome ≡ answered_outcome group (answer_or_closed (not opened) kept)
waits_gives groups access group kept opened due is =
    ap (λ (s : Stepped). s.outcome) (waits_is groups access due.at group due.entry due.waits)
    ∙ ap (λ (a : Answer). answered_outcome group a) (answer_is groups group due.entry)
    ∙ ap (λ (b : Bool). answered_outcome group (answer_or_closed (not b) (kept_verdict
    (listener_at groups group) due.entry))) is
    ∙ ap (λ (v : Option Verdict). answered_outcome group (answer_or_closed (not opened) v)) due.kept

cause_gives : (groups : List ListenerState) (access : AccessState) (outcome : StepOutcome)
    → IsDueTo groups access outcome → (access_step groups access).outcome ≡ outcome
cause_gives groups access (outcomes.Asked group) (entry, due) = puts_gives true groups access group
    (puts.Queued entry) due
cause_gives groups access (outcomes.Full group) (entry, due) = puts_gives true groups access group
    (puts.Overflow entry) due
cause_gives groups access (outcomes.Blocked group)
    (due, is) = waits_gives groups access group None true due is
cause_gives groups access (outcomes.Allowed group) due =
    waits_gives groups access group (Some Allow) (is_group_open groups group) due refl
cause_gives groups access (outcomes.Denied group) due =
    waits_gives groups access group (Some Deny) (is_group_open groups group) due refl
cause_gives groups access (outcomes.Closed group)
    (inl due, is) = waits_gives groups access group None false due is
cause_gives groups access (outcomes.Closed group) (
  inr
      (inl due),
  is,
) = puts_gives true groups access group puts.Closed due
cause_gives groups access (outcomes.Closed group) (
  inr
      (inr due),
  is,
) = puts_gives false groups access group puts.Closed due
cause_gives groups access (outcomes.Queued group) (entry, due) = puts_gives false groups access group
    (puts.Queued entry) due
cause_gives groups access (outcomes.Merged group) (entry, due) = puts_gives false groups access group
    (puts.Merged entry) due
cause_gives groups access (outcomes.Overflow group) (entry, due) =
    puts_gives false groups access group (puts.Overflow entry) due
cause_gives groups access outcomes.Done due = ap (λ (s : Stepped). s.outcome) (none_is groups access due)

-- ---- from the outcome to its cause

answer_due : (groups : List ListenerState) (access : AccessState) (group : ℕ) (kept : Option Verdict)
    (opened : Bool)
    → WaitsFor groups access group kept → is_group_open groups group ≡ opened
    → IsDueTo groups access (answered_outcome group (answer_or_closed (not opened) kept))
answer_due groups access group None true due is = (due, is)
answer_due groups access group None false due is = (inl due, is)
answer_due groups access group (Some Allow) opened due is = due
answer_due groups access group (Some Deny) opened due is = due

puts_due : (perm : Bool) (groups : List ListenerState) (access : AccessState) (group : ℕ) (result : Put)
    → MayBecome (is_group_open groups group) perm result → PutsNext perm groups access group result
    → IsDueTo groups access (put_outcome perm group result)
puts_due true groups access group (puts.Queued entry) may due = (entry, due)
puts_due true groups access group (puts.Merged entry) may due = let never : true ≡ false = may.1 in absurd cc
puts_due true groups access group (puts.Overflow entry) may due = (entry, due)
puts_due true groups access group puts.Closed may due = (inr (inl due), may)
puts_due false groups access group (puts.Queued entry) may due = (entry, due)
puts_due false groups access group (puts.Merged entry) may due = (entry, due)
puts_due false groups access group (puts.Overflow entry) may due = (entry, due)
puts_due false groups access group puts.Closed may due = (inr (inr due), may)

next_due : (perm : Bool) (groups : List ListenerState) (access : AccessState) (turn : Turn)
    → HasNext perm access turn
    → IsDueTo groups access (access_step groups access).outcome
next_due perm groups access turn next =
    let became = (put_to groups turn.interest.group (event_of perm turn access)).0 in
    rw ((puts_is perm groups access turn next).outcome)
    (puts_due perm groups access turn.interest.group became (puts_may perm groups access turn)
    (record { turn = turn; next = next; its = refl; became = refl }))

tell_due : (groups : List ListenerState) (access : AccessState) (at : ℕ) (next : Option Turn)
    → IsAtTell access at → slice_get (tells access) at ≡ next
    → IsDueTo groups access (access_step groups access).outcome
tell_due groups access at (Some turn) comes is = next_due false groups access turn (at, comes, is)
tell_due groups access at None comes is =
    rw (ap (λ (s : Stepped). s.outcome) (none_is groups access (at, comes, is))) (at, comes, is)

ask_due : (groups : List ListenerState) (access : AccessState) (at : ℕ) (next : Option Turn)
    → access.phase ≡ Asking at → slice_get (asks access) at ≡ next
    → IsDueTo groups access (access_step groups access).outcome
ask_due groups access at (Some turn) is next = next_due true groups access turn (at, is, next)
ask_due groups access at None is none =
    tell_due groups access 0 (slice_get (tells access) 0) (inr (at, is, none, refl)) refl

phase_due : (groups : List ListenerState) (access : AccessState) (phase : Phase) → access.phase ≡ phase
    → IsDueTo groups access (access_step groups access).outcome
phase_due groups access (Asking at) is = ask_due groups access at (slice_get (asks access) at) is refl
phase_due groups access (Waiting at group entry) is =
    let kept = kept_verdict (listener_at groups group) entry in
    let due : WaitsFor groups access group kept = record { at = at; entry = entry; waits = is; kept = refl }
    in
    rw (waits_gives groups access group kept (is_group_open groups group) due refl)
    (answer_due groups access group kept (is_group_open groups group) due refl)
phase_due groups access (Telling at) is = tell_due groups access at (slice_get (tells access) at)
    (inl is) refl

-- ---- in the machine

-- the reply to a single step of an open access
reply_is : (world : WorldState) (number : ℕ) (access : AccessState) → access_of world number ≡ Some access
    → (next world (steps.Advance number)).reply ≡ replies.Out ((access_step world.groups access).outcome ∷ [])
unfolding next attempted advanced
reply_is world number access found = rw found refl

-- and the listeners after it
pub groups_are : (world : WorldState) (number : ℕ) (access : AccessState) → access_of world number
    ≡ Some access
    → (next world (steps.Advance number)).world.groups ≡ (access_step world.groups access).groups
unfolding next attempted advanced
groups_are world number access found = rw found refl

-- an outcome has its cause
pub due_from_reply : (world : WorldState) (number : ℕ) (access : AccessState) (outcome : StepOutcome)
    → access_of world number ≡ Some access
    → (next world (steps.Advance number)).reply ≡ replies.Out (outcome ∷ [])
    → IsDueTo world.groups access outcome
due_from_reply world number access outcome found said =
    let reply = reply_is world number access found in
    let same : (access_step world.groups access).outcome ≡ outcome = cc in
    rw same at (phase_due world.groups access access.phase refl)

-- a cause gives its outcome
pub reply_from_due : (world : WorldState) (number : ℕ) (access : AccessState) (outcome : StepOutcome)
    → access_of world number ≡ Some access → IsDueTo world.groups access outcome
    → (next world (steps.Advance number)).reply ≡ replies.Out (outcome ∷ [])
reply_from_due world number access outcome found due =
    reply_is world number access found
    ∙ ap (λ (o : StepOutcome). replies.Out (o ∷ [])) (cause_gives world.groups access outcome due)

-- the step puts the event of the turn that comes next
pub puts_event : (world : WorldState) (number : ℕ) (access : AccessState) (perm : Bool) (turn : Turn)
    → access_of world number ≡ Some access → HasNext perm access turn
    → (next world (steps.Advance number)).world.groups
    ≡ (put_to world.groups turn.interest.group (event_of perm turn access)).1
puts_event world number access perm turn found next =
    groups_are world number access found ∙ (puts_is perm world.groups access turn next).listeners

-- or looks for the answer that it waits for
pub takes_answer : (world : WorldState) (number at group entry : ℕ) (access : AccessState)
    → access_of world number ≡ Some access → access.phase ≡ Waiting at group entry
    → (next world (steps.Advance number)).world.groups ≡ (answer_from world.groups group entry).1
takes_answer world number at group entry access found is =
    groups_are world number access found
    ∙ ap (λ (s : Stepped). s.groups) (waits_is world.groups access at group entry is)

-- or leaves the listeners
pub leaves_groups : (world : WorldState) (number : ℕ) (access : AccessState) → access_of world number
    ≡ Some access
    → HasNoneLeft access → (next world (steps.Advance number)).world.groups ≡ world.groups
leaves_groups world number access found none =
    groups_are world number access found ∙ ap (λ (s : Stepped). s.groups) (none_is world.groups access none)
