-- A run ends: each single step that doesn't end it leaves less for the access to do.
use Rattle.std.proofs.Common.{◌≡◌, ◌∙◌, ℕ, zero, suc, ◌+◌, ◌-◌, ◌*◌, ◌<◌, ◌≤◌, true, false, cond, List, [], ◌∷◌, Option, Some, None, length, refl, ap, arith}
use Rattle.std.proofs.lemmas.Option.{slice_get_within}
use Rattle.std.specs.Bool.{OnFalse}
use Rattle.std.specs.Prelude.{slice_get}
use Rattle.fan_access.specs.Access.{AccessState, Asking, Phase, Telling, Waiting, access_step, after_answer, after_ask, answered_outcome, asked_outcome, asks, asks_next, event_of, tells, tells_next, told_outcome}
use Rattle.fan_access.specs.Rounds.{Turn}
use Rattle.fan_bits.specs.declared.errno.Errno.TheVariants as errno
use Rattle.fan_bits.specs.declared.outcome.StepOutcome.{StepOutcome}
use Rattle.fan_bits.specs.declared.outcome.StepOutcome.TheVariants as outcomes
use Rattle.fan_bits.specs.Outcomes.{ends_access, ends_run}
use Rattle.fan_listener.specs.declared.answers.Answer.{Answer}
use Rattle.fan_listener.specs.declared.answers.Answer.TheVariants as answers
use Rattle.fan_queue.specs.declared.entry.Put.{Put}
use Rattle.fan_queue.specs.declared.entry.Put.TheVariants as puts
use Rattle.fan_listener.specs.Groups.{answer_from, put_to}
use Rattle.fan_listener.specs.ListenerState.{ListenerState}
use Rattle.fan_machine.specs.Accesses.{access_of, advanced}
use Rattle.fan_machine.specs.Next.{after, attempted, next}
use Rattle.fan_machine.specs.Outcome.{Outcome}
use Rattle.fan_machine.specs.Run.{Ran, is_last, max_answers, ran}
use Rattle.fan_machine.specs.World.{WorldState, initial_world}
use Rattle.fan_script.specs.declared.reply.Reply.TheVariants as replies
use Rattle.fan_script.specs.declared.step.Step.{Step}
use Rattle.fan_script.specs.declared.step.Step.TheVariants as steps
use Rattle.fan_laws.specs.Runs.{EndsOnce, IsWholeRun}
use Rattle.fan_laws.proofs.Ahead.{IsSteady, in_phase, step_goes, step_same}
use Rattle.fan_laws.proofs.Entries.{found_set}
use Rattle.fan_laws.proofs.Forms.{stepped_world}
use Rattle.fan_laws.proofs.Numbers.{none_refused}
use Rattle.fan_laws.proofs.Whole.{found_each, sound_from_first, steady}

-- how many single steps an access has left to do at most, in a phase
work : AccessState → Phase → ℕ
work access (Asking at) = 2 * (length (asks access) - at) + length (tells access) + 1
work access (Waiting at group entry) = 2 * (length (asks access) - at) + length (tells access)
work access (Telling at) = (length (tells access) - at) + 1

-- a step with this outcome ends the run, or leaves less to do
abbrev Works : AccessState → Phase → StepOutcome → Phase → Type 0
Works access phase outcome left = OnFalse (ends_run outcome) (work access left < work access phase)

module _ (access : AccessState) where
  ask_works : (at : ℕ) (turn : Turn) (became : Put) → slice_get (asks access) at ≡ Some turn
      → Works access (Asking at) (asked_outcome turn.interest.group became)
      (after_ask at turn.interest.group became)
  unfolding work
  ask_works at turn (puts.Queued entry) is = omega arith
  ask_works at turn (puts.Merged entry) is =
      let within = slice_get_within (asks access) at turn is in omega (arith, within)
  ask_works at turn (puts.Overflow entry) is =
      let within = slice_get_within (asks access) at turn is in omega (arith, within)
  ask_works at turn puts.Closed is =
      let within = slice_get_within (asks access) at turn is in omega (arith, within)

  look_works : (at group entry : ℕ) (answer : Answer) → IsSteady access (Waiting at group entry)
      → Works access (Waiting at group entry) (answered_outcome group answer)
      (after_answer at group entry answer)
  unfolding work
  look_works at group entry answers.Waiting steady = tt
  look_works at group entry answers.Allowed (turn, is, same) =
      let within = slice_get_within (asks access) at turn is in omega (arith, within)
  look_works at group entry answers.Denied steady = tt
  look_works at group entry answers.Closed (turn, is, same) =
      let within = slice_get_within (asks access) at turn is in omega (arith, within)

  -- an outcome of a tell ends no run
  told_works : (group : ℕ) (became : Put) (P : Type 0) → P → OnFalse (ends_run (told_outcome group became)) P
  told_works group (puts.Queued entry) P is = is
  told_works group (puts.Merged entry) P is = is
  told_works group (puts.Overflow entry) P is = is
  told_works group puts.Closed P is = is

  tell_works : (at : ℕ) (groups : List ListenerState) (next : Option Turn) → slice_get (tells access) at
      ≡ next →
      let stepped = tells_next next at groups (in_phase access (Telling at)) in
      Works access (Telling at) stepped.outcome stepped.access.phase
  unfolding work
  tell_works at groups (Some turn) is =
      let within = slice_get_within (tells access) at turn is in
      let became = (put_to groups turn.interest.group (event_of false turn (in_phase access
      (Telling at)))).0 in
      told_works turn.interest.group became _ (omega (arith, within))
  tell_works at groups None is = tt

  first_tell_works : (at : ℕ) (groups : List ListenerState) (next : Option Turn)
      → slice_get (tells access) 0 ≡ next →
      let stepped = tells_next next 0 groups (in_phase access (Asking at)) in
      Works access (Asking at) stepped.outcome stepped.access.phase
  unfolding work
  first_tell_works at groups (Some turn) is =
      let within = slice_get_within (tells access) 0 turn is in
      let became = (put_to groups turn.interest.group (event_of false turn (in_phase access
      (Asking at)))).0 in
      told_works turn.interest.group became _ (omega (arith, within))
  first_tell_works at groups None is = tt

  next_ask_works : (at : ℕ) (groups : List ListenerState) (next : Option Turn) → slice_get (asks access) at
      ≡ next →
      let stepped = asks_next next at groups (in_phase access (Asking at)) in
      Works access (Asking at) stepped.outcome stepped.access.phase
  next_ask_works at groups (Some turn) is =
      ask_works at turn (put_to groups turn.interest.group (event_of true turn (in_phase access
      (Asking at)))).0 is
  next_ask_works at groups None is = first_tell_works at groups (slice_get (tells access) 0) refl

  step_works : (groups : List ListenerState) (phase : Phase) → IsSteady access phase →
      let stepped = access_step groups (in_phase access phase) in
      Works access phase stepped.outcome stepped.access.phase
  unfolding access_step
  step_works groups (Asking at) steady = next_ask_works at groups (slice_get (asks access) at) refl
  step_works groups (Waiting at group entry) steady = look_works at group entry
      (answer_from groups group entry).0 steady
  step_works groups (Telling at) steady = tell_works at groups (slice_get (tells access) at) refl

-- there is always work left
some_work : (access : AccessState) (phase : Phase) → IsSteady access phase → work access phase ≤ 0 → ⊥
unfolding work
some_work access (Asking at) steady upto = omega arith
some_work access (Waiting at group entry) (turn, is, same) upto =
    let within = slice_get_within (asks access) at turn is in omega (arith, within)
some_work access (Telling at) steady upto = omega arith

-- and never more than two rounds of asks and one of tells give
few_work : (access : AccessState) (phase : Phase) → length (asks access) ≤ 256
    → length (asks access) + length (tells access) ≤ 384 → work access phase ≤ 641
unfolding work
few_work access (Asking at) asked told = omega arith
few_work access (Waiting at group entry) asked told = omega arith
few_work access (Telling at) asked told = omega arith

-- an outcome that ends no run ends no access
goes_on : (outcome : StepOutcome) → ends_run outcome ≡ false → ends_access outcome ≡ false
goes_on (outcomes.Blocked group) not = absurd cc
goes_on (outcomes.Denied group) not = absurd cc
goes_on outcomes.Done not = absurd cc
goes_on other not = refl

-- the single step of an open access
step_is : (world : WorldState) (number : ℕ) (access : AccessState) → access_of world number ≡ Some access
    → next world (steps.Advance number) ≡ record {
      reply = replies.Out ((access_step world.groups access).outcome ∷ []);
      world = stepped_world number (access_step world.groups access) world;
    }
unfolding next attempted advanced
step_is world number access found = rw found refl

-- a run by its first step
ran_by : (count : ℕ) (first : Outcome) (number : ℕ) (outcome : StepOutcome)
    → first.reply ≡ replies.Out (outcome ∷ [])
    → (ends_run outcome ≡ false → EndsOnce (ran count first.world number).answers)
    → EndsOnce (cond {A = Ran} (is_last first.reply)
    (record { answers = first.reply ∷ []; world = first.world })
    (record {
      answers = first.reply ∷ (ran count first.world number).answers;
      world =
          (ran count first.world number).world;
    })).answers
ran_by count first number outcome is rest =
    rw is
    ((elim (ends_run outcome) as (λ b. ends_run outcome ≡ b → EndsOnce (cond {A = Ran} b
    (record { answers = replies.Out (outcome ∷ []) ∷ []; world = first.world })
    (record {
      answers = replies.Out (outcome ∷ []) ∷ (ran count first.world number).answers;
      world =
          (ran count first.world number).world;
    })).answers) [
      | true ↦ λ last. (outcome, refl, rw last refl)
      | false ↦ λ not. (outcome, refl, rw not (rest not))
    ]) refl)

module _ (number : ℕ) (access : AccessState) where
  -- a run of as many steps as there is work ends
  ends_once : (count : ℕ) (phase : Phase) (world : WorldState) → IsSteady access phase
      → work access phase ≤ count
      → access_of world number ≡ Some (in_phase access phase) → EndsOnce (ran count world number).answers
  unfolding ran
  ends_once zero phase world steady upto found = absurd (some_work access phase steady upto)
  ends_once (suc count) phase world steady upto found =
      let stepped = access_step world.groups (in_phase access phase) in
      let new = stepped_world number stepped world in
      let is = step_is world number (in_phase access phase) found in
      let works = step_works access world.groups phase steady in
      let goes = step_goes access world.groups phase steady in
      let same = step_same access world.groups phase in
      ran_by count (next world (steps.Advance number)) number stepped.outcome (ap (λ
      (o : Outcome). o.reply) is)
      (λ not.
      let less : work access stepped.access.phase < work access phase = rw not at works in
      let left : access_of new number ≡ Some (in_phase access stepped.access.phase) =
      rw (goes_on stepped.outcome not)
      (found_set number (in_phase access phase) stepped.access world.accesses found
      ∙ ap (λ (a : AccessState). Some a) same) in
      rw is (ends_once count stepped.access.phase new goes.steady (omega (arith, less, upto)) left))

-- of an access that is not open the run is ESRCH alone
refused_alone : (number : ℕ) (world : WorldState) → access_of world number ≡ None
    → (ran max_answers world number).answers ≡ replies.Refused errno.Esrch ∷ []
unfolding max_answers ran
refused_alone number world none = rw (none_refused number world none) refl

whole_run : (all : List Step) (number : ℕ) (found : Option AccessState) →
    let world = after initial_world all in
    access_of world number ≡ found → IsWholeRun found (ran max_answers world number).answers
unfolding max_answers
whole_run all number None none = refused_alone number (after initial_world all) none
whole_run all number (Some access) found =
    let world = after initial_world all in
    let its = found_each world.mounts number access world.accesses (sound_from_first all).accesses found in
    ends_once number access 641 access.phase world (steady world.mounts access its)
    (few_work access access.phase its.few_asks its.few) found

-- after any steps a run ends
pub run_ends : (all : List Step) (number : ℕ) →
    let world = after initial_world all in
    IsWholeRun (access_of world number) (ran max_answers world number).answers
run_ends all number = whole_run all number (access_of (after initial_world all) number) refl
