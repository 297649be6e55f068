-- What is ahead of an access, by its phase; and that a single step does the first of it.
use Rattle.std.proofs.Common.{◌≡◌, ℕ, ◌+◌, Bool, true, false, List, [], ◌∷◌, ◌++◌, Option, Some, None, drop, refl, slice_get}
use Rattle.std.specs.Prelude.{MatchBool, filter}
use Rattle.fan_access.specs.Access.{AccessState, Asking, Phase, Telling, Waiting, access_step, after_answer, after_ask, answered_outcome, asked_outcome, asks, asks_next, tells, tells_next, told_outcome, event_of}
use Rattle.fan_access.specs.Rounds.{Turn}
use Rattle.fan_bits.specs.declared.outcome.StepOutcome.{StepOutcome}
use Rattle.fan_bits.specs.declared.outcome.StepOutcome.TheVariants as outcomes
use Rattle.fan_bits.specs.Outcomes.{asked_by, ends_access, is_denial, settles, told_by}
use Rattle.fan_lists.proofs.Places.{drop_end, drop_next}
use Rattle.fan_listener.specs.declared.answers.Answer.{Answer}
use Rattle.fan_listener.specs.declared.answers.Answer.TheVariants as answers
use Rattle.fan_queue.specs.declared.entry.Put.{Put}
use Rattle.fan_queue.specs.declared.entry.Put.TheVariants as puts
use Rattle.fan_listener.specs.Groups.{answer_from, put_to}
use Rattle.fan_listener.specs.ListenerState.{ListenerState}
use Rattle.fan_laws.specs.InOrder.{AsksThenTells, TellsInOrder}

-- an access in another phase
abbrev pub in_phase : AccessState → Phase → AccessState
in_phase access phase = record access { phase = phase }

-- what is ahead of an access in a phase
abbrev pub Ahead : AccessState → Phase → List StepOutcome → Bool → Type 0
Ahead access (Asking at) outcomes finished = AsksThenTells (drop at (asks access))
    (tells access) outcomes finished
Ahead access (Waiting at group entry) outcomes finished =
    AsksThenTells (drop at (asks access)) (tells access) outcomes finished
Ahead access (Telling at) outcomes finished = TellsInOrder (drop at (tells access)) outcomes finished

-- an access that waits does so at the turn of the group that it waits for
abbrev pub IsSteady : AccessState → Phase → Type 0
IsSteady access (Waiting at group entry) =
    (turn : Turn) × (slice_get (asks access) at ≡ Some turn) × (turn.interest.group ≡ group)
IsSteady access _ = Unit {0}

-- a step with this outcome does the first of what is ahead, and leaves the access in a phase
pub record Goes (access : AccessState) (phase : Phase) (outcome : StepOutcome) (left : Phase) : Type 0 where
  pub steady : IsSteady access left
  pub leads : MatchBool (ends_access outcome) (Ahead access phase (filter settles (outcome ∷ [])) true)
      ((more : List StepOutcome) (finished : Bool) → Ahead access left more finished
      → Ahead access phase (filter settles (outcome ∷ []) ++ more) finished)

-- an ask is settled, with no denial
settles_ask : (turns tells : List Turn) (at : ℕ) (turn : Turn) (outcome : StepOutcome)
    (more : List StepOutcome)
    (finished : Bool) → slice_get turns at ≡ Some turn → asked_by outcome ≡ Some turn.interest.group
    → is_denial outcome ≡ false → AsksThenTells (drop (at + 1) turns) tells more finished
    → AsksThenTells (drop at turns) tells (outcome ∷ more) finished
settles_ask turns tells at turn outcome more finished is by none rest =
    rw (drop_next turns at turn is, none) (by, rest)

-- an ask is denied
denies_ask : (turns tells : List Turn) (at : ℕ) (turn : Turn) (group : ℕ) → slice_get turns at ≡ Some turn
    → turn.interest.group ≡ group → AsksThenTells (drop at turns) tells (outcomes.Denied group ∷ []) true
denies_ask turns tells at turn group is same = rw (drop_next turns at turn is, same) (refl, (refl, refl))

-- a group is told
settles_tell : (turns : List Turn) (at : ℕ) (turn : Turn) (outcome : StepOutcome) (more : List StepOutcome)
    (finished : Bool) → slice_get turns at ≡ Some turn → told_by outcome ≡ Some turn.interest.group
    → TellsInOrder (drop (at + 1) turns) more finished → TellsInOrder (drop at turns)
    (outcome ∷ more) finished
settles_tell turns at turn outcome more finished is by rest = rw (drop_next turns at turn is) (by, rest)

-- with no ask left an access tells
tells_then : (asks tells : List Turn) (at : ℕ) (outcomes : List StepOutcome) (finished : Bool)
    → slice_get asks at ≡ None → TellsInOrder tells outcomes finished
    → AsksThenTells (drop at asks) tells outcomes finished
tells_then asks tells at outcomes finished none rest = rw (drop_end asks at none) rest

module _ (access : AccessState) where
  -- a group is asked
  ask_goes : (at : ℕ) (turn : Turn) (became : Put) → slice_get (asks access) at ≡ Some turn
      → Goes access (Asking at) (asked_outcome turn.interest.group became)
      (after_ask at turn.interest.group became)
  ask_goes at turn (puts.Queued entry) is = record {
    steady = (turn, is, refl);
    leads = λ more finished rest. rest;
  }
  ask_goes at turn puts.Closed is = record {
    steady = tt;
    leads = λ more finished rest.
        settles_ask (asks access) (tells access) at turn
        (outcomes.Closed turn.interest.group) more finished is refl refl rest;
  }
  ask_goes at turn other is = record {
    steady = tt;
    leads = λ more finished rest.
        settles_ask (asks access) (tells access) at turn
        (outcomes.Full turn.interest.group) more finished is refl refl rest;
  }

  -- the answer of a group is looked for
  look_goes : (at group entry : ℕ) (answer : Answer) → IsSteady access (Waiting at group entry)
      → Goes access (Waiting at group entry) (answered_outcome group answer)
      (after_answer at group entry answer)
  look_goes at group entry answers.Waiting (turn, is, same) = record {
    steady = (turn, is, same);
    leads = λ more finished rest. rest;
  }
  look_goes at group entry answers.Allowed (turn, is, same) = record {
    steady = tt;
    leads = λ more finished rest. settles_ask (asks access) (tells access) at turn
        (outcomes.Allowed group) more finished
        is (rw same refl) refl rest;
  }
  look_goes at group entry answers.Denied (turn, is, same) = record {
    steady = tt;
    leads = denies_ask (asks access) (tells access) at turn group is same;
  }
  look_goes at group entry answers.Closed (turn, is, same) = record {
    steady = tt;
    leads = λ more finished rest. settles_ask (asks access) (tells access) at turn
        (outcomes.Closed group) more finished
        is (rw same refl) refl rest;
  }

  -- what a tell settles
  told_settles : (at : ℕ) (turn : Turn) (became : Put) (more : List StepOutcome) (finished : Bool)
      → slice_get (tells access) at ≡ Some turn → TellsInOrder (drop (at + 1) (tells access)) more finished
      → TellsInOrder (drop at (tells access)) (filter settles
      (told_outcome turn.interest.group became ∷ []) ++ more) finished
  told_settles at turn (puts.Queued entry) more finished is rest =
      settles_tell (tells access) at turn (outcomes.Queued turn.interest.group) more finished is refl rest
  told_settles at turn (puts.Merged entry) more finished is rest =
      settles_tell (tells access) at turn (outcomes.Merged turn.interest.group) more finished is refl rest
  told_settles at turn (puts.Overflow entry) more finished is rest =
      settles_tell (tells access) at turn (outcomes.Overflow turn.interest.group) more finished is refl rest
  told_settles at turn puts.Closed more finished is rest =
      settles_tell (tells access) at turn (outcomes.Closed turn.interest.group) more finished is refl rest

  goes_on : (P Q : Type 0) (group : ℕ) (became : Put) → Q
      → MatchBool (ends_access (told_outcome group became)) P Q
  goes_on P Q group (puts.Queued entry) goes = goes
  goes_on P Q group (puts.Merged entry) goes = goes
  goes_on P Q group (puts.Overflow entry) goes = goes
  goes_on P Q group puts.Closed goes = goes

  -- a group is told, or the access is done
  tell_goes : (at : ℕ) (groups : List ListenerState) (next : Option Turn) → slice_get (tells access) at
      ≡ next →
      let stepped = tells_next next at groups (in_phase access (Telling at)) in
      Goes access (Telling at) stepped.outcome stepped.access.phase
  tell_goes at groups (Some turn) is =
      let became = (put_to groups turn.interest.group (event_of false turn (in_phase access
      (Telling at)))).0 in record {
        steady = tt;
        leads = goes_on _ _ turn.interest.group became
            (λ more finished rest. told_settles at turn became more finished is rest);
      }
  tell_goes at groups None is = record { steady = tt; leads = λ yes. drop_end (tells access) at is }

  -- the same once no ask is left
  first_tell_goes : (at : ℕ) (groups : List ListenerState) (next : Option Turn)
      → slice_get (asks access) at ≡ None
      → slice_get (tells access) 0 ≡ next →
      let stepped = tells_next next 0 groups (in_phase access (Asking at)) in
      Goes access (Asking at) stepped.outcome stepped.access.phase
  first_tell_goes at groups (Some turn) none is =
      let became = (put_to groups turn.interest.group (event_of false turn (in_phase access
      (Asking at)))).0 in record {
        steady = tt;
        leads = goes_on _ _ turn.interest.group became
            (λ more finished rest. tells_then (asks access) (tells access) at _ finished none
            (told_settles 0 turn became more finished is rest));
      }
  first_tell_goes at groups None none is = record {
    steady = tt;
    leads = tells_then (asks access) (tells access) at [] true none (λ yes. drop_end (tells access) 0 is);
  }

  next_ask_goes : (at : ℕ) (groups : List ListenerState) (next : Option Turn) → slice_get (asks access) at
      ≡ next →
      let stepped = asks_next next at groups (in_phase access (Asking at)) in
      Goes access (Asking at) stepped.outcome stepped.access.phase
  next_ask_goes at groups (Some turn) is =
      ask_goes at turn (put_to groups turn.interest.group (event_of true turn (in_phase access
      (Asking at)))).0 is
  next_ask_goes at groups None is = first_tell_goes at groups (slice_get (tells access) 0) is refl

  -- the single step of an access in a phase
  pub step_goes : (groups : List ListenerState) (phase : Phase) → IsSteady access phase →
      let stepped = access_step groups (in_phase access phase) in
      Goes access phase stepped.outcome stepped.access.phase
  unfolding access_step
  step_goes groups (Asking at) steady = next_ask_goes at groups (slice_get (asks access) at) refl
  step_goes groups (Waiting at group entry) steady =
      look_goes at group entry (answer_from groups group entry).0 steady
  step_goes groups (Telling at) steady = tell_goes at groups (slice_get (tells access) at) refl

  -- and only the phase changes
  same_tell : (next : Option Turn) (at : ℕ) (groups : List ListenerState) (phase : Phase) →
      let stepped = tells_next next at groups (in_phase access phase) in
      stepped.access ≡ in_phase access stepped.access.phase
  same_tell None at groups phase = refl
  same_tell (Some turn) at groups phase = refl

  same_ask : (next : Option Turn) (at : ℕ) (groups : List ListenerState) (phase : Phase) →
      let stepped = asks_next next at groups (in_phase access phase) in
      stepped.access ≡ in_phase access stepped.access.phase
  same_ask None at groups phase = same_tell (slice_get (tells access) 0) 0 groups phase
  same_ask (Some turn) at groups phase = refl

  pub step_same : (groups : List ListenerState) (phase : Phase) →
      let stepped = access_step groups (in_phase access phase) in
      stepped.access ≡ in_phase access stepped.access.phase
  unfolding access_step
  step_same groups (Asking at) = same_ask (slice_get (asks access) at) at groups (Asking at)
  step_same groups (Waiting at group entry) = refl
  step_same groups (Telling at) = same_tell (slice_get (tells access) at) at groups (Telling at)
