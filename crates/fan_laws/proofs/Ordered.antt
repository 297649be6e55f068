-- The whole of an access, from its begin on: each single step of its number does the first of what is ahead
-- of it.
use Rattle.std.proofs.Common.{drop, ◌≡◌, ◌∙◌, ℕ, ◌<◌, ◌≤◌, Bool, true, false, cond, eqb, List, [], ◌∷◌, ◌++◌, Option, Some, None, Ok, refl, sym, ap, subst, arith}
use Rattle.std.proofs.lemmas.Bool.{cond_both, eqb-true, eqb-false, ltb-true}
use Rattle.std.proofs.lemmas.List.{append-nil}
use Rattle.std.specs.Map.{remove_entry, set_value}
use Rattle.std.specs.Prelude.{IfSome, MatchBool, filter, is_none}
use Rattle.fan_access.specs.Access.{AccessState, Asking, Phase, Stepped, Telling, Waiting, access_step, asks, tells}
use Rattle.fan_access.specs.declared.op.Op.{Op}
use Rattle.fan_access.specs.Rounds.{Turn}
use Rattle.fan_bits.specs.declared.change.Change.{Change}
use Rattle.fan_bits.specs.declared.errno.Errno.{Errno}
use Rattle.fan_bits.specs.declared.outcome.StepOutcome.{StepOutcome}
use Rattle.fan_bits.specs.declared.mark.Mark.{Mark}
use Rattle.fan_bits.specs.Outcomes.{ends_access, settles}
use Rattle.fan_machine.specs.Accesses.{access_of, op_of}
use Rattle.fan_machine.specs.Deeds.{Deed, deed_of}
use Rattle.fan_machine.specs.Next.{after, next}
use Rattle.fan_machine.specs.Outcome.{Outcome}
use Rattle.fan_machine.specs.World.{WorldState, changed_if}
use Rattle.fan_script.specs.declared.reply.Reply.TheVariants as replies
use Rattle.fan_script.specs.declared.step.OpWord.{OpWord}
use Rattle.fan_script.specs.declared.step.Step.{Step}
use Rattle.fan_script.specs.declared.step.Step.TheVariants as steps
use Rattle.fan_laws.specs.InOrder.{AsksThenTells, Begin, IsStill, TellsInOrder, begun_access, begun_world, outcomes_of, settled_by, settled_in}
use Rattle.fan_laws.proofs.Ahead.{Ahead, Goes, IsSteady, in_phase, step_goes, step_same}
use Rattle.fan_laws.proofs.Entries.{at, found_inserted, found_set, none_taken, other_inserted, other_removed, other_set}
use Rattle.fan_laws.proofs.Deeds.{ChangesOnce, changes_none, clears, deed_is, drops}
use Rattle.fan_laws.proofs.Forms.{Form, has_begun, has_stepped, only, refused, step_form, stepped_world, world_begun}
use Rattle.fan_laws.proofs.Numbers.{AreNumbered, last_form, none_after, none_form, numbered_form}

-- what a refused step settles: nothing
refused_settles : (number : ℕ) (step : Step) (errno : Errno)
    → settled_by number step (replies.Refused errno) ≡ []
refused_settles number (steps.Advance access) errno =
    cond_both (eqb access number) [] [] (λ said. said ≡ []) (λ same. refl) (λ differs. refl)
refused_settles number step errno = refl

-- a step of an access that is not open settles nothing
silent_form : (number : ℕ) (world : WorldState) (step : Step) (outcome : Outcome) → Form world step outcome
    → access_of world number ≡ None → settled_by number step outcome.reply ≡ []
silent_form number world step outcome (refused _ errno is) none = refused_settles number step errno
silent_form number world step outcome (has_stepped other access found) none =
    cond_both (eqb other number) (settled_in outcome.reply) [] (λ said. said ≡ [])
    (λ same. let its : access_of world number ≡ Some access =
    subst (λ n. access_of world n ≡ Some access) (eqb-true other number same) found in absurd cc)
    (λ differs. refl)
silent_form number world step outcome form none = refl

-- so after an access is finished nothing more is settled
silent_after : (steps : List Step) (number : ℕ) (world : WorldState) → number ≤ world.last_access
    → access_of world number ≡ None → outcomes_of number world steps ≡ []
unfolding outcomes_of
silent_after [] number world used none = refl
silent_after (step ∷ more) number world used none =
    let form = step_form world step in
    let outcome = next world step in
    let rises = last_form world step outcome form in
    rw (silent_form number world step outcome form none)
    (silent_after more number outcome.world (omega (arith, used, rises))
    (none_form number world step outcome form used none))

-- an access in a phase, after a step that settled something: it goes on in a phase, or it is finished
data Turned (number : ℕ) (access : AccessState) (phase : Phase) (said : List StepOutcome)
    (new : WorldState) : Type 0 where
  goes_on : (left : Phase) → IsSteady access left → access_of new number ≡ Some (in_phase access left)
      → ((more : List StepOutcome) (finished : Bool) → Ahead access left more finished
      → Ahead access phase (said ++ more) finished) → Turned number access phase said new
  ends : access_of new number ≡ None → Ahead access phase said true → Turned number access phase said new

module _ (number : ℕ) (access : AccessState) where
  -- it stays in its phase
  stays : (phase : Phase) (new : WorldState) → IsSteady access phase
      → access_of new number ≡ Some (in_phase access phase) → Turned number access phase [] new
  stays phase new steady found = goes_on phase steady found (λ more finished rest. rest)

  -- its own single step
  turned_by : (phase : Phase) (stepped : Stepped) (world : WorldState) → AreNumbered world
      → access_of world number ≡ Some (in_phase access phase)
      → stepped.access ≡ in_phase access stepped.access.phase
      → Goes access phase stepped.outcome stepped.access.phase
      → Turned number access phase (filter settles (stepped.outcome ∷ []))
      (stepped_world number stepped world)
  turned_by phase stepped world numbered found same goes =
      (elim (ends_access stepped.outcome) as (λ b. ends_access stepped.outcome ≡ b
      → MatchBool b (Ahead access phase (filter settles (stepped.outcome ∷ [])) true)
      ((more : List StepOutcome) (finished : Bool) → Ahead access stepped.access.phase more finished
      → Ahead access phase (filter settles (stepped.outcome ∷ []) ++ more) finished)
      → Turned number access phase (filter settles (stepped.outcome ∷ []))
      (stepped_world number stepped world)) [
        | true ↦ λ is last. ends (rw is (none_taken number world.accesses numbered.rise)) last
        | false ↦ λ is leads. goes_on stepped.access.phase goes.steady
            (rw is (found_set number (in_phase access phase) stepped.access world.accesses found
            ∙ ap (λ (a : AccessState). Some a) same)) leads
      ]) refl goes.leads

  -- a single step of an access of another number
  other_stepped : (other : ℕ) (stepped : Stepped) (world : WorldState) → (number ≡ other → ⊥)
      → access_of (stepped_world other stepped world) number ≡ access_of world number
  other_stepped other stepped world differ =
      cond_both (ends_access stepped.outcome) (remove_entry (at other) world.accesses)
      (set_value (at other) world.accesses stepped.access)
      (λ left. access_of (record world { accesses = left }) number ≡ access_of world number)
      (λ ends. other_removed number other world.accesses differ)
      (λ goes. other_set number other stepped.access world.accesses differ)

  -- any single step
  turned_stepped : (phase : Phase) (other : ℕ) (its : AccessState) (world : WorldState) → AreNumbered world
      → IsSteady access phase → access_of world number ≡ Some (in_phase access phase)
      → access_of world other ≡ Some its →
      let stepped = access_step world.groups its in
      Turned number access phase (cond (eqb other number) (filter settles (stepped.outcome ∷ [])) [])
      (stepped_world other stepped world)
  turned_stepped phase other its world numbered steady found is =
      let stepped = access_step world.groups its in
      (elim (eqb other number) as (λ b. eqb other number ≡ b
      → Turned number access phase (cond b (filter settles (stepped.outcome ∷ [])) [])
      (stepped_world other stepped world)) [
        | true ↦ λ same. let own : other ≡ number = eqb-true other number same in
            let this : its ≡ in_phase access phase =
            some_same (sym is ∙ ap (access_of world) own ∙ found) in
            rw (own, this)
            (turned_by phase (access_step world.groups (in_phase access phase)) world numbered found
            (step_same access world.groups phase) (step_goes access world.groups phase steady))
        | false ↦ λ differs. stays phase (stepped_world other stepped world) steady
            (other_stepped other stepped world (λ same. eqb-false other number differs (sym same)) ∙ found)
      ]) refl
    where
      some_same : {A : Type 0} {x y : A} → Some x ≡ Some y → x ≡ y
      some_same is = cc

  -- any step
  turned_form : (phase : Phase) (world : WorldState) (step : Step) (outcome : Outcome)
      → Form world step outcome
      → AreNumbered world → number ≤ world.last_access → IsSteady access phase
      → access_of world number ≡ Some (in_phase access phase)
      → Turned number access phase (settled_by number step outcome.reply) outcome.world
  turned_form phase world step outcome (refused _ errno is) numbered used steady found =
      rw (refused_settles number step errno) (stays phase world steady found)
  turned_form phase world step outcome
      (has_begun other pid tid word path second deed free does) numbered used steady found =
      let above : world.last_access < other = ltb-true world.last_access other free in
      stays phase (world_begun other (op_of word) deed pid tid world) steady
      (other_inserted number other _ world.accesses (λ same. omega arith) ∙ found)
  turned_form phase world step outcome (has_stepped other its is) numbered used steady found =
      turned_stepped phase other its world numbered steady found is
  turned_form phase world step outcome form numbered used steady found = stays phase outcome.world steady
      found

  -- what steps settle, and where they leave the access
  pub record Runs (phase : Phase) (said : List StepOutcome) (found : Option AccessState) : Type 0 where
    pub ahead : Ahead access phase said (is_none found)
    pub still : IfSome found (IsStill access)

  runs_by : (phase : Phase) (said : List StepOutcome) (new : WorldState) (more : List Step)
      → number ≤ new.last_access → Turned number access phase said new
      → ((left : Phase) → IsSteady access left → access_of new number ≡ Some (in_phase access left)
      → Runs left (outcomes_of number new more) (access_of (after new more) number))
      → Runs phase (said ++ outcomes_of number new more) (access_of (after new more) number)
  runs_by phase said new more used (goes_on left steady found leads) rest =
      let runs = rest left steady found in record {
        ahead = leads (outcomes_of number new more) (is_none (access_of (after new more) number)) runs.ahead;
        still = runs.still;
      }
  runs_by phase said new more used (ends none last) rest =
      rw (silent_after more number new used none, none_after more number new used none, append-nil said)
      (record { ahead = last; still = tt })

  -- nothing of what is ahead is done yet
  nothing_told : (turns : List Turn) → TellsInOrder turns [] false
  nothing_told [] = λ ends. absurd cc
  nothing_told (turn ∷ more) = λ ends. absurd cc

  nothing_asked : (asks tells : List Turn) → AsksThenTells asks tells [] false
  nothing_asked [] tells = nothing_told tells
  nothing_asked (turn ∷ more) tells = refl

  nothing_yet : (phase : Phase) → Ahead access phase [] false
  nothing_yet (Asking at) = nothing_asked (drop at (asks access)) (tells access)
  nothing_yet (Waiting at group entry) = nothing_asked (drop at (asks access)) (tells access)
  nothing_yet (Telling at) = nothing_told (drop at (tells access))

  -- whatever steps come, the access does what is ahead of it
  runs : (steps : List Step) (phase : Phase) (world : WorldState) → AreNumbered world
      → number ≤ world.last_access
      → IsSteady access phase → access_of world number ≡ Some (in_phase access phase)
      → Runs phase (outcomes_of number world steps) (access_of (after world steps) number)
  unfolding outcomes_of
  runs [] phase world numbered used steady found =
      rw found (record { ahead = nothing_yet phase; still = refl })
  runs (step ∷ more) phase world numbered used steady found =
      let form = step_form world step in
      let outcome = next world step in
      let rises = last_form world step outcome form in
      runs_by phase (settled_by number step outcome.reply) outcome.world more (omega (arith, used, rises))
      (turned_form phase world step outcome form numbered used steady found)
      (λ left steady_left found_left. runs more left outcome.world
      (numbered_form world step outcome form numbered)
      (omega (arith, used, rises)) steady_left found_left)

-- a begin that was done made the world so, by a number above all before it
pub record HasBegun (world : WorldState) (number pid tid : ℕ) (op : Op) (deed : Deed) (new : WorldState)
    : Type 0 where
  pub above : world.last_access < number
  pub once : ChangesOnce deed.first deed.last
  pub is : new ≡ world_begun number op deed pid tid world

begun_form : (world : WorldState) (number pid tid : ℕ) (word : OpWord) (path : List ℕ)
    (second : Option (List ℕ)) (deed : Deed) (outcome : Outcome)
    → Form world (steps.Begin number pid tid word path second) outcome
    → outcome.reply ≡ replies.Done → deed_of world (op_of word) path second ≡ Ok deed
    → HasBegun world number pid tid (op_of word) deed outcome.world
begun_form world number pid tid word path second deed outcome (refused _ errno is) done does = absurd cc
begun_form world number pid tid word path second deed outcome
    (has_begun _ _ _ _ _ _ its free told) done does =
    let same : its ≡ deed = cc in
    record {
      above = ltb-true world.last_access number free;
      once = (deed_is world (op_of word) path second deed does).once;
      is = rw same refl;
    }

pub begun_is : (world : WorldState) (number : ℕ) (begin : Begin world number)
    → HasBegun world number begin.pid begin.tid (op_of begin.word) begin.deed (begun_world world number begin)
begun_is world number begin =
    let step = steps.Begin number begin.pid begin.tid begin.word begin.path begin.second in
    begun_form world number begin.pid begin.tid begin.word begin.path begin.second begin.deed
    (next world step) (step_form world step) begin.done begin.does

-- any begin that was done has a deed
deed_form : (world : WorldState) (number pid tid : ℕ) (word : OpWord) (path : List ℕ)
    (second : Option (List ℕ)) (outcome : Outcome)
    → Form world (steps.Begin number pid tid word path second) outcome → outcome.reply ≡ replies.Done
    → (deed : Deed) × (deed_of world (op_of word) path second ≡ Ok deed)
deed_form world number pid tid word path second outcome (refused _ errno is) done = absurd cc
deed_form world number pid tid word path second outcome (has_begun _ _ _ _ _ _ deed free does) done =
    (deed, does)

pub does_deed : (world : WorldState) (number pid tid : ℕ) (word : OpWord) (path : List ℕ)
    (second : Option (List ℕ))
    → (next world (steps.Begin number pid tid word path second)).reply ≡ replies.Done
    → (deed : Deed) × (deed_of world (op_of word) path second ≡ Ok deed)
does_deed world number pid tid word path second done =
    let step = steps.Begin number pid tid word path second in
    deed_form world number pid tid word path second (next world step) (step_form world step) done

-- the access that begins is there after it
pub found_begun : (world : WorldState) (number : ℕ) (begin : Begin world number)
    → access_of (begun_world world number begin) number ≡ Some (begun_access world number begin)
found_begun world number begin =
    rw ((begun_is world number begin).is) (found_inserted number _ world.accesses)

-- from its begin on an access does what is ahead of it
pub runs_begun : (world : WorldState) (number : ℕ) (begin : Begin world number) (later : List Step)
    → AreNumbered world
    → Runs number (begun_access world number begin) (Asking 0)
    (outcomes_of number (begun_world world number begin) later)
    (access_of (after (begun_world world number begin) later) number)
runs_begun world number begin later numbered =
    let step = steps.Begin number begin.pid begin.tid begin.word begin.path begin.second in
    let begun = begun_is world number begin in
    let new = begun_world world number begin in
    let used : number ≤ new.last_access = rw (begun.is) (omega arith) in
    runs number (begun_access world number begin) later (Asking 0) new
    (numbered_form world step (next world step) (step_form world step) numbered) used tt
    (found_begun world number begin)

only_changes : (first last : Option Change) (marks : List Mark) → ChangesOnce first last
    → changed_if (only first last) marks ≡ changed_if last (changed_if first marks)
only_changes first last marks changes_none = refl
only_changes first last marks (clears object) = refl
only_changes first last marks (drops object) = refl

-- and its changes are all that becomes of the marks
pub marks_begun : (world : WorldState) (number : ℕ) (begin : Begin world number)
    → (begun_world world number begin).marks
    ≡ changed_if begin.deed.last (changed_if begin.deed.first world.marks)
marks_begun world number begin =
    let begun = begun_is world number begin in
    ap (λ (w : WorldState). w.marks) begun.is
    ∙ only_changes begin.deed.first begin.deed.last world.marks begun.once
