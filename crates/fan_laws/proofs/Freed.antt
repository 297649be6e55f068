-- What is reclaimed was retired before any access that is open then began.
use Rattle.std.proofs.Common.{◌≡◌, ℕ, ◌<◌, ◌≤◌, true, false, cond, List, [], ◌∷◌, ◌++◌, Option, Some, None, refl, subst, arith, inl, inr, ⊎_elim}
use Rattle.std.proofs.lemmas.Bool.{cases_lt, ltb-true}
use Rattle.std.proofs.lemmas.List.Elements.{All-append, All-contains, All-map, All-nil, All-weaker}
use Rattle.std.specs.List.{Contains}
use Rattle.std.specs.Map.{keys_of, lookup}
use Rattle.std.specs.Prelude.{◌⊎◌, All}
use Rattle.fan_access.specs.Access.{AccessState}
use Rattle.fan_bits.specs.declared.change.Change.{Change}
use Rattle.fan_bits.specs.declared.change.Change.TheVariants.{DropGroup, DropObject}
use Rattle.fan_bits.specs.declared.mark.Mark.{Mark}
use Rattle.fan_bits.specs.Marks.{retired}
use Rattle.fan_lists.proofs.Pairs.{Contains-map}
use Rattle.fan_machine.specs.Accesses.{access_of}
use Rattle.fan_machine.specs.Batches.{batch_of, held, is_held, reclaimed}
use Rattle.fan_machine.specs.Next.{after, next}
use Rattle.fan_machine.specs.Outcome.{Outcome}
use Rattle.fan_machine.specs.World.{Batch, RetiredMark, WorldState, initial_world, retired_now}
use Rattle.fan_script.specs.declared.step.Step.{Step}
use Rattle.fan_script.specs.declared.step.Step.TheVariants as steps
use Rattle.fan_laws.specs.Reclaiming.{reclaimed_in}
use Rattle.fan_laws.proofs.Entries.{at, found_contained}
use Rattle.fan_laws.proofs.Forms.{Form, batch_beside, batch_ended, has_begun, only, step_form, waiting_after, waiting_beside, was_closed, was_marked, was_unmounted}
use Rattle.fan_laws.proofs.Numbers.{AreNumbered, last_form, none_form, numbered_at_first, numbered_form}
use Rattle.fan_laws.proofs.Reclaimed.{free_reclaimed, none_open}

-- each of these was retired when no access above this number had begun
abbrev pub Until : ℕ → List RetiredMark → Type 0
Until last marks = All (λ retired. retired.last_access ≤ last) marks

-- a batch started when no access above a number had begun: its marks were retired by then, and each open
-- access
-- is one of its own or began later
pub record IsTied (accesses : List (ℕ × AccessState)) (batch : Batch) (last : ℕ) : Type 0 where
  pub retired : Until last batch.retired
  pub own : All (λ number. number ≤ last) batch.accesses
  pub others : (number : ℕ) (access : AccessState) → lookup (at number) accesses ≡ Some access
      → Contains batch.accesses number ⊎ (last < number)

-- there is such a number, among those that accesses had
abbrev pub HasStarted : List (ℕ × AccessState) → ℕ → Batch → Type 0
HasStarted accesses used batch = (last : ℕ) × (last ≤ used) × IsTied accesses batch last

-- what waits, and the batch under way if there is one
pub record AreDated (world : WorldState) : Type 0 where
  pub waiting : Until world.last_access world.waiting
  pub batch : (batch : Batch) → world.batch ≡ Some batch → HasStarted world.accesses world.last_access batch

until_later : (last later : ℕ) (marks : List RetiredMark) → last ≤ later → Until last marks
    → Until later marks
until_later last later marks rises each =
    All-weaker (λ (one : RetiredMark). one.last_access ≤ last) (λ one. one.last_access ≤ later)
    (λ one is. omega (arith, is, rises)) marks each

until_now : (last : ℕ) (marks : List Mark) → Until last (retired_now last marks)
until_now last marks =
    All-map (λ (one : RetiredMark). one.last_access ≤ last)
    (λ mark. record { mark = mark; last_access = last }) marks
    (λ k d within. omega arith)

-- what waits, once a change retired more
until_changed : (last later : ℕ) (waiting : List RetiredMark) (gone : List Mark) → last ≤ later
    → Until last waiting
    → Until later (waiting ++ retired_now later gone)
until_changed last later waiting gone rises each =
    All-append (λ (one : RetiredMark). one.last_access ≤ later) waiting (retired_now later gone)
    (until_later last later waiting rises each) (until_now later gone)

until_begun : (last number : ℕ) (change : Option Change) (marks : List Mark) (waiting : List RetiredMark)
    → last ≤ number → Until last waiting → Until number (waiting_after change number marks waiting)
until_begun last number None marks waiting rises each = until_later last number waiting rises each
until_begun last number (Some change) marks waiting rises each =
    until_changed last number waiting (retired marks change) rises each

until_graced : (left : Option Batch) (last : ℕ) (waiting : List RetiredMark) → Until last waiting
    → Until last (waiting_beside left waiting)
until_graced None last waiting each = All-nil (λ (one : RetiredMark). one.last_access ≤ last)
until_graced (Some batch) last waiting each = each

-- an access that is open after a step was open before it, or began by it
open_before : (number : ℕ) (access : AccessState) (world : WorldState) (step : Step) (outcome : Outcome)
    → Form world step outcome → access_of outcome.world number ≡ Some access
    → ((old : AccessState) × (access_of world number ≡ Some old)) ⊎ (world.last_access < number)
open_before number access world step outcome form found =
    ⊎_elim (λ above. inr above)
    (λ upto. go upto (access_of world number) refl) (cases_lt world.last_access number)
  where
    go : number ≤ world.last_access → (old : Option AccessState) → access_of world number ≡ old
        → ((old : AccessState) × (access_of world number ≡ Some old)) ⊎ (world.last_access < number)
    go upto None none = let stays = none_form number world step outcome form upto none in absurd cc
    go upto (Some old) is = inl (old, is)

-- a batch stays tied whatever step comes
tied_form : (batch : Batch) (world : WorldState) (step : Step) (outcome : Outcome) → Form world step outcome
    → HasStarted world.accesses world.last_access batch
    → HasStarted outcome.world.accesses outcome.world.last_access batch
tied_form batch world step outcome form (last, used, tied) =
    let rises = last_form world step outcome form in (
      last,
      omega (arith, used, rises),
      record {
        retired = tied.retired;
        own = tied.own;
        others = λ number access found. ⊎_elim (λ was. tied.others number was.0 was.1)
            (λ above. inr (omega (arith, above, used)))
            (open_before number access world step outcome form found);
      },
    )

-- a batch that starts has all that waits, and the numbers of all open accesses
tied_at_first : (world : WorldState) (waiting : List RetiredMark) (batch : Batch) → AreNumbered world
    → Until world.last_access waiting → batch_of world waiting ≡ Some batch
    → HasStarted world.accesses world.last_access batch
tied_at_first world [] batch numbered each is = absurd cc
tied_at_first world (retired ∷ more) batch numbered each is =
    let new : Batch = record { retired = retired ∷ more; accesses = keys_of world.accesses } in
    let same : new ≡ batch = cc in
    subst (λ b. HasStarted world.accesses world.last_access b) same (
      world.last_access,
      omega arith,
      record {
        retired = each;
        own = All-map (λ number. number ≤ world.last_access) (λ (e : ℕ
            × AccessState). e.0) world.accesses numbered.used;
        others = λ number access found. inl (Contains-map (λ (e : ℕ
            × AccessState). e.0) (number, access) world.accesses
            (found_contained number access world.accesses found));
      },
    )

tied_graced : (world : WorldState) (old : Option Batch) (batch : Batch) → AreNumbered world
    → Until world.last_access world.waiting
    → ((batch : Batch) → old ≡ Some batch → HasStarted world.accesses world.last_access batch)
    → batch_beside (held world old) world ≡ Some batch → HasStarted world.accesses world.last_access batch
tied_graced world None batch numbered each tied is = tied_at_first world world.waiting batch numbered each is
tied_graced world (Some under) batch numbered each tied is =
    (elim (is_held world under) as (λ b. batch_beside (cond b (Some under) None) world ≡ Some batch
    → HasStarted world.accesses world.last_access batch) [
      | true ↦ λ same. tied batch same
      | false ↦ λ new. tied_at_first world world.waiting batch numbered each new
    ]) is

dated_form : (world : WorldState) (step : Step) (outcome : Outcome) → Form world step outcome
    → AreNumbered world
    → AreDated world → AreDated outcome.world
dated_form world step outcome (was_unmounted path at left unused is) numbered dated =
    let form = was_unmounted path at left unused is in record {
      waiting = until_changed world.last_access world.last_access world.waiting
          (retired world.marks (DropObject at.mount)) (omega arith) dated.waiting;
      batch = λ batch under. tied_form batch world step outcome form (dated.batch batch under);
    }
dated_form world step outcome (was_marked group flags mask path change is) numbered dated =
    let form = was_marked group flags mask path change is in record {
      waiting = until_changed world.last_access world.last_access world.waiting (retired world.marks change)
          (omega arith) dated.waiting;
      batch = λ batch under. tied_form batch world step outcome form (dated.batch batch under);
    }
dated_form world step outcome (has_begun number pid tid word path second deed free does) numbered
    dated =
    let form = has_begun number pid tid word path second deed free does in
    let above : world.last_access < number = ltb-true world.last_access number free in record {
      waiting = until_begun world.last_access number (only deed.first deed.last) world.marks world.waiting
          (omega arith)
          dated.waiting;
      batch = λ batch under. tied_form batch world step outcome form (dated.batch batch under);
    }
dated_form world step outcome (was_closed group closed is) numbered dated =
    let form = was_closed group closed is in record {
      waiting = until_changed world.last_access world.last_access world.waiting
          (retired world.marks (DropGroup group)) (omega arith) dated.waiting;
      batch = λ batch under. tied_form batch world step outcome form (dated.batch batch under);
    }
dated_form world step outcome batch_ended numbered dated = record {
  waiting = until_graced (held world world.batch) world.last_access world.waiting dated.waiting;
  batch = λ batch under. tied_graced world world.batch batch numbered dated.waiting dated.batch under;
}
dated_form world step outcome form numbered dated = record {
  waiting = dated.waiting;
  batch = λ batch under. tied_form batch world step outcome form (dated.batch batch under);
}

-- whatever comes
dated_after : (steps : List Step) (world : WorldState) → AreNumbered world → AreDated world
    → AreDated (after world steps)
dated_after [] world numbered dated = dated
dated_after (step ∷ more) world numbered dated =
    let form = step_form world step in
    dated_after more (next world step).world (numbered_form world step (next world step) form numbered)
    (dated_form world step (next world step) form numbered dated)

pub dated_from_first : (steps : List Step) → AreDated (after initial_world steps)
dated_from_first steps = dated_after steps initial_world numbered_at_first (record {
  waiting = All-nil (λ (one : RetiredMark). one.last_access ≤ 0);
  batch = λ batch is. absurd cc;
})

-- marks of a batch that isn't held were retired before any access that is open began
free_batch : (world : WorldState) (under : Option Batch) (number : ℕ) (access : AccessState)
    → ((batch : Batch) → under ≡ Some batch → HasStarted world.accesses world.last_access batch)
    → access_of world number ≡ Some access
    → All (λ retired. retired.last_access < number) (reclaimed world under)
free_batch world None number access tied found = All-nil (λ (one : RetiredMark). one.last_access < number)
free_batch world (Some batch) number access tied found =
    let started = tied batch refl in
    let last = started.0 in
    (elim (is_held world batch) as (λ b. is_held world batch ≡ b
    → All (λ retired. retired.last_access < number) (cond b [] batch.retired)) [
      | true ↦ λ held. All-nil (λ (one : RetiredMark). one.last_access < number)
      | false ↦ λ free. let above : last < number = ⊎_elim
          (λ own. let none = All-contains (λ n. access_of world n ≡ None) batch.accesses number
          (none_open world batch.accesses free) own in absurd cc)
          (λ above. above) (started.2.others number access found) in
          All-weaker (λ (one : RetiredMark). one.last_access ≤ last) (λ one. one.last_access < number)
          (λ one upto. omega (arith, upto, above)) batch.retired started.2.retired
    ]) refl

pub reclaims_free : (all : List Step) (number : ℕ) (access : AccessState) →
    let world = after initial_world all in
    access_of world number ≡ Some access
    → All (λ retired. retired.last_access < number) (reclaimed_in world steps.Grace)
reclaims_free all number access found =
    let world = after initial_world all in
    free_batch world world.batch number access (dated_from_first all).batch found

-- a batch is reclaimed once each open access began since it was under way
pub reclaims_later : (before : List Step) (world : WorldState) (batch : Batch) →
    let old = after initial_world before in
    old.batch ≡ Some batch → world.batch ≡ Some batch
    → ((number : ℕ) (access : AccessState) → access_of world number ≡ Some access → old.last_access < number)
    → reclaimed_in world steps.Grace ≡ batch.retired
reclaims_later before world batch was is later =
    let old = after initial_world before in
    let started = (dated_from_first before).batch batch was in
    free_reclaimed world batch is
    (All-weaker (λ (number : ℕ). number ≤ started.0) (λ number. access_of world number ≡ None)
    (λ number upto. go started.0 started.1 number upto
    (access_of world number) refl) batch.accesses started.2.own)
  where
    go : (last : ℕ) → last ≤ (after initial_world before).last_access → (number : ℕ) → number ≤ last
        → (found : Option AccessState) → access_of world number ≡ found → access_of world number ≡ None
    go last used number upto None none = none
    go last used number upto (Some access) found =
        let above = later number access found in absurd (omega (arith, above, used, upto))
