-- The answers of runs, one single step after another.
use Rattle.std.proofs.Common.{◌≡◌, ℕ, zero, suc, ◌-◌, ◌<◌, List, [], ◌∷◌, ◌++◌, Bool, true, false, refl, sym, ◌∙◌, arith, append_assoc, append-nil}
use Rattle.std.specs.Prelude.{codes}
use Rattle.fan_machine.specs.Next.{next}
use Rattle.fan_machine.specs.Outcome.{Outcome}
use Rattle.fan_machine.specs.Run.{Ran, is_last, ran}
use Rattle.fan_machine.specs.World.{WorldState}
use Rattle.fan_script.specs.declared.step.Step.TheVariants as steps
use Rattle.fan_shell.specs.Answers.{IsAnswered, IsSingleStep}
use Rattle.fan_print.specs.Texts.{reply_text, more_text, answers_text}
use Rattle.fan_world.specs.Machine.{IsMachine, Parts}

-- the outcome of the first single step of a run
abbrev pub first_of : WorldState → ℕ → Outcome
first_of world access = next world (steps.Advance access)

-- what a run goes on with, once its first single step is made
abbrev pub more_of : ℕ → WorldState → ℕ → Ran
more_of left world access = ran (left - 1) (first_of world access).world access

-- a run of no single steps has no answers
pub run_none : (world : WorldState) (access : ℕ) → ran 0 world access ≡ record { answers = []; world = world }
unfolding ran
run_none world access = refl

-- the first single step ends the run
pub run_ends : (left : ℕ) (world : WorldState) (access : ℕ) → 0 < left
    → is_last (first_of world access).reply ≡ true
    → ran left world access ≡ record {
      answers = (first_of world access).reply ∷ [];
      world = (first_of world access).world;
    }
unfolding ran
run_ends zero world access some ends = absurd (omega arith)
run_ends (suc left) world access some ends = rw ends refl

-- the first single step goes on
pub run_goes_on : (left : ℕ) (world : WorldState) (access : ℕ) → 0 < left
    → is_last (first_of world access).reply ≡ false
    → ran left world access ≡ record {
      answers = (first_of world access).reply ∷ (more_of left world access).answers;
      world = (more_of left world access).world;
    }
unfolding ran
run_goes_on zero world access some goes = absurd (omega arith)
run_goes_on (suc left) world access some goes =
    let less : suc left - 1 ≡ left = omega arith in
    rw (goes, less) refl

module _ (left : ℕ) (world : WorldState) (access : ℕ) where
  abbrev first : Outcome
  first = first_of world access

  abbrev all : Ran
  all = ran left world access

  abbrev more : Ran
  more = more_of left world access

  -- with no single step left, nothing is put and nothing changes
  pub more_none : {parts : Parts} (text : List ℕ) → left ≡ 0 → IsMachine parts world
      → IsAnswered parts text text (more_text all.answers) all.world
  more_none text none machine =
      rw (none, run_none) (record { put = sym (append-nil text); machine = machine })

  -- the answer that ends the run is the last that is put
  pub all_end : {parts : Parts} {before now : List ℕ} {ends : Bool} → 0 < left → ends ≡ true
      → IsSingleStep parts before now ends first
      → IsAnswered parts before now (answers_text all.answers) all.world
  all_end some stops single =
      rw (run_ends left world access some (sym single.last ∙ stops)) (record {
        put = rw append-nil single.put;
        machine = single.machine;
      })

  -- an answer that goes on, and those behind it
  pub all_go_on : {mid_parts parts : Parts} {before mid now : List ℕ} {ends : Bool} → 0 < left → ends ≡ false
      → IsSingleStep mid_parts before mid ends first
      → IsAnswered parts mid now (more_text more.answers) more.world
      → IsAnswered parts before now (answers_text all.answers) all.world
  all_go_on some goes single later =
      rw (run_goes_on left world access some (sym single.last ∙ goes)) (record {
        put = later.put ∙ rw single.put (simp append_assoc);
        machine = later.machine;
      })

  -- the same of answers that a comma stands before
  pub more_ends : {parts : Parts} {before comma now : List ℕ} {ends : Bool} → 0 < left → ends ≡ true
      → comma ≡ before ++ codes ", " → IsSingleStep parts comma now ends first
      → IsAnswered parts before now (more_text all.answers) all.world
  more_ends {before = before} some stops behind single =
      rw (run_ends left world access some (sym single.last ∙ stops)) (record {
        put =
            single.put ∙ rw (behind, append-nil) (append_assoc before (codes ", ") (reply_text first.reply));
        machine = single.machine;
      })

  pub more_goes_on : {mid_parts parts : Parts} {before comma mid now : List ℕ} {ends : Bool}
      → 0 < left → ends ≡ false
      → comma ≡ before ++ codes ", " → IsSingleStep mid_parts comma mid ends first
      → IsAnswered parts mid now (more_text more.answers) more.world
      → IsAnswered parts before now (more_text all.answers) all.world
  more_goes_on some goes behind single later =
      rw (run_goes_on left world access some (sym single.last ∙ goes)) (record {
        put = later.put ∙ rw (single.put, behind) (simp append_assoc);
        machine = later.machine;
      })

-- Answers were put at the end, each behind a comma, and the parts stand for a world: with the answers that so
-- many single steps at most give from there on, they are all answers of a run.
pub record RunsOn (parts : Parts) (before now : List ℕ) (left access : ℕ) (run : Ran) : Type 0 where
  pub world : WorldState
  pub machine : IsMachine parts world
  pub rest : (last_parts : Parts) (all : List ℕ)
      → IsAnswered last_parts now all (more_text (ran left world access).answers) (ran left world access).world
      → IsAnswered last_parts before all (more_text run.answers) run.world

-- at the start none was put
pub runs_start : (parts : Parts) (text : List ℕ) (fewer left : ℕ) (state : WorldState) (access : ℕ)
    → fewer ≡ left → IsMachine parts state → RunsOn parts text text fewer access (ran left state access)
runs_start parts text fewer left state access same machine = rw same (record {
  world = state;
  machine = machine;
  rest = λ last_parts all answered. answered;
})

module _ {parts : Parts} {before now : List ℕ} {left access : ℕ} {run : Ran}
    (runs : RunsOn parts before now left access run) where
  -- an answer was put that goes on
  pub runs_more : {next_parts : Parts} {comma next : List ℕ} {ends : Bool} (fewer : ℕ)
      → 0 < left → fewer ≡ left - 1 → ends ≡ false → comma ≡ now ++ codes ", "
      → IsSingleStep next_parts comma next ends (first_of runs.world access)
      → RunsOn next_parts before next fewer access run
  runs_more fewer some less goes behind single = rw less (record {
    world = (first_of runs.world access).world;
    machine = single.machine;
    rest = λ last_parts all answered.
        runs.rest last_parts all (more_goes_on left runs.world access some goes behind single answered);
  })

  -- an answer was put that ends the run
  pub runs_end : {last_parts : Parts} {comma all : List ℕ} {ends : Bool}
      → 0 < left → ends ≡ true → comma ≡ now ++ codes ", "
      → IsSingleStep last_parts comma all ends (first_of runs.world access)
      → IsAnswered last_parts before all (more_text run.answers) run.world
  runs_end some stops behind single =
      runs.rest _ _ (more_ends left runs.world access some stops behind single)

  -- no single step is left
  pub runs_out : left ≡ 0 → IsAnswered parts before now (more_text run.answers) run.world
  runs_out none = runs.rest parts now (more_none left runs.world access now none runs.machine)
