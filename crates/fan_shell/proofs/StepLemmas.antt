-- Lines are answered by their steps.
use Rattle.std.proofs.Common.{◌≡◌, ℕ, zero, suc, ◌+◌, List, [], ◌∷◌, ◌++◌, Bool, true, false, Option, Some, map, length, refl, ap, arith, append_assoc, append-nil, zero-add}
use Rattle.std.specs.Prelude.{if◌then◌else◌}
use Rattle.fan_machine.specs.Next.{after, next}
use Rattle.fan_machine.specs.Outcome.{Outcome}
use Rattle.fan_machine.specs.Run.{Ran, is_last, max_answers, ran}
use Rattle.fan_machine.specs.World.{WorldState}
use Rattle.fan_script.specs.declared.line.Line.{Line}
use Rattle.fan_script.specs.declared.line.Line.TheVariants.{One, Run}
use Rattle.fan_script.specs.declared.reply.Reply.{Reply}
use Rattle.fan_script.specs.declared.step.Step.{Step}
use Rattle.fan_script.specs.declared.step.Step.TheVariants as steps
use Rattle.fan_shell.specs.Script.{answered, behind, printed}
use Rattle.fan_shell.specs.Steps.{steps_of, all_steps, replies_to, all_texts}
use Rattle.fan_print.specs.Texts.{answers_text}

-- single steps of an access, one for each of some answers
abbrev pub singles : ℕ → List Reply → List Step
singles access answers = map (λ answer. steps.Advance access) answers

-- a run is what its single steps make of the world
pub record IsRun (world : WorldState) (access : ℕ) (run : Ran) : Type 0 where
  pub replies : replies_to world (singles access run.answers) ≡ run.answers
  pub world_after : after world (singles access run.answers) ≡ run.world

module _ (world : WorldState) (access : ℕ) where
  abbrev first : Outcome
  first = next world (steps.Advance access)

  -- the answers and the world of a run, once its first single step is made
  abbrev longer : Bool → Ran → Ran
  longer ends more =
      if ends then record { answers = first.reply ∷ []; world = first.world }
      else record { answers = first.reply ∷ more.answers; world = more.world }

  longer_is : (ends : Bool) (more : Ran) → IsRun first.world access more
      → IsRun world access (longer ends more)
  longer_is true more is = record { replies = refl; world_after = refl }
  longer_is false more is = record {
    replies = ap (λ replies. first.reply ∷ replies) is.replies;
    world_after = is.world_after;
  }

-- a run is what its single steps make of the world
pub ran_is : (count : ℕ) (world : WorldState) (access : ℕ) → IsRun world access (ran count world access)
unfolding ran
ran_is zero world access = record { replies = refl; world_after = refl }
ran_is (suc count) world access =
    let start = first world access in
    let more = ran count start.world access in
    longer_is world access (is_last start.reply) more (ran_is count start.world access)

-- a line is answered by the replies to its steps
answered_by_steps : (world : WorldState) (line : Line)
    → answered world line ≡ record {
      text = answers_text (replies_to world (steps_of world line)) ++ 10 ∷ [];
      world = after world (steps_of world line);
    }
unfolding answered
answered_by_steps world (One step) = rw append-nil refl
answered_by_steps world (Run access) =
    let run = ran_is max_answers world access in rw (run.replies, run.world_after) refl

-- the world after steps and further steps
pub after-append : (world : WorldState) (steps more : List Step)
    → after world (steps ++ more) ≡ after (after world steps) more
after-append world [] more = refl
after-append world (step ∷ steps) more = after-append (next world step).world steps more

-- what is printed for lines, by the steps of the good ones among the first
pub printed_follows : (good : List Line) (later : List (Option Line)) (world : WorldState) (number : ℕ)
    → printed world number (map (λ line. Some line) good ++ later)
    ≡ behind
    (all_texts world good)
    (printed (after world (all_steps world good)) (length good + number) later)
printed_follows [] later world number = rw zero-add refl
printed_follows (line ∷ more) later world number =
    let here = steps_of world line in
    let there = after world here in
    let counted : length (line ∷ more) + number ≡ length more + (number + 1) = omega arith in
    let behind_here = after-append world here (all_steps there more) in
    rw (answered_by_steps world line, printed_follows more later there (number + 1), behind_here, counted)
    (simp append_assoc)
