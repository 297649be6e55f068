-- The steps that the lines of a script make, and what is printed for them.
use Rattle.std.specs.Prelude.{ℕ, ◌+◌, List, [], ◌∷◌, ◌++◌, Option, length, map}
use Rattle.fan_machine.specs.Next.{after, next}
use Rattle.fan_machine.specs.Run.{ran, max_answers}
use Rattle.fan_machine.specs.World.{WorldState, initial_world}
use Rattle.fan_script.specs.declared.line.Line.{Line}
use Rattle.fan_script.specs.declared.line.Line.TheVariants.{One, Run}
use Rattle.fan_script.specs.declared.reply.Reply.{Reply}
use Rattle.fan_script.specs.declared.step.Step.{Step}
use Rattle.fan_script.specs.declared.step.Step.TheVariants as steps
use Rattle.fan_shell.specs.Script.{Printed, behind, printed}
use Rattle.fan_print.specs.Texts.{answers_text}

-- the steps of a line: its own, or a single step of the access for each answer of its run
abbrev pub steps_of : WorldState → Line → List Step
steps_of world (One step) = step ∷ []
steps_of world (Run access) = map (λ answer. steps.Advance access) (ran max_answers world access).answers

-- the steps of lines, in order
abbrev pub all_steps : WorldState → List Line → List Step
all_steps world [] = []
all_steps world (line ∷ more) =
    let here = steps_of world line in here ++ all_steps (after world here) more

-- the replies to steps, in order
abbrev pub replies_to : WorldState → List Step → List Reply
replies_to world [] = []
replies_to world (step ∷ more) = let r = next world step in r.reply ∷ replies_to r.world more

-- the text that answers lines: for each the replies to its steps, and an LF
abbrev pub all_texts : WorldState → List Line → List ℕ
all_texts world [] = []
all_texts world (line ∷ more) =
    let here = steps_of world line in
    answers_text (replies_to world here) ++ 10 ∷ [] ++ all_texts (after world here) more

-- what is printed for good lines and those behind them: the replies to the steps of the good ones, and
-- then what is printed from the world after all these steps
abbrev pub printed_by_steps : List Line → List (Option Line) → Printed
printed_by_steps lines later =
    behind
    (all_texts initial_world lines)
    (printed (after initial_world (all_steps initial_world lines)) (length lines + 1) later)
