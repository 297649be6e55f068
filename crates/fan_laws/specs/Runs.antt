-- The answers of a run: single steps of an access, up to one that ends the run.
use Rattle.std.specs.Prelude.{◌≡◌, MatchBool, List, [], ◌∷◌, Option, Some, None}
use Rattle.fan_access.specs.Access.{AccessState}
use Rattle.fan_bits.specs.declared.errno.Errno.TheVariants as errno
use Rattle.fan_bits.specs.declared.outcome.StepOutcome.{StepOutcome}
use Rattle.fan_bits.specs.Outcomes.{ends_run}
use Rattle.fan_script.specs.declared.reply.Reply.{Reply}
use Rattle.fan_script.specs.declared.reply.Reply.TheVariants as replies

-- the outcomes of single steps, of which the last one ends the run and no earlier one does
abbrev pub EndsOnce : List Reply → Type 0
EndsOnce [] = ⊥
EndsOnce (answer ∷ more) =
    (outcome : StepOutcome) × (answer ≡ replies.Out (outcome ∷ []))
    × MatchBool (ends_run outcome) (more ≡ []) (EndsOnce more)

-- the answers of a whole run: of an open access up to the one that ends it, and else ESRCH alone
abbrev pub IsWholeRun : Option AccessState → List Reply → Type 0
IsWholeRun None answers = answers ≡ replies.Refused errno.Esrch ∷ []
IsWholeRun (Some access) answers = EndsOnce answers
