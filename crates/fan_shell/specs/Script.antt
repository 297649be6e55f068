-- Scripts and their transcripts.
use Rattle.std.specs.Prelude.{◌≡◌, ℕ, ◌+◌, ◌==◌, List, [], ◌∷◌, ◌++◌, Option, Some, None, length, codes, if◌then◌else◌}
use Rattle.std.specs.Fmt.{decimal}
use Rattle.std.specs.List.{slice_split}
use Rattle.fan_script.specs.declared.line.Line.{Line}
use Rattle.fan_script.specs.declared.line.Line.TheVariants.{One, Run}
use Rattle.fan_script.specs.Lines.{LineOf}
use Rattle.fan_machine.specs.Next.{next}
use Rattle.fan_machine.specs.Run.{ran, max_answers}
use Rattle.fan_machine.specs.World.{WorldState, initial_world}
use Rattle.fan_shell.specs.declared.status.Status.{Status}
use Rattle.fan_shell.specs.declared.status.Status.TheVariants as statuses
use Rattle.fan_print.specs.Texts.{reply_text, answers_text}

-- the pieces between LFs, but for an empty one behind the last
abbrev pub without_empty_last : List (List ℕ) → List (List ℕ)
without_empty_last [] = []
without_empty_last (piece ∷ []) = if length piece == 0 then [] else piece ∷ []
without_empty_last (piece ∷ next ∷ more) = piece ∷ without_empty_last (next ∷ more)

-- the lines of a script
unfoldable pub lines_of : List ℕ → List (List ℕ)
lines_of bytes = without_empty_last (slice_split (λ byte. byte == 10) bytes)

-- bytes are this line, or a bad line
abbrev pub Taken : List ℕ → Option Line → Type 0
Taken bytes (Some line) = LineOf bytes line
Taken bytes None = (line : Line) → LineOf bytes line → ⊥

-- the lines that the pieces are, up to the first bad one
abbrev pub AllTaken : List (List ℕ) → List (Option Line) → Type 0
AllTaken [] [] = Unit {0}
AllTaken (bytes ∷ more) (None ∷ lines) = Taken bytes None × (lines ≡ [])
AllTaken (bytes ∷ more) (Some line ∷ lines) = Taken bytes (Some line) × AllTaken more lines
AllTaken _ _ = ⊥

-- the text that answers a line, and the world after it
pub record Answered : Type 0 where
  pub text : List ℕ
  pub world : WorldState

-- a step is answered by its reply, and `run` by the answers of its single steps
unfoldable pub answered : WorldState → Line → Answered
answered world (One step) =
    let r = next world step in
    record { text = reply_text r.reply ++ 10 ∷ []; world = r.world }
answered world (Run access) =
    let r = ran max_answers world access in
    record { text = answers_text r.answers ++ 10 ∷ []; world = r.world }

-- the text that names the first bad line, counted from 1
unfoldable pub bad_line_text : ℕ → List ℕ
bad_line_text number = codes "bad line " ++ decimal number ++ 10 ∷ []

-- what is printed, and the status
pub record Printed : Type 0 where
  pub text : List ℕ
  pub status : Status

-- a text, and behind it what is printed later
abbrev pub behind : List ℕ → Printed → Printed
behind text later = record { text = text ++ later.text; status = later.status }

-- what is printed for lines, of which the first has this number
abbrev pub printed : WorldState → ℕ → List (Option Line) → Printed
printed world number [] = record { text = []; status = statuses.Ok }
printed world number (None ∷ lines) = record { text = bad_line_text number; status = statuses.BadLine }
printed world number (Some line ∷ lines) =
    let r = answered world line in behind r.text (printed r.world (number + 1) lines)

-- the transcript of a script, and its status
pub record Transcript (bytes text : List ℕ) (status : Status) : Type 0 where
  pub lines : List (Option Line)
  pub taken : AllTaken (lines_of bytes) lines
  pub said : printed initial_world 1 lines ≡ record { text = text; status = status }

-- each of the pieces is a line
abbrev pub AreLines : List (List ℕ) → Type 0
AreLines [] = Unit {0}
AreLines (bytes ∷ more) = ((line : Line) × LineOf bytes line) × AreLines more

-- no line of the script is a bad one
abbrev pub IsValid : List ℕ → Type 0
IsValid bytes = AreLines (lines_of bytes)
