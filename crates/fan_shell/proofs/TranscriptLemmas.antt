-- The transcript of a script is what playing it prints, and there is no other.
use Rattle.std.proofs.Common.{◌≡◌, ℕ, ◌+◌, List, [], ◌∷◌, Option, Some, None, refl, sym, ap, ◌∙◌}
use Rattle.std.specs.Io.KnownBytes.{Appends}
use Rattle.fan_io.specs.Bytes.{AppendsFront}
use Rattle.fan_machine.specs.World.{WorldState, initial_world}
use Rattle.fan_script.specs.declared.line.Line.{Line}
use Rattle.fan_script.specs.Reading.{line_at}
use Rattle.fan_script.proofs.LineLemmas.{line_takes, line_again}
use Rattle.fan_shell.specs.declared.command.Command.TheVariants as commands
use Rattle.fan_shell.specs.declared.status.Status.{Status}
use Rattle.fan_shell.specs.Outcome.{Tells, TellsFront}
use Rattle.fan_shell.specs.Playing.{turn, played, play}
use Rattle.fan_shell.specs.Script.{Taken, AllTaken, Printed, Transcript, printed, answered, behind, lines_of}

none_taken : (bytes : List ℕ) → line_at bytes ≡ None → Taken bytes None
none_taken bytes none line found = let is = line_again bytes line found in cc

-- bytes that are no line are read as none
taken_none : (bytes : List ℕ) (read : Option Line) → line_at bytes ≡ read → Taken bytes None → read ≡ None
taken_none bytes None is none = refl
taken_none bytes (Some line) is none = absurd (none line (line_takes bytes line is))

all_taken_by : (bytes : List ℕ) (more : List (List ℕ)) (read : Option Line) → line_at bytes ≡ read
    → (lines : List (Option Line)) × AllTaken more lines
    → (lines : List (Option Line)) × AllTaken (bytes ∷ more) lines
all_taken_by bytes more None is later = (None ∷ [], (none_taken bytes is, refl))
all_taken_by bytes more (Some line) is later = (Some line ∷ later.0, (line_takes bytes line is, later.1))

-- pieces are lines, up to the first bad one
all_taken : (pieces : List (List ℕ)) → (lines : List (Option Line)) × AllTaken pieces lines
all_taken [] = ([], tt)
all_taken (bytes ∷ more) = all_taken_by bytes more (line_at bytes) refl (all_taken more)

-- what is printed for lines is what playing their pieces prints
printed_is : (pieces : List (List ℕ)) (lines : List (Option Line)) (world : WorldState) (number : ℕ)
    → AllTaken pieces lines → printed world number lines ≡ played pieces world number
unfolding turn
printed_is [] [] world number taken = refl
printed_is [] (line ∷ lines) world number taken = absurd taken
printed_is (bytes ∷ more) [] world number taken = absurd taken
printed_is (bytes ∷ more) (None ∷ lines) world number taken =
    rw (taken_none bytes (line_at bytes) refl taken.0) refl
printed_is (bytes ∷ more) (Some line ∷ lines) world number taken =
    let r = answered world line in
    let rest = printed_is more lines r.world (number + 1) taken.1 in
    rw (line_again bytes line taken.0) (ap (λ later. behind r.text later) rest)

-- each script has a transcript
pub transcript_of : (bytes : List ℕ) → Transcript bytes (play bytes).text (play bytes).status
unfolding play
transcript_of bytes =
    let lines = all_taken (lines_of bytes) in
    let said = printed_is (lines_of bytes) lines.0 initial_world 1 lines.1 in
    record { lines = lines.0; taken = lines.1; said = said }

-- and no other
pub transcript_is : (bytes text : List ℕ) (status : Status) → Transcript bytes text status
    → play bytes ≡ record { text = text; status = status }
unfolding play
transcript_is bytes text status transcript =
    sym (printed_is (lines_of bytes) transcript.lines initial_world 1 transcript.taken) ∙ transcript.said

-- what playing a script prints, put whole, is its answer
pub tells_played : (old new : Option (List ℕ)) (script : List ℕ) (status : Status)
    → Appends old new (play script).text → (play script).status ≡ status
    → Tells commands.Script old new script status
tells_played old new script status put is =
    record { text = (play script).text; outcome = rw is at (transcript_of script); put = put }

-- a front of what playing a script prints is a front of its answer
pub tells_front : (old new : Option (List ℕ)) (script : List ℕ) → AppendsFront old new (play script).text
    → TellsFront commands.Script old new script
tells_front old new script front = λ text status transcript.
    rw (ap (λ (r : Printed). r.text) (transcript_is script text status transcript)) at front
