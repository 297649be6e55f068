-- An input is answered to its end; and a script of good lines has status 0.
use Rattle.std.proofs.Common.{◌≡◌, ℕ, ◌+◌, ◌≤◌, List, [], ◌∷◌, ◌++◌, Option, Some, None, length, refl, sym, ap, ◌∙◌, inl, inr, arith, length-append}
use Rattle.std.specs.Prelude.{IfSome}
use Rattle.fan_io.specs.Bytes.{GaveMore}
use Rattle.fan_machine.specs.World.{WorldState, initial_world}
use Rattle.fan_script.specs.declared.line.Line.{Line}
use Rattle.fan_shell.specs.declared.command.Command.{Command}
use Rattle.fan_shell.specs.declared.command.Command.TheVariants as commands
use Rattle.fan_shell.specs.declared.status.Status.{Status}
use Rattle.fan_shell.specs.declared.status.Status.TheVariants as statuses
use Rattle.fan_shell.specs.Outcome.{Completes, Tells}
use Rattle.fan_shell.specs.Playing.{play}
use Rattle.fan_shell.specs.Script.{Printed, AllTaken, AreLines, IsValid, printed, answered, lines_of}
use Rattle.fan_shell.specs.Status.{IsTold, IsToldOrCut}
use Rattle.fan_shell.proofs.TranscriptLemmas.{transcript_of}

-- good lines end with status 0
all_good : (pieces : List (List ℕ)) (lines : List (Option Line)) (world : WorldState) (number : ℕ)
    → AllTaken pieces lines → AreLines pieces → (printed world number lines).status ≡ statuses.Ok
all_good [] [] world number taken good = refl
all_good [] (line ∷ lines) world number taken good = absurd taken
all_good (bytes ∷ more) [] world number taken good = absurd taken
all_good (bytes ∷ more) (None ∷ lines) world number taken good = absurd (taken.0 good.0.0 good.0.1)
all_good (bytes ∷ more) (Some line ∷ lines) world number taken good =
    all_good more lines (answered world line).world (number + 1) taken.1 good.1

-- playing a script of good lines ends with status 0
pub plays_well : (script : List ℕ) → IsValid script → (play script).status ≡ statuses.Ok
plays_well script valid =
    let transcript = transcript_of script in
    ap (λ (r : Printed). r.status) (sym transcript.said)
    ∙ all_good (lines_of script) transcript.lines initial_world 1 transcript.taken valid

-- a source that had no more bytes than the limit gave no more
pub within_limit : (old new : Option (List ℕ)) (limit : ℕ) → GaveMore old new limit
    → IfSome old (λ bytes. length bytes ≤ limit → ⊥)
within_limit None new limit gave = tt
within_limit (Some bytes) None limit gave = absurd gave.consumed
within_limit (Some bytes) (Some left) limit gave = λ most.
    let whole : bytes ≡ gave.given ++ left = gave.consumed in
    omega (arith, gave.more, ap length whole, length-append gave.given left)

-- where the sink doesn't fail, the answer of a command is put whole, or memory runs out
pub completes : (command : Command) (status : Status) (old new : Option (List ℕ)) (bytes : List ℕ)
    → IsToldOrCut command status → (status ≡ statuses.WriteFault → ⊥)
    → (IsTold status → Tells command old new bytes status) → Completes command old new bytes status
completes command statuses.Ok old new bytes ends no_fault told = inl (told tt)
completes command statuses.WriteFault old new bytes ends no_fault told = absurd (no_fault refl)
completes command statuses.NoMemory old new bytes ends no_fault told = inr refl
completes commands.Script statuses.BadLine old new bytes ends no_fault told = inl (told tt)
completes commands.Dump statuses.BadRecord old new bytes ends no_fault told = inl (told tt)
completes _ _ old new bytes ends no_fault told = absurd ends
