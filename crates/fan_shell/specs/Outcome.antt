-- What each command answers to its input, and what is written of it.
use Rattle.std.specs.Prelude.{◌≡◌, ◌⊎◌, ℕ, List, [], ◌∷◌, ◌++◌, Option, Some, None, codes}
use Rattle.std.specs.Io.KnownBytes.{Appends}
use Rattle.fan_dump.specs.Dump.{Dump}
use Rattle.fan_io.specs.Bytes.{AppendsFront}
use Rattle.fan_shell.specs.declared.command.Command.{Command}
use Rattle.fan_shell.specs.declared.command.Command.TheVariants as commands
use Rattle.fan_shell.specs.declared.status.Status.{Status}
use Rattle.fan_shell.specs.declared.status.Status.TheVariants as statuses
use Rattle.fan_shell.specs.Script.{Transcript}

-- the most bytes that an input may have
abbrev pub most_input : ℕ
most_input = 4194304

-- the line that is written where the words name no command
unfoldable pub usage_line : List ℕ
usage_line =
    codes "usage: fanwatch script | dump | check | bulk SEED COUNT | race SEED WORKERS COUNT" ++ 10 ∷ []

-- the status behind the lines of records, by the place where none stands
abbrev pub dump_status : Option ℕ → Status
dump_status None = statuses.Ok
dump_status (Some bad) = statuses.BadRecord

-- what a command answers to its input: this text, and this status
abbrev pub Outcome : Command → List ℕ → List ℕ → Status → Type 0
Outcome commands.Script bytes text status = Transcript bytes text status
Outcome commands.Dump bytes text status =
    (bad : Option ℕ) × Dump bytes text bad × (status ≡ dump_status bad)

-- a command's answer to the bytes was put, whole, and the status is that of the answer
pub record Tells (command : Command) (old new : Option (List ℕ)) (bytes : List ℕ) (status : Status) : Type 0
  where
    pub text : List ℕ
    pub outcome : Outcome command bytes text status
    pub put : Appends old new text

-- a front of a command's answer to the bytes was put, and nothing else
abbrev pub TellsFront : Command → Option (List ℕ) → Option (List ℕ) → List ℕ → Type 0
TellsFront command old new bytes =
    (text : List ℕ) (status : Status) → Outcome command bytes text status → AppendsFront old new text

-- the whole answer was put, or memory ran out
abbrev pub Completes : Command → Option (List ℕ) → Option (List ℕ) → List ℕ → Status → Type 0
Completes command old new bytes status =
    Tells command old new bytes status ⊎ (status ≡ statuses.NoMemory)
