-- The exit status of the program for each outcome of a command, and which of them may come.
use Rattle.std.specs.Prelude.{ℕ}
use Rattle.fan_shell.specs.declared.command.Command.{Command}
use Rattle.fan_shell.specs.declared.command.Command.TheVariants as commands
use Rattle.fan_shell.specs.declared.status.Status.{Status}
use Rattle.fan_shell.specs.declared.status.Status.TheVariants as statuses

-- the exit status
abbrev pub code_of : Status → ℕ
code_of statuses.Ok = 0
code_of statuses.BadLine = 1
code_of statuses.Usage = 2
code_of statuses.ReadFault = 3
code_of statuses.WriteFault = 4
code_of statuses.TooLong = 5
code_of statuses.NoMemory = 6
code_of statuses.NotLegal = 7
code_of statuses.NoThread = 8
code_of statuses.BadRecord = 9

-- an input was answered to its end, to its first bad line or to its first bad record
abbrev pub IsTold : Status → Type 0
IsTold statuses.Ok = Unit {0}
IsTold statuses.BadLine = Unit {0}
IsTold statuses.BadRecord = Unit {0}
IsTold _ = ⊥

-- a command's input was answered so, or its text was cut off by a fault of the sink or by want of memory
abbrev pub IsToldOrCut : Command → Status → Type 0
IsToldOrCut command statuses.Ok = Unit {0}
IsToldOrCut command statuses.WriteFault = Unit {0}
IsToldOrCut command statuses.NoMemory = Unit {0}
IsToldOrCut commands.Script statuses.BadLine = Unit {0}
IsToldOrCut commands.Dump statuses.BadRecord = Unit {0}
IsToldOrCut _ _ = ⊥

-- what is answered once lines of a script were played: all of them, those up to a bad one, or as
-- many as memory was found for
abbrev pub IsPlayedOrCut : Status → Type 0
IsPlayedOrCut statuses.Ok = Unit {0}
IsPlayedOrCut statuses.BadLine = Unit {0}
IsPlayedOrCut statuses.NoMemory = Unit {0}
IsPlayedOrCut _ = ⊥

-- what a command may end with: the source failed or gave too much, or a text was written or cut off
abbrev pub Ends : Command → Status → Type 0
Ends command statuses.ReadFault = Unit {0}
Ends command statuses.TooLong = Unit {0}
Ends command status = IsToldOrCut command status

-- what words that name no command may end with: the usage line was written or cut off
abbrev pub EndsUsage : Status → Type 0
EndsUsage statuses.Usage = Unit {0}
EndsUsage statuses.WriteFault = Unit {0}
EndsUsage _ = ⊥

-- what `bulk` may end with: COUNT is too great, or the summary was written or cut off
abbrev pub EndsBulk : Status → Type 0
EndsBulk statuses.Ok = Unit {0}
EndsBulk statuses.TooLong = Unit {0}
EndsBulk statuses.WriteFault = Unit {0}
EndsBulk statuses.NoMemory = Unit {0}
EndsBulk _ = ⊥
