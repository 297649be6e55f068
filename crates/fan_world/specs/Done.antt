-- What became of an attempt of a step.
use Rattle.std.specs.Prelude.{◌≡◌, List, Option, Some, None, Result, Ok, Err}
use Rattle.fan_bits.specs.declared.errno.Errno.{Errno}
use Rattle.fan_bits.specs.declared.mark.Mark.{Mark}
use Rattle.fan_grace.specs.declared.section.Section.{Section}
use Rattle.fan_machine.specs.Outcome.{Attempt}
use Rattle.fan_script.specs.declared.reply.Reply.{Reply}
use Rattle.fan_world.specs.declared.refused.Refused.{Refused}
use Rattle.fan_world.specs.declared.refused.Refused.TheVariants.{No, NoMemory}
use Rattle.fan_world.specs.Machine.{IsStepOver, PartsOver}

-- a refused read, as a refusal of the step: without an errno memory ran out
abbrev pub read_refusal : Option Errno → Refused
read_refusal (Some errno) = No errno
read_refusal None = NoMemory

-- an attempt was done with this reply, and the parts stand for the state after it; or it was refused with
-- this errno; want of memory may take the place of either
abbrev pub IsDone : {S : Type 0} → (S → Section → List Mark → Type 0) → (S → Type 0) → PartsOver S
    → Result Reply Refused → Attempt → Type 0
IsDone shows honest parts (Ok reply) (Ok outcome) = IsStepOver shows honest parts reply outcome
IsDone shows honest parts (Err (No errno)) (Err cause) = errno ≡ cause
IsDone shows honest parts (Err NoMemory) attempt = Unit {0}
IsDone shows honest parts result attempt = ⊥
