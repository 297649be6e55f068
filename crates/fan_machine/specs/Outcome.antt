-- Steps that may be refused: a refused step changes nothing.
use Rattle.std.specs.Prelude.{Bool, Option, Some, None, Result, Ok, Err, if◌then◌else◌}
use Rattle.fan_bits.specs.declared.errno.Errno.{Errno}
use Rattle.fan_machine.specs.World.{WorldState}
use Rattle.fan_script.specs.declared.reply.Reply.{Reply}
use Rattle.fan_script.specs.declared.reply.Reply.TheVariants as replies

-- what a step answers, and the world after it
pub record Outcome : Type 0 where
  pub reply : Reply
  pub world : WorldState

-- a step, done or refused
abbrev pub Attempt : Type 0
Attempt = Result Outcome Errno

-- a step that was done
abbrev pub answers : Reply → WorldState → Attempt
answers reply world = Ok (record { reply = reply; world = world })

-- the outcome of an attempt: a refusal is answered, and nothing changes
abbrev pub settled : WorldState → Attempt → Outcome
settled world (Ok outcome) = outcome
settled world (Err errno) = record { reply = replies.Refused errno; world = world }

infixl 10 ◌>>=◌
-- what may be refused, and what is done with what it gives
abbrev pub ◌>>=◌ : {A B : Type 0} → Result A Errno → (A → Result B Errno) → Result B Errno
(Ok x) >>= f = f x
(Err errno) >>= f = Err errno

-- refused, unless the test holds
abbrev pub refuse_unless : Bool → Errno → Result (Unit {0}) Errno
refuse_unless test errno = if test then Ok tt else Err errno

-- what was found, else refused
abbrev pub found_or : {A : Type 0} → Errno → Option A → Result A Errno
found_or errno (Some x) = Ok x
found_or errno None = Err errno

-- refused, if there is a refusal
abbrev pub refuse_if : Option Errno → Result (Unit {0}) Errno
refuse_if None = Ok tt
refuse_if (Some errno) = Err errno
