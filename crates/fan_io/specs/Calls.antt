-- What a source or a sink makes of the one call of its reader or writer.
use Rattle.std.specs.Prelude.{ℕ, Result, Ok, Err, ◌⊎◌}
use Rattle.std.specs.declared.io.Error.{Error}
use Rattle.fan_io.specs.declared.faults.Failed.{Failed}

-- a take answers as its read did: with the count, or with Failed where the read gave an error
abbrev pub AnswersRead : {R : Type 0} → (R → Result ℕ Error → R → Type 0) → R → R → Result ℕ Failed → Type 0
AnswersRead may_answer old new (Ok count) = may_answer old (Ok count) new
AnswersRead may_answer old new (Err _) = (error : Error) × may_answer old (Err error) new

-- a put answers as its write did: with the count, or with Failed where the write gave an error or took no byte
abbrev pub AnswersWrite : {W : Type 0} → (W → Result ℕ Error → W → Type 0) → W → W → Result ℕ Failed → Type 0
AnswersWrite may_answer old new (Ok count) = may_answer old (Ok count) new
AnswersWrite may_answer old new (Err _) = ((error : Error) × may_answer old (Err error) new) ⊎ may_answer old (Ok 0) new
