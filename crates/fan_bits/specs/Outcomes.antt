-- What the outcome of one single step of an access says of the access and of its groups.
use Rattle.std.specs.Prelude.{ℕ, Bool, true, false, Option, Some, None}
use Rattle.fan_bits.specs.declared.outcome.StepOutcome.{StepOutcome}
use Rattle.fan_bits.specs.declared.outcome.StepOutcome.TheVariants.{Asked, Blocked, Allowed, Denied, Closed, Full, Queued, Merged, Overflow, Done}

-- the access is finished: it was denied, or has nothing left to do
abbrev pub ends_access : StepOutcome → Bool
ends_access (Denied group) = true
ends_access Done = true
ends_access _ = false

-- a run of single steps stops: the access is finished, or waits for an answer
abbrev pub ends_run : StepOutcome → Bool
ends_run (Blocked group) = true
ends_run (Denied group) = true
ends_run Done = true
ends_run _ = false

-- the group denied the access
abbrev pub is_denial : StepOutcome → Bool
is_denial (Denied group) = true
is_denial _ = false

-- the group whose ask is settled: allowed, denied, closed or full
abbrev pub asked_by : StepOutcome → Option ℕ
asked_by (Allowed group) = Some group
asked_by (Denied group) = Some group
asked_by (Closed group) = Some group
asked_by (Full group) = Some group
asked_by _ = None

-- the group that is told: queued, merged, overflow or closed
abbrev pub told_by : StepOutcome → Option ℕ
told_by (Closed group) = Some group
told_by (Queued group) = Some group
told_by (Merged group) = Some group
told_by (Overflow group) = Some group
told_by _ = None

-- an ask is settled or a group is told; asked, blocked and done do neither
abbrev pub settles : StepOutcome → Bool
settles (Asked group) = false
settles (Blocked group) = false
settles Done = false
settles _ = true
