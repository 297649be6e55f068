-- Retired marks as they are counted, and the batches in which they are reclaimed.
use Rattle.std.specs.Prelude.{ℕ, Bool, zero, suc, List, Option, Some, None, nat_le, if◌then◌else◌}
use Rattle.std.specs.List.{list_any}
use Rattle.fan_world.specs.declared.open_accesses.OpenAccess.{OpenAccess}
use Rattle.fan_world.specs.declared.retirement.KeptBatch.{KeptBatch}
use Rattle.fan_world.specs.declared.retirement.Retirement.{Retirement}

-- an open access has a number up to this one
abbrev pub has_up_to : List (ℕ × OpenAccess) → ℕ → Bool
has_up_to accesses number = list_any (λ access. nat_le access.0 number) accesses

-- the batch under way goes on, if an access of it is open
abbrev pub still_held : List (ℕ × OpenAccess) → Option KeptBatch → Option KeptBatch
still_held accesses None = None
still_held accesses (Some batch) = if has_up_to accesses batch.last_access then Some batch else None

-- how many marks of the batch under way are reclaimed now
abbrev pub reclaimed_count : List (ℕ × OpenAccess) → Option KeptBatch → ℕ
reclaimed_count accesses None = 0
reclaimed_count accesses (Some batch) = if has_up_to accesses batch.last_access then 0 else batch.marks

-- all that waits, as a batch; none if nothing waits
abbrev pub kept_batch : ℕ → ℕ → Option KeptBatch
kept_batch zero last_access = None
kept_batch (suc more) last_access = Some (record { marks = suc more; last_access = last_access })

-- a batch starts, if none is under way
abbrev pub kept_start : ℕ → ℕ → Option KeptBatch → Retirement
kept_start waiting last_access (Some batch) = record { waiting = waiting; batch = Some batch }
kept_start waiting last_access None = record { waiting = 0; batch = kept_batch waiting last_access }

-- the batch under way ends, if it isn't held, and then one starts, if none is under way
abbrev pub kept_grace : List (ℕ × OpenAccess) → ℕ → Retirement → Retirement
kept_grace accesses last_access retirement =
    kept_start retirement.waiting last_access (still_held accesses retirement.batch)
