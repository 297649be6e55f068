-- Counts of the faults of what lies outside, and what a call that failed says of them.
use Rattle.std.specs.Prelude.{◌≡◌, ℕ, ◌+◌, ◌-◌, ◌^◌, ◌<◌, ◌≤◌, ◌⊎◌, min, Result, OnErr, MatchResult}
use Rattle.fan_io.specs.declared.faults.Failed.{Failed}

-- the last value of a count, at which it stands still
abbrev pub last_count : ℕ
last_count = 2 ^ 64 - 1

-- a count after one more
abbrev pub next_count : ℕ → ℕ
next_count count = min (count + 1) last_count

-- a count of faults rose; one that stands at its last value is taken as one that did
abbrev pub Rose : ℕ → ℕ → Type 0
Rose old new = (old < new) ⊎ (new ≡ last_count)

-- a count of faults never falls, and a call fails only where it rose
pub record HasCause {A : Type 0} (old new : ℕ) (result : Result A Failed) : Type 0 where
  pub kept : old ≤ new
  pub risen : OnErr result (Rose old new)

-- a count of faults rises by one where a call fails, and else stays
abbrev pub CountsFault : {A : Type 0} → ℕ → ℕ → Result A Failed → Type 0
CountsFault old new result = MatchResult result (λ _. new ≡ old) (λ _. new ≡ next_count old)
