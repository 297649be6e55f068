use Rattle.std.proofs.Common.{◌≡◌, ◌≢◌, ℕ, ◌<◌, None, slice_index_or}
use Rattle.std.specs.Prelude.{All}
use Rattle.fan_grace.specs.Noted.{noted_at}
use Rattle.fan_grace.proofs.noted.Noted.forget.Given as goal

abbrev pub invariant-loop-place : goal.invariant-loop-place
invariant-loop-place l = record {
  others : (q : ℕ) → All (λ e. q ≢ e.0) l.places
      → noted_at l.self-inside.objects.entries q ≡ noted_at l.fn.self.entries q;
  gone : (d : ℕ × ℕ) (k : ℕ) → k < l.place-index
      → noted_at l.self-inside.objects.entries (slice_index_or l.places k d).0 ≡ None;
}
