-- The generator of numbers: its state, and what is drawn from it.
use Rattle.std.specs.Prelude.{ℕ, ◌+◌, ◌*◌, ◌/◌, ◌%◌, ◌^◌}

-- the state after a draw
unfoldable pub stepped : ℕ → ℕ
stepped state = (state * 6364136223846793005 + 1442695040888963407) % 2 ^ 64

-- the number below a limit that a draw gives, by the state after it
unfoldable pub drawn : ℕ → ℕ → ℕ
drawn limit state = (state / 2 ^ 33) % limit
