use Rattle.std.proofs.Common.{◌≡◌, ◌++◌}
use Rattle.std.specs.Prelude.{filter, nat_lt, take_while}
use Rattle.fan_grace.specs.Noted.{is_within}
use Rattle.fan_grace.proofs.noted.Noted.within.Given as goal

abbrev pub invariant-loop-place : goal.invariant-loop-place
invariant-loop-place l = l.found.items ++ take_while (λ e. nat_lt e.0 l.span.end) l.place-iterator
    ≡ filter (λ e. is_within l.span e.0) l.self.entries
