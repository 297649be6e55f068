use Rattle.std.proofs.Common.{◌≡◌, Ok, map, reverse}
use Rattle.fan_mounts.specs.Reaches.{reached}
use Rattle.fan_mounts.proofs.mounts.Mounts.place.Given as goal

abbrev pub invariant-loop-name : goal.invariant-loop-name
invariant-loop-name l = reached l.tree l.self (reverse (map (λ name. name.now) l.yielded)) ≡ Ok l.place
