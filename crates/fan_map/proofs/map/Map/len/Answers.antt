use Rattle.std.proofs.Common.{arith}
use Rattle.fan_map.proofs.JoinedLemmas.{joined_length, joined_sorted}
use Rattle.fan_map.proofs.map.Map.len.Goals as goal

pub returns-in-Some-clause-count : goal.returns-in-Some-clause-count
returns-in-Some-clause-count g c =
    grind (
      arith,
      joined_length g.met.K.Ord.total c.self.inside.rows.entries c.self.inside.held
          c.self.invariant,
    )

pub returns-in-Some-clause-sorted : goal.returns-in-Some-clause-sorted
returns-in-Some-clause-sorted g c =
    rw (← c.self.view_is)
    (joined_sorted g.met.K.Ord.total c.self.inside.rows.entries c.self.inside.held c.self.invariant)
