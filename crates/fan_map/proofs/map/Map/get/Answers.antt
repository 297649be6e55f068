use Rattle.std.proofs.Common.{arith}
use Rattle.fan_map.proofs.JoinedLemmas.{joined_lookup, joined_lookup_held, joined_sorted}
use Rattle.fan_map.proofs.map.Map.get.Goals as goal

pub returns-then-not-is_held-clause-value : goal.returns-then-not-is_held-clause-value
returns-then-not-is_held-clause-value g c =
    grind (
      arith,
      joined_lookup g.met.K.Ord.total c.self.inside.rows.entries c.self.inside.held
          c.args.key.now,
    )

pub returns-then-not-is_held-clause-sorted : goal.returns-then-not-is_held-clause-sorted
returns-then-not-is_held-clause-sorted g c =
    rw (← c.self.view_is)
    (joined_sorted g.met.K.Ord.total c.self.inside.rows.entries c.self.inside.held c.self.invariant)

pub returns-clause-value : goal.returns-clause-value
returns-clause-value g c =
    grind (
      arith,
      joined_lookup_held g.met.K.Ord.total c.self.inside.rows.entries c.self.inside.held
          c.args.key.now,
    )

pub returns-clause-sorted : goal.returns-clause-sorted
returns-clause-sorted g c =
    rw (← c.self.view_is)
    (joined_sorted g.met.K.Ord.total c.self.inside.rows.entries c.self.inside.held c.self.invariant)
