use Rattle.std.proofs.Common.{sym, ◌∙◌}
use Rattle.fan_map.proofs.JoinedLemmas.{joined_find, joined_sorted}
use Rattle.fan_map.proofs.map.Map.first_from.Goals as goal

pub returns-clause-first : goal.returns-clause-first
returns-clause-first g c =
    rw (← c.self.view_is)
    (c.first_of_two.ensures ∙ rw (
      c.first_row.ensures,
      c.held_from.ensures,
    ) (sym
    (joined_find g.met.K.Ord.total c.self.inside.rows.entries c.self.inside.held _ c.self.invariant)))

pub returns-clause-sorted : goal.returns-clause-sorted
returns-clause-sorted g c =
    rw (← c.self.view_is)
    (joined_sorted g.met.K.Ord.total c.self.inside.rows.entries c.self.inside.held c.self.invariant)
