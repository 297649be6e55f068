use Rattle.std.proofs.Common.{sym, ◌∙◌}
use Rattle.fan_map.proofs.JoinedLemmas.{joined_around, joined_filter, joined_sorted}
use Rattle.fan_map.proofs.map.Map.iter_from.Goals as goal

pub returns-then-is_from_start-clause-rest : goal.returns-then-is_from_start-clause-rest
returns-then-is_from_start-clause-rest g c =
    rw (← c.self.view_is)
    (c.walk_around.ensures.rest ∙ sym (joined_around g.met.K.Ord.total
    c.self.inside.rows.entries c.self.inside.held
    _ _ c.in-Some.is c.self.invariant (sym c.is_from_start.ensures ∙ c.if-is_from_start.true)))

pub returns-then-is_from_start-clause-sorted : goal.returns-then-is_from_start-clause-sorted
returns-then-is_from_start-clause-sorted g c =
    rw (← c.self.view_is)
    (joined_sorted g.met.K.Ord.total c.self.inside.rows.entries c.self.inside.held c.self.invariant)

pub returns-else-is_from_start-clause-rest : goal.returns-else-is_from_start-clause-rest
returns-else-is_from_start-clause-rest g c =
    rw (← c.self.view_is)
    (c.walk_rows.ensures.rest ∙ sym (joined_filter g.met.K.Ord.total
    c.self.inside.rows.entries c.self.inside.held
    _ _ c.in-Some.is c.self.invariant (sym c.is_from_start.ensures ∙ c.if-is_from_start.false)))

pub returns-else-is_from_start-clause-sorted : goal.returns-else-is_from_start-clause-sorted
returns-else-is_from_start-clause-sorted g c =
    rw (← c.self.view_is)
    (joined_sorted g.met.K.Ord.total c.self.inside.rows.entries c.self.inside.held c.self.invariant)
