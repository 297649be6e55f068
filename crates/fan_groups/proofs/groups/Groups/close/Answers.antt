use Rattle.fan_groups.proofs.groups.Groups.close.Goals as goal

pub returns-clause-bounds : goal.returns-clause-bounds
returns-clause-bounds c calls bounded = c.close_at.ensures.bounds calls (rw (← c.self.view_is) at bounded)
