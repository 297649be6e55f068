use Rattle.fan_groups.proofs.groups.Groups.write.Goals as goal

pub returns-in-Some-clause-bounds : goal.returns-in-Some-clause-bounds
returns-in-Some-clause-bounds c calls bounded = c.write_at.ensures.bounds calls (rw (← c.self.view_is) at bounded)
