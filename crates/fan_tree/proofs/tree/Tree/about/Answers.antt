use Rattle.fan_tree.proofs.tree.Tree.about.Goals as goal

pub returns-clause-found : goal.returns-clause-found
returns-clause-found c = rw (← c.self.view_is) c.get.ensures
