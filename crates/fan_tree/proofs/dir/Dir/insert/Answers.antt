use Rattle.std.proofs.Common.{◌∙◌, sym}
use Rattle.fan_tree.proofs.SpilledLemmas.{number_kept, others_put}
use Rattle.fan_tree.proofs.dir.Dir.insert.Goals as goal

pub returns-clause-here : goal.returns-clause-here
returns-clause-here c =
    sym (number_kept c.insert.new.self.entries c.args.name.items) ∙ c.in_ok-insert.ensures.updates.1

pub returns-clause-others : goal.returns-clause-others
returns-clause-others c =
    rw (← c.self.view_is, c.in_ok-insert.ensures.entries)
    (others_put c.self.inside.numbers.entries c.args.name c.args.number)
