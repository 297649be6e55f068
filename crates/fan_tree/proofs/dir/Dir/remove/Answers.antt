use Rattle.std.proofs.Common.{◌∙◌, sym}
use Rattle.fan_tree.proofs.SpilledLemmas.{number_kept, others_left}
use Rattle.fan_tree.proofs.dir.Dir.remove.Goals as goal

pub returns-clause-gone : goal.returns-clause-gone
returns-clause-gone c =
    sym (number_kept c.remove.new.self.entries c.args.name.now) ∙ c.remove.ensures.updates.1

pub returns-clause-others : goal.returns-clause-others
returns-clause-others c =
    rw (← c.self.view_is, c.remove.ensures.entries)
    (others_left c.self.inside.numbers.entries c.args.name.now)
