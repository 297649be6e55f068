use Rattle.std.proofs.Common.{◌∙◌}
use Rattle.fan_tree.proofs.SpilledLemmas.{number_kept}
use Rattle.fan_tree.proofs.dir.Dir.get.Goals as goal

pub returns : goal.returns
returns c =
    let kept = number_kept c.self.inside.numbers.entries c.args.name.now in
    rw (← c.self.view_is) (c.copied.ensures ∙ c.get.ensures.value ∙ kept)
