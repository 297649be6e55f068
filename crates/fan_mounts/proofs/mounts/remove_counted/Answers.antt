use Rattle.std.proofs.Common.{rules, tests, ◌==◌, not}
use Rattle.std.proofs.lemmas.Fn.{filter_same}
use Rattle.fan_mounts.proofs.mounts.remove_counted.Goals as goal

pub returns-else-count-eq1 : goal.returns-else-count-eq1
returns-else-count-eq1 c =
    filter_same _ (λ mount. not (mount.number == c.args.number)) _
    (λ mount kept after called. (search (rules, tests), search (rules, tests))) _ _
    c.retain.ensures.filtered
