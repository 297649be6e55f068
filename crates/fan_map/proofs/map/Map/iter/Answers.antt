use Rattle.std.proofs.Common.{refl, true, ◌∙◌}
use Rattle.fan_lists.proofs.Filters.{filter_all}
use Rattle.fan_map.proofs.map.Map.iter.Goals as goal

pub returns-clause-rest : goal.returns-clause-rest
returns-clause-rest g c = c.iter_from.ensures.rest
    ∙ filter_all (λ e. true) c.args.self.now.entries (λ k d within. refl)
