use Rattle.std.proofs.Common.{◌∙◌}
use Rattle.std.specs.Map.Iter.{deref_pair}
use Rattle.fan_map.proofs.Parts.{between_open, takes_found}
use Rattle.fan_map.proofs.finds.first_row.Goals as goal

pub returns : goal.returns
returns g c = takes_found deref_pair _ c.args.rows.now.entries c.range.result c.next.result _
    (c.range.ensures.between tt ∙ between_open g.K.Ord.cmp g.met.K.Ord.total
    _ c.args.rows.now.entries) c.next.ensures.steps
