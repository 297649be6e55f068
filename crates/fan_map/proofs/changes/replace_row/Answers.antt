use Rattle.std.proofs.Common.{arith}
use Rattle.fan_map.proofs.JoinedLemmas.{set_value_absent}
use Rattle.std.specs.BTreeMap.{is_at}
use Rattle.fan_map.proofs.changes.replace_row.Goals as goal

pub returns-in-None-clause-entries : goal.returns-in-None-clause-entries
returns-in-None-clause-entries g c =
    grind (arith, set_value_absent (is_at (g.K.Ord.cmp c.args.key.now)) c.args.rows.now.entries c.args.value)
