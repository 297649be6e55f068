use Rattle.std.proofs.Common.{arith}
use Rattle.fan_map.proofs.Insertions.{lookup-insert_entry}
use Rattle.fan_map.proofs.map.Map.insert_reserved.Goals as goal

pub returns-clause-found : goal.returns-clause-found
returns-clause-found g c = λ q.
    grind (
      arith,
      lookup-insert_entry g.K.Ord.cmp g.met.K.Ord.total c.args.key c.args.value q
          c.self.inside.rows.entries,
    )
