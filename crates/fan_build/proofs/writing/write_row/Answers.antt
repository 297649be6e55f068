use Rattle.std.proofs.Common.{◌<◌, sym, subst}
use Rattle.fan_rows.specs.Rows.{times}
use Rattle.fan_build.proofs.Counts.{times_last}
use Rattle.fan_build.proofs.writing.write_row.Goals as goal

pub write-requires : goal.write-requires
write-requires g c =
    subst (λ given. 0 < times c.fresh-row.result given) (sym c.fresh-row.ensures.given) (times_last c.fresh-row.result _)
