use Rattle.std.proofs.Common.{length}
use Rattle.fan_build.specs.Standing.{word_at}
use Rattle.fan_build.proofs.Standing.{nothing_stands}
use Rattle.fan_build.proofs.tests.empty.Goals as goal

pub returns : goal.returns
returns g c =
    let rows = c.in_ok-vec.field-0.items in
    nothing_stands (word_at rows) 1 (length rows) c.new.result.items c.new.ensures.items
