use Rattle.fan_rows.proofs.Example.{empty}
use Rattle.fan_rows.proofs.tests.empty.Goals as goal

pub returns : goal.returns
returns c = empty c.new.result.cells.words.items c.new.result.root c.new.ensures.root
