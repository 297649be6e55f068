use Rattle.std.proofs.Common.{◌∙◌, ap}
use Rattle.fan_rows.specs.declared.tests.Table.{Table}
use Rattle.fan_rows.proofs.Example.{pictured}
use Rattle.fan_rows.proofs.tests.pictured.Goals as goal

pub returns : goal.returns
returns c =
    pictured c.new.result.cells.words.items c.new.result.root
    (ap (λ (table : Table). table.words.items) c.new.ensures.cells ∙ c.in_ok-words.ensures)
    c.new.ensures.root
