use Rattle.std.proofs.Common.{[]}
use Rattle.fan_grace.proofs.tests.marked.Goals as goal

pub returns-clause-inside : goal.returns-clause-inside
returns-clause-inside c =
    c.put-4.ensures.inside [] (c.put-3.ensures.inside [] (c.put-2.ensures.inside [] (c.put.ensures.inside []
    c.in_ok-table.ensures.nobody)))
