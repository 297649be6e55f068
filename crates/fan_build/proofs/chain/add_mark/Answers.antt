use Rattle.fan_build.proofs.ChainSteps.{add_none, add_some}
use Rattle.fan_build.proofs.chain.add_mark.Goals as goal

pub returns-in_default-clause-made : goal.returns-in_default-clause-made
returns-in_default-clause-made g c = λ links before.
    add_none (g.N.Cells.words c.args.rows.now) (g.N.Cells.rows c.args.rows.now) c.args.next links c.args.new
    c.same.result c.in_default.is c.same.ensures before

pub returns-clause-made : goal.returns-clause-made
returns-clause-made g c = λ links before.
    add_some (g.N.Cells.words c.args.rows.now) (g.N.Cells.words c.write_mark.new.rows)
    (g.N.Cells.rows c.args.rows.now) (g.N.Cells.rows c.write_mark.new.rows) c.write_mark.result c.args.next
    links c.args.new c.in-Some.mark c.in-Some.is before c.write_mark.ensures.grown c.write_mark.ensures.at
