use Rattle.fan_grace.proofs.Sections.{left}
use Rattle.fan_grace.proofs.table.Table.leave.Goals as goal

pub returns-clause-inside : goal.returns-clause-inside
returns-clause-inside c =
    rw (← c.self.view_is) (λ before after is. left _ before after c.args.section is)

pub returns-clause-stays : goal.returns-clause-stays
returns-clause-stays c = rw (← c.self.view_is) (λ section marks shows. shows)

pub returns-clause-present : goal.returns-clause-present
returns-clause-present c = rw (← c.self.view_is) (λ marks present. present)
