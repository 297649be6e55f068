use Rattle.fan_grace.proofs.Sections.{entered}
use Rattle.fan_grace.proofs.table.Table.enter.Goals as goal

pub returns-clause-shown : goal.returns-clause-shown
returns-clause-shown c = rw (← c.self.view_is) (λ marks present. present)

pub returns-clause-inside : goal.returns-clause-inside
returns-clause-inside c =
    let kept = c.self.invariant.kept in
    rw (← c.self.view_is) (λ sections is.
    entered _ kept.0 sections ((kept.1, kept.2.pictured), kept.2.list) is)

pub returns-clause-stays : goal.returns-clause-stays
returns-clause-stays c = rw (← c.self.view_is) (λ section marks shows. shows)

pub returns-clause-present : goal.returns-clause-present
returns-clause-present c = rw (← c.self.view_is) (λ marks present. present)
