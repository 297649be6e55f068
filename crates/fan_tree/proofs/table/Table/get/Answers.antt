-- A name that no cell of its group has, and that was not spilled, leads nowhere.
use Rattle.std.proofs.Common.{◌∙◌, arith, ap}
use Rattle.fan_tree.specs.Spilled.{is_number, number_in}
use Rattle.fan_tree.specs.Table.{TableState}
use Rattle.fan_tree.proofs.TableLemmas.{none_known, none_where}
use Rattle.fan_tree.proofs.table.Table.get.Goals as goal

pub returns-then-not-group-clause-none : goal.returns-then-not-group-clause-none
returns-then-not-group-clause-none c =
    none_known c.args.entries.now c.args.dir c.args.name.now c.name_tag-tag.result c.args.self.now
    c.in-Some.group.now c.name_tag-tag.ensures c.in-Some.ensures c.in_default-in_cells.ensures.none
    (λ number both. absurd (let never = rw c.if-not-group.true at both in cc))

pub returns-clause-none : goal.returns-clause-none
returns-clause-none c =
    none_where c.in_spilled-2.result
    (λ spilled. none_known c.args.entries.now c.args.dir c.args.name.now c.name_tag-tag.result c.args.self.now
    c.in-Some.group.now c.name_tag-tag.ensures c.in-Some.ensures c.in_default-in_cells.ensures.none
    (λ number both. spilled number
    (ap (λ (table : TableState). is_number number (number_in table.spilled c.args.dir c.args.name.now))
    c.self.view_is ∙ grind (arith, both))))
    c.in_spilled-2.ensures.none
