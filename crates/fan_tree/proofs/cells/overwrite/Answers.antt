use Rattle.std.proofs.Common.{get_or}
use Rattle.fan_tree.specs.Cells.{same_cell}
use Rattle.fan_tree.proofs.CellLemmas.{list_any-set, list_any-set_other, not_free, same_cell-refl}
use Rattle.fan_tree.proofs.cells.overwrite.Goals as goal

pub returns-clause-placed : goal.returns-clause-placed
returns-clause-placed c = λ done.
    list_any-set (same_cell c.args.cell) c.args.cells.now c.in-Some.index c.args.cell c.in-Some.ensures.within
    (same_cell-refl c.args.cell)

pub returns-clause-kept : goal.returns-clause-kept
returns-clause-kept c = record {
  each = λ cell number tagged there.
      let old = get_or c.args.cells.now c.in-Some.index c.args.cell in
      list_any-set_other (same_cell cell) c.args.cells.now c.in-Some.index c.args.cell c.args.cell
      (not_free c.args.entries.now cell old (c.in-Some.ensures.free c.args.cell) number tagged) there;
}
