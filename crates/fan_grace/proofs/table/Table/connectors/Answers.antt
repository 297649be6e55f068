use Rattle.std.proofs.Common.{◌≡◌, ◌∙◌, ap, sym, subst, slice_get}
use Rattle.fan_rows.specs.Trees.{Pictures}
use Rattle.fan_grace.specs.declared.cells.TableCells.{TableCells}
use Rattle.fan_grace.specs.Tables.{TableState}
use Rattle.fan_grace.proofs.table.Table.connectors.Goals as goal

pub returns : goal.returns
returns c = record {
  shown = λ marks shows.
      let words : c.new.result.cells.words.now ≡ c.args.self.now.words =
      ap (λ (cells : TableCells). cells.words.now) c.new.ensures.cells
      ∙ c.cells.ensures
      ∙ ap (λ (table : TableState). table.words) c.self.view_is in
      let at_root = subst (λ root. Pictures (slice_get c.args.self.now.words) root marks)
      (sym c.new.ensures.root) shows.0 in
      (subst (λ all. Pictures (slice_get all) c.new.result.root marks) (sym words) at_root, shows.1);
}
