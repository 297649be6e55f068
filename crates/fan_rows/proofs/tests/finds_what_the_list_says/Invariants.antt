use Rattle.std.proofs.Common.{List, slice_get}
use Rattle.fan_bits.specs.declared.mark.Mark.{Mark}
use Rattle.fan_bits.specs.Marks.{IsMarkList}
use Rattle.fan_rows.specs.Trees.{Pictures}
use Rattle.fan_rows.proofs.tests.finds_what_the_list_says.Given as goal

abbrev pub invariant-loop-object : goal.invariant-loop-object
invariant-loop-object g l =
    (marks : List Mark)
    × Pictures (λ place. slice_get l.connectors.cells.words.items place) l.connectors.root marks
    × IsMarkList marks

abbrev pub invariant-loop-after : goal.invariant-loop-after
invariant-loop-after g l =
    (marks : List Mark)
    × Pictures (λ place. slice_get l.connectors.cells.words.items place) l.connectors.root marks
    × IsMarkList marks
