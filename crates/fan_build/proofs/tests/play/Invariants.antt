use Rattle.std.proofs.Common.{List}
use Rattle.fan_bits.specs.declared.mark.Mark.{Mark}
use Rattle.fan_build.specs.Standing.{Stands}
use Rattle.fan_build.proofs.tests.play.Given as goal

abbrev pub invariant-loop-word : goal.invariant-loop-word
invariant-loop-word g l =
    (marks : List Mark) × Stands (g.N.Cells.words l.rows) (g.N.Cells.rows l.rows) l.root marks
    × (goal.iterator-loop-word g).can_next l.word-iterator
    × (goal.iterator-loop-word g).is_finite l.word-iterator
