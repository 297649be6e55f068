use Rattle.std.proofs.Common.{List, drop}
use Rattle.fan_bits.specs.declared.mark.Mark.{Mark}
use Rattle.fan_rows.specs.Trees.{Tree}
use Rattle.fan_grace.specs.Stored.{CanMakeEach, objects_of}
use Rattle.fan_grace.proofs.InTurn.{Progress}
use Rattle.fan_grace.proofs.stored.StoredRows.change_in_turn.Given as goal

-- on the objects before this one it is made
abbrev pub invariant-loop-object : goal.invariant-loop-object
invariant-loop-object l = (marks : List Mark) (tree : Tree)
    → CanMakeEach l.fn.self l.fn.root marks tree l.fn.change (objects_of l.fn.places)
    → Progress l.fn.self l.self l.fn.root marks l.fn.change (objects_of (drop l.object-index l.places)) l.made
