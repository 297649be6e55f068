use Rattle.std.proofs.Common.{[]}
use Rattle.fan_grace.specs.Tables.{IsInside, Present}
use Rattle.fan_world_tests.proofs.histories.play.Given as goal

-- both have the same marks, and no section is in
abbrev pub invariant-words : goal.invariant-words
invariant-words g l = record {
  present : Present l.both.table l.both.book.marks;
  nobody : IsInside l.both.table [];
}
