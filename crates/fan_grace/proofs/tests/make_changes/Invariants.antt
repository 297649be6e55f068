use Rattle.std.proofs.Common.{List}
use Rattle.std.specs.Prelude.{All}
use Rattle.fan_bits.specs.declared.mark.Mark.{Mark}
use Rattle.fan_grace.specs.declared.section.Section.{Section}
use Rattle.fan_grace.specs.Tables.{IsInside, Present}
use Rattle.fan_grace.proofs.Notified.{IsNotif}
use Rattle.fan_grace.proofs.tests.make_changes.Given as goal

-- the groups are of class Notif still, and who was in is in
abbrev pub invariant-rounds : goal.invariant-rounds
invariant-rounds l = record {
  class : (marks : List Mark) × Present l.table marks × All IsNotif marks;
  inside : (sections : List Section) → IsInside l.fn.table sections → IsInside l.table sections;
}
