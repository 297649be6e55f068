use Rattle.std.proofs.Common.{◌≡◌, ◌+◌, ◌-◌, ◌^◌, map}
use Rattle.std.specs.Prelude.{All, count_by, filter}
use Rattle.fan_bits.specs.Marks.{cleared, stands}
use Rattle.fan_marks.specs.Selected.{forgets}
use Rattle.fan_marks.specs.Stored.{AreWhole}
use Rattle.fan_marks.proofs.Clearing.{IsDone}
use Rattle.fan_marks.proofs.book.MarkBook.clear.Given as goal

abbrev pub invariant-loop-mark : goal.invariant-loop-mark
invariant-loop-mark l = record {
  whole : AreWhole l.self.marks;
  made : filter stands (map (cleared l.object) l.self.marks)
      ≡ filter stands (map (cleared l.object) l.fn.self.marks);
  count : l.count + count_by (forgets l.object) l.self.marks ≡ count_by (forgets l.object) l.fn.self.marks;
  done : All (IsDone l.object l.after.0) l.self.marks;
}

abbrev pub decreases-loop-mark : goal.decreases-loop-mark
decreases-loop-mark l = 2 ^ 64 - l.after.0
