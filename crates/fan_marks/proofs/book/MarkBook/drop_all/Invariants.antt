use Rattle.std.proofs.Common.{◌≡◌, ◌+◌, length}
use Rattle.std.specs.Prelude.{filter, not}
use Rattle.fan_marks.specs.Selected.{is_selected}
use Rattle.fan_marks.specs.Stored.{AreWhole}
use Rattle.fan_marks.proofs.book.MarkBook.drop_all.Given as goal

abbrev pub invariant-loop-key : goal.invariant-loop-key
invariant-loop-key l = record {
  whole : AreWhole l.self.marks;
  kept : filter (λ mark. not (is_selected l.selection mark)) l.self.marks
      ≡ filter (λ mark. not (is_selected l.selection mark)) l.fn.self.marks;
  count : l.count + length l.self.marks ≡ length l.fn.self.marks;
}

abbrev pub decreases-loop-key : goal.decreases-loop-key
decreases-loop-key l = length l.self.marks
