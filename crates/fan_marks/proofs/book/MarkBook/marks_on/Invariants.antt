use Rattle.std.proofs.Common.{◌≡◌, ◌≤◌, ◌++◌}
use Rattle.std.specs.Prelude.{◌==◌, take_while, vec_capacity}
use Rattle.std.specs.Map.{values_of}
use Rattle.fan_bits.specs.Marks.{on}
use Rattle.fan_marks.proofs.book.MarkBook.marks_on.Given as goal

abbrev pub invariant-loop-key : goal.invariant-loop-key
invariant-loop-key l = record {
  walked : l.out.items ++ values_of (take_while (λ e. e.0.object == l.object) l.key-iterator)
      ≡ l.fn.out.items ++ on l.object l.fn.self.marks;
  room : vec_capacity l.fn.out ≤ vec_capacity l.out;
}
