use Rattle.std.proofs.Common.{◌∙◌, ◌<◌, ap, length, arith}
use Rattle.std.specs.Prelude.{filter, not}
use Rattle.fan_marks.specs.Selected.{is_selected}
use Rattle.fan_marks.proofs.Dropping.{drop_made, one_less}
use Rattle.fan_marks.proofs.book.MarkBook.drop_all.Goals as goal

pub loop-key-smaller : goal.loop-key-smaller
loop-key-smaller c =
    let less = one_less (is_selected c.args.selection) c.in-Some.key c.loop-key.self.marks
    c.loop-key.invariant.whole.list.rises c.in-Some.ensures.found in
    let smaller : length c.remove.new.self.marks < length c.loop-key.self.marks =
    omega (arith, less.1, ap length c.remove.ensures.marks) in smaller

pub loop-key-preserved : goal.loop-key-preserved
loop-key-preserved c =
    let less = one_less (is_selected c.args.selection) c.in-Some.key c.loop-key.self.marks
    c.loop-key.invariant.whole.list.rises c.in-Some.ensures.found in
    record {
      whole = c.remove.ensures.whole;
      kept = ap (filter (λ mark. not (is_selected c.args.selection mark))) c.remove.ensures.marks ∙ less.0
          ∙ c.loop-key.invariant.kept;
      count = omega (arith, less.1, ap length c.remove.ensures.marks, c.loop-key.invariant.count);
    }

pub returns-clause-made : goal.returns-clause-made
returns-clause-made c =
    rw c.summary_of.ensures
    (drop_made c.args.selection c.args.self.now.marks c.loop-key.self.marks c.loop-key.count
    c.in_default.ensures.found c.loop-key.invariant.kept c.loop-key.invariant.count)
