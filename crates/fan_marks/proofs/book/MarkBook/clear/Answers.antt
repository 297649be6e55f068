use Rattle.std.proofs.Common.{◌≡◌, ◌∙◌, ℕ, ◌+◌, ◌-◌, ◌<◌, ◌^◌, cond, ap, sym, arith}
use Rattle.std.specs.Prelude.{count_by}
use Rattle.std.proofs.lemmas.List.Sums.{count_by-le-length}
use Rattle.fan_bits.specs.Marks.{cleared, standing}
use Rattle.fan_marks.specs.Keys.{object_key, replaced}
use Rattle.fan_marks.specs.Selected.{forgets}
use Rattle.fan_marks.proofs.Clearing.{after_write, clear_made, count_one, done_one, write_one}
use Rattle.fan_marks.proofs.Found.{IsNext, next_is}
use Rattle.fan_marks.proofs.book.MarkBook.clear.Goals as goal

pub clear_mark-count-requires-clause-here : goal.clear_mark-count-requires-clause-here
clear_mark-count-requires-clause-here c =
    (next_is c.args.object c.loop-mark.after.0 c.loop-mark.self.marks c.in-Some.mark
    c.loop-mark.invariant.whole.list.rises (sym c.next_on.ensures.mark ∙ c.in-Some.is)).keyed

next : (c : goal.After-clear_mark-count)
    → IsNext c.loop-mark.self.marks c.args.object c.loop-mark.after.0 c.in-Some.mark
next c =
    next_is c.args.object c.loop-mark.after.0 c.loop-mark.self.marks c.in-Some.mark
    c.loop-mark.invariant.whole.list.rises (sym c.next_on.ensures.mark ∙ c.in-Some.is)

left : (c : goal.After-clear_mark-count) → c.clear_mark-count.new.self.marks
    ≡ replaced c.loop-mark.self.marks (object_key c.in-Some.mark) (standing
    (cleared c.args.object c.in-Some.mark))
left c =
    c.clear_mark-count.ensures.marks
    ∙ ap (λ (object : ℕ). replaced c.loop-mark.self.marks (object_key c.in-Some.mark)
    (standing (cleared object c.in-Some.mark))) (next c).here

count : (c : goal.After-clear_mark-count)
    → c.loop-mark.count + c.clear_mark-count.result + count_by
    (forgets c.args.object) c.clear_mark-count.new.self.marks
    ≡ count_by (forgets c.args.object) c.args.self.now.marks
count c =
    let one = count_one c.args.object c.loop-mark.after.0 c.loop-mark.self.marks
    c.loop-mark.invariant.whole.list.rises c.in-Some.mark (next c) in
    let weight : ℕ → ℕ = λ object. cond (forgets object c.in-Some.mark) 1 0 in
    omega (
      arith,
      one,
      c.clear_mark-count.ensures.count,
      ap weight (next c).here,
      ap (count_by (forgets c.args.object)) (left c),
      c.loop-mark.invariant.count,
    )

pub overflow_add-count : goal.overflow_add-count
overflow_add-count c =
    omega (arith, count c, c.requires.few, count_by-le-length (forgets c.args.object) c.args.self.now.marks)

pub loop-mark-smaller : goal.loop-mark-smaller
loop-mark-smaller c =
    let later = (next c).later in
    let smaller : 2 ^ 64 - c.order-after.result.0 < 2 ^ 64 - c.loop-mark.after.0 =
    omega (arith, later, c.order-after.ensures) in smaller

pub loop-mark-preserved : goal.loop-mark-preserved
loop-mark-preserved c =
    let rises = c.loop-mark.invariant.whole.list.rises in
    record {
      whole = c.clear_mark-count.ensures.whole;
      made = ap (after_write c.args.object) (left c)
          ∙ write_one c.args.object c.loop-mark.after.0 c.loop-mark.self.marks rises c.in-Some.mark (next c)
          ∙ c.loop-mark.invariant.made;
      count = count c;
      done = rw (left c, c.order-after.ensures)
          (done_one c.args.object c.loop-mark.after.0 c.loop-mark.self.marks rises c.in-Some.mark (next c)
          c.loop-mark.invariant.done);
    }

pub returns-clause-made : goal.returns-clause-made
returns-clause-made c =
    rw c.summary_of.ensures
    (clear_made c.args.object c.loop-mark.after.0 c.args.self.now.marks c.loop-mark.self.marks
    c.loop-mark.count
    c.requires.list.each c.loop-mark.invariant.whole.list.each
    (sym c.next_on.ensures.mark ∙ c.in_default.is) c.loop-mark.invariant.done c.loop-mark.invariant.made
    c.loop-mark.invariant.count)
