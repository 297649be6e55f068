use Rattle.std.proofs.Common.{◌≡◌, ◌∙◌, false, sym, arith}
use Rattle.std.proofs.lemmas.Bool.Decides.{nat_tests}
use Rattle.fan_marks.specs.Selected.{forgets}
use Rattle.fan_marks.proofs.Clearing.{storable_emptied, unchanged}
use Rattle.fan_marks.proofs.book.MarkBook.clear_mark.Goals as goal
use Rattle.fan_marks.proofs.book.MarkBook.clear_mark.Goals.{then-mark-via-then-mark, then-mark-via-else-mark+then-mark-eq0}

pub returns-then-mark-clause-marks : goal.returns-then-mark-clause-marks
returns-then-mark-clause-marks c =
    let keeps : forgets c.args.mark.object c.args.mark ≡ false =
    elim c.then-mark.branch [
      | then-mark-via-then-mark w ↦ grind (arith, nat_tests, w.if-mark.true)
      | then-mark-via-else-mark+then-mark-eq0 w ↦ grind (arith, nat_tests, w.if-mark-eq0.true)
    ] in
    unchanged c.args.self.now.marks c.args.mark c.requires.whole.list c.requires.here keeps

pub update-requires-clause-fits : goal.update-requires-clause-fits
update-requires-clause-fits c =
    storable_emptied c.args.self.now.marks c.args.mark c.requires.whole.list c.requires.here
    (sym c.stands.ensures ∙ c.if-stands.true)
