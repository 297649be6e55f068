use Rattle.std.proofs.Common.{◌∙◌, List, Some, ap, sym}
use Rattle.fan_bits.specs.declared.mark.Mark.{Mark}
use Rattle.fan_marks.specs.Book.{BookState}
use Rattle.fan_marks.specs.Keys.{object_key, replaced}
use Rattle.fan_marks.proofs.Slots.{filled, left_empty}
use Rattle.fan_marks.proofs.book.MarkBook.put.Goals as goal
use Rattle.fan_marks.proofs.book.MarkBook.put.Goals.{in-None-None, in-None-Some+in_ok-reserve-in-None-Some, in-Some-Some, in-Some-None}

pub returns-clause-marks : goal.returns-clause-marks
returns-clause-marks c =
    let marks = c.args.self.now.marks in
    let slot = c.args.slot.now in
    elim c.match-slot.branch [
      | in-None-None w ↦ ap (λ (book : BookState). book.marks) w.self-is
          ∙ left_empty marks slot c.requires.slot c.requires.whole.list.rises w.in-None-None.is-0
          w.in-None-None.is-1
      | in-None-Some+in_ok-reserve-in-None-Some w ↦ ap (λ (book : BookState). book.marks) w.self-is
          ∙ w.insert.ensures.marks
          ∙ ap (λ (marks : List Mark). replaced marks (object_key w.in-None-Some.mark)
          (Some w.in-None-Some.mark))
          w.reserve.ensures.same
          ∙ filled marks slot c.requires.slot w.in-None-Some.mark w.in-None-Some.is-1
      | in-Some-Some w ↦ ap (λ (book : BookState). book.marks) w.self-is ∙ w.update.ensures.marks
          ∙ filled marks slot c.requires.slot w.in-Some-Some.mark w.in-Some-Some.is-1
      | in-Some-None w ↦ ap (λ (book : BookState). book.marks) w.self-is ∙ w.remove.ensures.marks
          ∙ ap (replaced marks slot.key) (sym w.in-Some-None.is-1)
    ]
