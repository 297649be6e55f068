use Rattle.std.proofs.Common.{◌∙◌, sym}
use Rattle.fan_marks.proofs.MarksOf.{none_of, one_of}
use Rattle.fan_marks.proofs.book.MarkBook.find.Goals as goal

pub returns-in_err-first-clause-found : goal.returns-in_err-first-clause-found
returns-in_err-first-clause-found c =
    c.from_residual.ensures
    ∙ sym (none_of c.args.self.now.marks c.args.group c.args.object c.in_err-first.ensures.found)

pub returns-clause-found : goal.returns-clause-found
returns-clause-found c =
    c.get.ensures.mark
    ∙ one_of c.args.self.now.marks c.args.group c.args.object c.in_ok-first.first c.first.ensures.whole.list
    c.in_ok-first.ensures.found
