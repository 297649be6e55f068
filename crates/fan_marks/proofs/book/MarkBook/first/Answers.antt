use Rattle.std.proofs.Common.{◌∙◌, sym}
use Rattle.fan_marks.proofs.Found.{none_on, one_on}
use Rattle.fan_marks.proofs.book.MarkBook.first.Goals as goal

pub returns-in_err-mark-in-OnObject-clause-found : goal.returns-in_err-mark-in-OnObject-clause-found
returns-in_err-mark-in-OnObject-clause-found c =
    none_on c.args.selection c.in-OnObject.object c.args.self.now.marks c.in-OnObject.is
    c.next_on.ensures.whole.list
    c.from_residual.result (sym c.next_on.ensures.mark
    ∙ c.in_err-mark-in-OnObject.was) c.from_residual.ensures

pub returns-in_ok-mark-in-OnObject-clause-found : goal.returns-in_ok-mark-in-OnObject-clause-found
returns-in_ok-mark-in-OnObject-clause-found c =
    one_on c.args.selection c.in-OnObject.object c.args.self.now.marks c.in-OnObject.is
    c.next_on.ensures.whole.list
    c.of.result c.in_ok-mark-in-OnObject.mark (sym c.next_on.ensures.mark
    ∙ c.in_ok-mark-in-OnObject.was) c.of.ensures
