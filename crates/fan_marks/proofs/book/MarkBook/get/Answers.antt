use Rattle.std.proofs.Common.{◌∙◌}
use Rattle.fan_marks.proofs.StoredLemmas.{stored_in, stored_lookup}
use Rattle.fan_marks.proofs.book.MarkBook.get.Goals as goal

pub returns-clause-mark : goal.returns-clause-mark
returns-clause-mark c =
    let stored = stored_in c.self.inside c.args.self.now c.self.invariant c.self.view_is in
    c.copied.ensures ∙ c.get.ensures.value ∙ stored_lookup stored c.args.key
