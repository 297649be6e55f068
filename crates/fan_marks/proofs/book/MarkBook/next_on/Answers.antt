use Rattle.std.proofs.Common.{◌≡◌, ◌∙◌, false, ap, arith, sym}
use Rattle.std.specs.Prelude.{find, nat_lt}
use Rattle.std.specs.Map.Iter.{deref_pair}
use Rattle.std.specs.Option.{option_map}
use Rattle.fan_bits.specs.Marks.{order_of}
use Rattle.fan_marks.proofs.Found.{next_found}
use Rattle.fan_marks.proofs.Marked.{marked_in, none_marked}
use Rattle.fan_marks.proofs.StoredLemmas.{stored_in}
use Rattle.fan_seen.specs.Seen.{has}
use Rattle.fan_marks.proofs.book.MarkBook.next_on.Goals as goal

pub returns-then-not-has-clause-mark : goal.returns-then-not-has-clause-mark
returns-then-not-has-clause-mark c =
    let marked = marked_in c.self.inside c.args.self.now c.self.invariant c.self.view_is in
    let absent : has c.self.inside.marked c.args.object ≡ false = grind (arith, c.has.ensures, c.if-not-has.true) in
    sym (ap (find (λ mark. nat_lt c.args.after.0 (order_of mark))) (none_marked c.self.inside.marked c.args.self.now.marks marked c.args.object absent))

pub returns-clause-mark : goal.returns-clause-mark
returns-clause-mark c =
    let book = c.self.inside in
    let marks = c.args.self.now.marks in
    let stored = (stored_in c.self.inside c.args.self.now c.self.invariant c.self.view_is) in
    c.on_object.ensures
    ∙ next_found c.args.object c.args.after.0 marks book.by_object.entries
    (option_map deref_pair c.first_from.result) stored.entries c.first_from.ensures.sorted
    c.first_from.ensures.first
