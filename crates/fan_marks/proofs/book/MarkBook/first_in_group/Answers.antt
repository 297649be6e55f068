use Rattle.std.proofs.Common.{sym, subst}
use Rattle.std.specs.Map.Iter.{deref_pair}
use Rattle.std.specs.Option.{option_map}
use Rattle.fan_marks.specs.Selected.{IsOneOf, is_selected}
use Rattle.fan_marks.proofs.FirstOfGroup.{first_selected}
use Rattle.fan_marks.proofs.StoredLemmas.{stored_in}
use Rattle.fan_marks.proofs.book.MarkBook.first_in_group.Goals as goal

pub returns-clause-found : goal.returns-clause-found
returns-clause-found c =
    let marks = c.args.self.now.marks in
    subst (IsOneOf (is_selected c.args.selection) marks) (sym c.selected_key.ensures)
    (first_selected (stored_in c.self.inside c.args.self.now c.self.invariant c.self.view_is)
    c.args.selection c.args.group c.args.kind c.requires (option_map deref_pair c.first_from.result)
    c.first_from.ensures.sorted c.first_from.ensures.first)
