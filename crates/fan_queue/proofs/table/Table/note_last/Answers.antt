use Rattle.std.proofs.Common.{◌+◌, length, subst}
use Rattle.fan_queue.specs.Queued.{AreNumbered}
use Rattle.fan_queue.proofs.KeyLemmas.{front_below}
use Rattle.fan_queue.proofs.table.Table.note_last.Goals as goal

pub returns-clause-kept : goal.returns-clause-kept
returns-clause-kept c = λ k d within key is.
    let entries = c.args.entries.now.items in
    let front = c.front_number-front.result in
    let numbered : AreNumbered (front + length entries) entries =
    subst (λ next. AreNumbered next entries) c.front_number-front.ensures c.requires.numbered in
    c.note.ensures.kept key (front_below front entries k d numbered within key is)
    (c.make_room.ensures k d within key is)
