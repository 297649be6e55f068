use Rattle.fan_grace.proofs.NotedLemmas.{can_each, note_drop}
use Rattle.fan_grace.proofs.changing.drop_noted.Goals as goal

pub change_each-requires : goal.change_each-requires
change_each-requires c =
    let (marks, tree, can, were) = c.requires.can in
    let entries = c.args.noted.now.entries in
    let change = c.args.change.now in
    let all = rw (c.of.ensures.first, c.of.ensures.end) at c.in_ok-places.ensures.all in (
      marks,
      tree,
      rw c.deref.ensures.value (can_each entries marks change c.in_ok-places.places.items can.kept.list were
          c.args.rows.now c.args.root tree can c.requires.drops all),
    )

pub returns-clause-made : goal.returns-clause-made
returns-clause-made c = λ marks tree can were.
    let entries = c.args.noted.now.entries in
    let change = c.args.change.now in
    let all = rw (c.of.ensures.first, c.of.ensures.end) at c.in_ok-places.ensures.all in
    c.in_ok-made.ensures.made marks tree
    (rw c.deref.ensures.value (can_each entries marks change c.in_ok-places.places.items can.kept.list were
    c.args.rows.now c.args.root tree can c.requires.drops all))

pub returns-clause-noted : goal.returns-clause-noted
returns-clause-noted c = λ marks tree can were.
    let inside = rw (c.of.ensures.first, c.of.ensures.end) at c.in_ok-places.ensures.inside in
    note_drop c.args.noted.now.entries marks c.args.change.now c.in_ok-places.places.items can.kept.list were
    c.forget.new.self.entries c.requires.drops inside (rw c.deref-2.ensures.value at c.forget.ensures.others)
