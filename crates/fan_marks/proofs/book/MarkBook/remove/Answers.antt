use Rattle.std.proofs.Common.{◌∙◌, None, cond, ap, sym}
use Rattle.std.specs.Prelude.{is_some}
use Rattle.std.specs.BTreeMap.{is_at}
use Rattle.std.specs.Map.{lookup}
use Rattle.fan_marks.specs.declared.keys.GroupKey.{GroupKey}
use Rattle.fan_marks.specs.Keys.{group_cmp, replaced}
use Rattle.fan_marks.specs.Stored.{AreStored}
use Rattle.fan_marks.proofs.Marked.{marked_in, marked_removed, marked_values}
use Rattle.fan_marks.proofs.StoredLemmas.{stored_counted, stored_in, stored_lookup, stored_marks, stored_removed, stored_values}
use Rattle.fan_marks.proofs.book.MarkBook.remove.Goals as goal

pub unreachable-requires : goal.unreachable-requires
unreachable-requires c =
    let stored = stored_in c.self.inside c.args.self.now c.self.invariant c.self.view_is in
    let found = sym (stored_lookup stored c.args.key) ∙ sym c.remove.ensures.value ∙ c.in_default.is in
    let none = sym (ap is_some found) ∙ c.requires in cc

pub take_one-requires : goal.take_one-requires
take_one-requires c =
    let stored = stored_in c.self.inside c.args.self.now c.self.invariant c.self.view_is in
    stored_counted stored c.args.key c.in-Some.mark
    (sym (stored_lookup stored c.args.key) ∙ sym c.remove.ensures.value ∙ c.in-Some.is)

left : (c : goal.After-take_one) → AreStored (replaced c.args.self.now.marks c.args.key None)
    c.remove.new.self.entries c.remove-2.new.self.entries c.take_one.new.counts.entries
left c =
    let stored = stored_in c.self.inside c.args.self.now c.self.invariant c.self.view_is in
    let keys = c.self.inside.by_group.entries in
    stored_removed stored c.args.key c.in-Some.mark
    (sym (stored_lookup stored c.args.key) ∙ sym c.remove.ensures.value ∙ c.in-Some.is)
    c.remove.ensures.entries
    (λ q. c.remove-2.ensures.found q
    ∙ ap (λ (key : GroupKey). cond (is_at (group_cmp q) key) None (lookup (is_at
    (group_cmp q)) keys)) c.of.ensures)
    c.take_one.ensures

pub invariant_of-self : goal.invariant_of-self
invariant_of-self c =
    let marked = marked_in c.self.inside c.args.self.now c.self.invariant c.self.view_is in (
      stored_values (left c),
      marked_values c.self.inside.marked (left c)
          (marked_removed c.self.inside.marked c.args.self.now.marks marked c.args.key),
    )

pub returns-clause-marks : goal.returns-clause-marks
returns-clause-marks c = stored_marks (left c)

pub returns-clause-whole : goal.returns-clause-whole
returns-clause-whole c = (stored_values (left c)).whole
