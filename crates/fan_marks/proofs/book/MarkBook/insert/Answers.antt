use Rattle.std.proofs.Common.{◌∙◌, Some, cond, ap, arith}
use Rattle.std.specs.BTreeMap.{insert_entry, is_at}
use Rattle.std.specs.Map.{lookup}
use Rattle.fan_marks.specs.declared.keys.GroupKey.{GroupKey}
use Rattle.fan_marks.specs.declared.keys.ObjectKey.{ObjectKey}
use Rattle.fan_marks.specs.Book.{BookState}
use Rattle.fan_marks.specs.Keys.{group_cmp, object_cmp, object_key, replaced}
use Rattle.fan_marks.specs.Stored.{AreStored}
use Rattle.fan_marks.proofs.Marked.{marked_in, marked_inserted, marked_values}
use Rattle.fan_marks.proofs.StoredLemmas.{stored_absent, stored_in, stored_inserted, stored_lookup, stored_marks, stored_values}
use Rattle.fan_marks.proofs.book.MarkBook.insert.Goals as goal

pub insert_reserved-requires-clause-absent : goal.insert_reserved-requires-clause-absent
insert_reserved-requires-clause-absent c =
    let stored = stored_in c.self.inside c.args.self.now c.self.invariant c.self.view_is in
    ap (λ (key : ObjectKey). lookup (is_at (object_cmp key)) c.self.inside.by_object.entries) c.of.ensures
    ∙ stored_lookup stored (object_key c.args.mark) ∙ c.requires.absent

pub insert_reserved-requires-2-clause-absent : goal.insert_reserved-requires-2-clause-absent
insert_reserved-requires-2-clause-absent c =
    let stored = stored_in c.self.inside c.args.self.now c.self.invariant c.self.view_is in
    ap (λ (key : GroupKey). lookup (is_at (group_cmp key)) c.self.inside.by_group.entries) c.of-2.ensures
    ∙ stored_absent stored c.args.mark c.requires.fits c.requires.absent

stored : (c : goal.After-add_one) → AreStored
    (replaced c.args.self.now.marks (object_key c.args.mark) (Some c.args.mark))
    c.insert_reserved.new.self.entries c.insert_reserved-2.new.self.entries c.add_one.new.counts.entries
stored c =
    let book = c.self.inside in
    let mark = c.args.mark in
    let spare = ap (λ (book : BookState). book.spare) c.self.view_is in
    let room = c.requires.room in
    stored_inserted (stored_in book c.args.self.now c.self.invariant c.self.view_is) mark c.requires.fits
    c.requires.absent (omega (arith, spare, room))
    (c.insert_reserved.ensures.entries
    ∙ ap (λ (key : ObjectKey). insert_entry object_cmp book.by_object.entries key mark) c.of.ensures)
    (λ q. c.insert_reserved-2.ensures.found q
    ∙ ap (λ (key : GroupKey). cond (is_at (group_cmp q) key) (Some mark.class)
    (lookup (is_at (group_cmp q)) book.by_group.entries)) c.of-2.ensures)
    c.add_one.ensures

pub invariant_of-self : goal.invariant_of-self
invariant_of-self c =
    let marked = marked_in c.self.inside c.args.self.now c.self.invariant c.self.view_is in (
      stored_values (stored c),
      marked_values c.add.new.self (stored c)
          (marked_inserted c.self.inside.marked c.args.self.now.marks marked c.add.new.self c.args.mark
          c.add.ensures),
    )

pub returns-clause-marks : goal.returns-clause-marks
returns-clause-marks c = stored_marks (stored c)

pub returns-clause-whole : goal.returns-clause-whole
returns-clause-whole c = (stored_values (stored c)).whole
