use Rattle.std.proofs.Common.{◌∙◌, Some, ap}
use Rattle.std.specs.BTreeMap.{is_at}
use Rattle.std.specs.Map.{set_value}
use Rattle.fan_marks.specs.declared.keys.ObjectKey.{ObjectKey}
use Rattle.fan_marks.specs.Keys.{object_cmp, object_key, replaced}
use Rattle.fan_marks.specs.Stored.{AreStored}
use Rattle.fan_marks.proofs.Marked.{marked_in, marked_updated, marked_values}
use Rattle.fan_marks.proofs.StoredLemmas.{stored_in, stored_marks, stored_updated, stored_values}
use Rattle.fan_marks.proofs.book.MarkBook.update.Goals as goal

stored : (c : goal.After-replace) → AreStored
    (replaced c.args.self.now.marks (object_key c.args.mark) (Some c.args.mark))
    c.replace.new.self.entries c.self.inside.by_group.entries c.self.inside.counts.entries
stored c =
    let entries = c.self.inside.by_object.entries in
    stored_updated (stored_in c.self.inside c.args.self.now c.self.invariant c.self.view_is)
    c.args.mark c.requires.fits c.requires.here
    (c.replace.ensures.entries
    ∙ ap (λ (key : ObjectKey). set_value (is_at (object_cmp key)) entries c.args.mark) c.of.ensures)

pub invariant_of-self : goal.invariant_of-self
invariant_of-self c =
    let marked = marked_in c.self.inside c.args.self.now c.self.invariant c.self.view_is in (
      stored_values (stored c),
      marked_values c.self.inside.marked (stored c)
          (marked_updated c.self.inside.marked c.args.self.now.marks marked c.args.mark c.requires.here),
    )

pub returns-clause-marks : goal.returns-clause-marks
returns-clause-marks c = stored_marks (stored c)

pub returns-clause-whole : goal.returns-clause-whole
returns-clause-whole c = (stored_values (stored c)).whole
