-- A name goes to a cell, or to those that were spilled.
use Rattle.std.proofs.Common.{◌≡◌, ◌∙◌, ap, arith, sym, true}
use Rattle.fan_tree.specs.Cells.{group_index}
use Rattle.fan_tree.specs.Spilled.{AreSameBut, is_number, number_in}
use Rattle.fan_tree.proofs.TableLemmas.{groups_keep, is_own_number, keep_then, known_at, spilled_keep}
use Rattle.fan_tree.proofs.table.Table.note.Goals as goal

pub returns-then-place-clause-known : goal.returns-then-place-clause-known
returns-then-place-clause-known c =
    known_at c.self.inside.groups.items c.place.new.groups.items c.self.inside.spilled c.tag-tag.result
    c.group_index-index.result c.args.number c.args.entry.now c.tag-tag.ensures
    (c.group_index-index.ensures ∙ ap (group_index c.tag-tag.result) (omega (arith, c.len.ensures))) c.place.ensures.kept.count
    (c.place.ensures.placed c.if-place.true c.args.entry.now c.self.inside.spilled (sym c.tag-tag.ensures))

pub returns-then-place-clause-kept : goal.returns-then-place-clause-kept
returns-then-place-clause-kept c =
    let entry = c.args.entry.now in
    rw (← c.self.view_is)
    (groups_keep c.args.entries.now entry.dir entry.name c.self.inside.groups.items c.place.new.groups.items
    c.self.inside.spilled c.place.ensures.kept)

pub returns-in_err-insert-clause-kept : goal.returns-in_err-insert-clause-kept
returns-in_err-insert-clause-kept c =
    let entry = c.args.entry.now in
    let entries = c.args.entries.now in
    let groups = c.self.inside.groups.items in
    let placed = c.place.new.groups.items in
    let spilled = c.self.inside.spilled in
    let same : AreSameBut entry.dir entry.name spilled c.insert.new.self =
    rw (c.dir.ensures, c.name.ensures) at c.insert.ensures.others in
    rw (← c.self.view_is)
    (keep_then entries entry.dir entry.name (record { groups = groups; spilled = spilled })
    (record { groups = placed; spilled = spilled })
    (record { groups = placed; spilled = c.insert.new.self })
    (groups_keep entries entry.dir entry.name groups placed spilled c.place.ensures.kept)
    (spilled_keep entries entry.dir entry.name placed spilled c.insert.new.self same))

pub returns-clause-known : goal.returns-clause-known
returns-clause-known c =
    let entry = c.args.entry.now in
    let placed = c.place.new.groups.items in
    let later = c.spill_from.new.groups.items in
    let here : is_number c.args.number (number_in c.insert.new.self entry.dir entry.name) ≡ true =
    is_own_number c.args.number _ (rw (c.dir.ensures, c.name.ensures) at c.in_ok-insert.ensures.here) in
    known_at c.self.inside.groups.items later c.insert.new.self c.tag-tag.result
    c.group_index-index.result c.args.number entry c.tag-tag.ensures
    (c.group_index-index.ensures ∙ ap (group_index c.tag-tag.result) (omega (arith, c.len.ensures)))
    ((c.spill_from.ensures.kept c.args.entries.now).count ∙ c.place.ensures.kept.count)
    (c.spill_from.ensures.spilled entry c.args.number c.insert.new.self here)

pub returns-clause-kept : goal.returns-clause-kept
returns-clause-kept c =
    let entry = c.args.entry.now in
    let entries = c.args.entries.now in
    let groups = c.self.inside.groups.items in
    let placed = c.place.new.groups.items in
    let later = c.spill_from.new.groups.items in
    let spilled = c.self.inside.spilled in
    let same : AreSameBut entry.dir entry.name spilled c.insert.new.self =
    rw (c.dir.ensures, c.name.ensures) at c.insert.ensures.others in
    rw (← c.self.view_is)
    (keep_then entries entry.dir entry.name (record { groups = groups; spilled = spilled })
    (record { groups = placed; spilled = spilled })
    (record { groups = later; spilled = c.insert.new.self })
    (groups_keep entries entry.dir entry.name groups placed spilled c.place.ensures.kept)
    (keep_then entries entry.dir entry.name (record { groups = placed; spilled = spilled })
    (record { groups = placed; spilled = c.insert.new.self })
    (record { groups = later; spilled = c.insert.new.self })
    (spilled_keep entries entry.dir entry.name placed spilled c.insert.new.self same)
    (groups_keep entries entry.dir entry.name placed later c.insert.new.self
    (c.spill_from.ensures.kept entries))))
