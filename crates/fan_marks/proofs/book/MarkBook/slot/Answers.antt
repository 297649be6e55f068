use Rattle.std.proofs.Common.{◌∙◌, ap, sym}
use Rattle.fan_bits.specs.Marks.{count_of}
use Rattle.fan_marks.specs.declared.put.Slot.{Slot}
use Rattle.fan_marks.specs.Slot.{refusal_at}
use Rattle.fan_marks.proofs.Slots.{refusal_is, slot_is}
use Rattle.fan_marks.proofs.book.MarkBook.slot.Goals as goal

pub returns-in-Some-clause-refused : goal.returns-in-Some-clause-refused
returns-in-Some-clause-refused c =
    let marks = c.args.self.now.marks in
    let slot = slot_is marks c.args.group c.args.class c.args.words c.args.object c.get-old.ensures.whole.list
    c.requires c.new-key.result c.get-old.result c.updated-new.result c.new-key.ensures c.get-old.ensures.mark
    c.updated-new.ensures in
    refusal_is marks c.args.group c.args.class c.args.words c.args.object c.args.unlimited
    ∙ ap (λ (slot : Slot). refusal_at slot.old slot.new c.args.words.verb
    (count_of marks c.args.group) c.args.unlimited)
    (sym slot) ∙ sym c.refusal_at.ensures ∙ c.in-Some.is

pub returns-in-None-clause-ok : goal.returns-in-None-clause-ok
returns-in-None-clause-ok c =
    slot_is c.args.self.now.marks c.args.group c.args.class c.args.words c.args.object
    c.get-old.ensures.whole.list
    c.requires c.new-key.result c.get-old.result c.updated-new.result c.new-key.ensures c.get-old.ensures.mark
    c.updated-new.ensures

pub returns-in-None-clause-taken : goal.returns-in-None-clause-taken
returns-in-None-clause-taken c =
    let marks = c.args.self.now.marks in
    let slot = slot_is marks c.args.group c.args.class c.args.words c.args.object c.get-old.ensures.whole.list
    c.requires c.new-key.result c.get-old.result c.updated-new.result c.new-key.ensures c.get-old.ensures.mark
    c.updated-new.ensures in
    refusal_is marks c.args.group c.args.class c.args.words c.args.object c.args.unlimited
    ∙ ap (λ (slot : Slot). refusal_at slot.old slot.new c.args.words.verb
    (count_of marks c.args.group) c.args.unlimited)
    (sym slot) ∙ sym c.refusal_at.ensures ∙ c.in-None.is
