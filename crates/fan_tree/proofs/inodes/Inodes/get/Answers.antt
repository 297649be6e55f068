-- What is told of an inode is found in its slot.
use Rattle.std.proofs.Common.{◌<◌, ◌∙◌, ap, arith, refl, sym}
use Rattle.std.specs.Option.{option_flatten}
use Rattle.fan_tree.proofs.InodeLemmas.{none_below_slots, read_slot, told_in_slot}
use Rattle.fan_tree.proofs.inodes.Inodes.get.Goals as goal

pub returns-then-number-eq-FIRST_ROOT : goal.returns-then-number-eq-FIRST_ROOT
returns-then-number-eq-FIRST_ROOT c = rw (← c.self.view_is, c.if-number-eq-FIRST_ROOT.true) refl

pub returns-in_err-index : goal.returns-in_err-index
returns-in_err-index c =
    let below : c.args.number < 4 = omega (arith, c.in_err-index.ensures) in
    rw (← c.self.view_is)
    (c.from_residual.ensures
    ∙ sym (none_below_slots c.self.inside.slots.items c.args.number below c.if-number-eq-FIRST_ROOT.false))

pub returns : goal.returns
returns c =
    let slots = c.self.inside.slots.items in
    let index = c.in_ok-index.index in
    let slot = rw c.as_slice-slots.ensures.value at c.get.ensures.lookup in
    rw (← c.self.view_is)
    (c.flatten.ensures ∙ ap option_flatten c.copied.ensures ∙ read_slot slots index c.get.result slot
    ∙ told_in_slot slots c.args.number index (omega (arith, c.in_ok-index.ensures)))
