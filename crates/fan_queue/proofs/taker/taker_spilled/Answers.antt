use Rattle.std.proofs.Common.{◌≡◌, ◌∙◌, false, refl, sym}
use Rattle.fan_queue.specs.Table.{number_takes}
use Rattle.fan_queue.proofs.TakerLemmas.{none_found, walk_end, walk_init, walk_past, walk_step}
use Rattle.fan_queue.proofs.taker.taker_spilled.Goals as goal

pub loop-key-init : goal.loop-key-init
loop-key-init c =
    walk_init c.args.entries.now.items c.args.event.now c.args.spilled.now.entries
    c.into_iter-key-iterator.result c.iter_from-key-items.ensures.sorted
    (c.into_iter-key-iterator.ensures.into_iter_gives ∙ c.iter_from-key-items.ensures.rest
    ∙ rw c.requires.hash refl)

pub loop-key-preserved : goal.loop-key-preserved
loop-key-preserved c =
    walk_step c.args.entries.now.items c.args.event.now c.args.spilled.now.entries c.loop-key.key-iterator
    c.next.new.self (c.in-Some.key.now, c.in-Some.field-0-1.now) c.loop-key.invariant c.in-Some.ensures.steps
    (c.if-key-hash.false ∙ c.requires.hash)
    (none_found (number_takes c.args.entries.now.items c.args.event.now c.in-Some.key.now.number ≡ false)
    c.taker_at-found.result (sym c.is_some.ensures ∙ c.if-is_some.false) c.taker_at-found.ensures.none)

pub returns-in-None-clause-none : goal.returns-in-None-clause-none
returns-in-None-clause-none c =
    walk_end c.args.entries.now.items c.args.event.now c.args.spilled.now.entries c.loop-key.key-iterator
    c.loop-key.invariant c.in-None.ensures.steps.0

pub returns-then-key-hash-clause-none : goal.returns-then-key-hash-clause-none
returns-then-key-hash-clause-none c =
    walk_past c.args.entries.now.items c.args.event.now c.args.spilled.now.entries c.loop-key.key-iterator
    c.next.new.self (c.in-Some.key.now, c.in-Some.field-0-1.now) c.loop-key.invariant c.in-Some.ensures.steps
    (λ is. c.if-key-hash.true (is ∙ sym c.requires.hash))
