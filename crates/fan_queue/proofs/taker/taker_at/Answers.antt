use Rattle.std.proofs.Common.{◌≡◌, ◌∙◌, ◌<◌, ap, arith, get_or, length, sym}
use Rattle.std.proofs.lemmas.List.{get_or_default}
use Rattle.fan_queue.specs.Queue.{takes}
use Rattle.fan_queue.proofs.TakerLemmas.{none_at, taker_first}
use Rattle.fan_queue.proofs.taker.taker_at.Goals as goal

pub returns-in_err-index-clause-none : goal.returns-in_err-index-clause-none
returns-in_err-index-clause-none c =
    rw c.from_residual.ensures (none_at c.args.entries.now.items c.args.event.now c.args.front c.args.number
    c.requires.numbered (λ k d within is. absurd (c.in_err-index.ensures (omega (arith, is)))))

pub returns-in_err-entry-clause-none : goal.returns-in_err-entry-clause-none
returns-in_err-entry-clause-none c =
    rw c.from_residual-in_err-entry.ensures (none_at c.args.entries.now.items c.args.event.now c.args.front
    c.args.number c.requires.numbered (λ k d within is. grind (
      arith,
      is,
      within,
      c.in_ok-index.ensures,
      c.in_err-entry.ensures.variant,
    )))

pub returns-then-takes-clause-some : goal.returns-then-takes-clause-some
returns-then-takes-clause-some c =
    let within : c.in_ok-index.index < length c.args.entries.now.items =
    grind (arith, c.in_ok-entry.ensures.variant) in
    let at : get_or c.args.entries.now.items c.in_ok-index.index c.in_ok-entry.entry.now
    ≡ c.in_ok-entry.entry.now = sym c.in_ok-entry.ensures.lookup in
    taker_first c.args.entries.now.items c.args.event.now c.in_ok-index.index c.in_ok-entry.entry.now
    c.requires.apart within (ap (takes c.args.event.now) at ∙ sym c.takes.ensures ∙ c.if-takes.true)

pub returns-else-takes-clause-none : goal.returns-else-takes-clause-none
returns-else-takes-clause-none c =
    none_at c.args.entries.now.items c.args.event.now c.args.front c.args.number c.requires.numbered
    (λ k d within is.
    let entries = c.args.entries.now.items in
    let same : k ≡ c.in_ok-index.index = omega (arith, is, c.in_ok-index.ensures) in
    let one : get_or entries k d ≡ c.in_ok-entry.entry.now =
    ap (λ i. get_or entries i d) same
    ∙ get_or_default entries c.in_ok-index.index d c.in_ok-entry.entry.now
    (omega (arith, within, same))
    ∙ sym c.in_ok-entry.ensures.lookup in
    ap (takes c.args.event.now) one ∙ sym c.takes.ensures ∙ c.if-takes.false)
