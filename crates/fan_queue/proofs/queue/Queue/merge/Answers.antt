use Rattle.std.proofs.Common.{◌≡◌, ◌∙◌, None, find, subst, sym}
use Rattle.fan_lists.proofs.Finds.{find_from_position}
use Rattle.fan_queue.specs.Queue.{takes}
use Rattle.fan_queue.specs.Queued.{AreQueued}
use Rattle.fan_queue.proofs.KeptLemmas.{kept-merge}
use Rattle.fan_queue.proofs.queue.Queue.merge.Goals as goal

pub taker-requires-clause-queued : goal.taker-requires-clause-queued
taker-requires-clause-queued c =
    let entries = c.self.inside.entries.items in
    subst (λ next. AreQueued next entries) c.front_number-front.ensures c.self.invariant.queued

pub returns-in_err-index-clause-none : goal.returns-in_err-index-clause-none
returns-in_err-index-clause-none c =
    let none : find (takes c.args.event.now) c.self.inside.entries.items ≡ None =
    find_from_position (takes c.args.event.now) c.self.inside.entries.items
    (sym c.taker.ensures ∙ c.in_err-index.was) in
    rw (c.from_residual.ensures, ← c.self.view_is) none

pub invariant_of-self : goal.invariant_of-self
invariant_of-self c =
    let inside = c.self.inside in
    rw c.merge_at.ensures.entries
    (kept-merge inside.entries.items inside.table inside.lost inside.next_entry c.self.invariant
    c.args.event.now)
