use Rattle.std.proofs.Common.{List, refl, subst, sym}
use Rattle.fan_queue.specs.declared.entry.Entry.{Entry}
use Rattle.fan_queue.specs.Queued.{CanBeQueued}
use Rattle.fan_queue.specs.QueueState.{QueueState}
use Rattle.fan_queue.specs.Table.{AreKnown}
use Rattle.fan_queue.proofs.KeptLemmas.{kept-push}
use Rattle.fan_queue.proofs.queue.Queue.push.Goals as goal

pub invariant_of-self-2 : goal.invariant_of-self-2
invariant_of-self-2 c =
    let inside = c.self.inside in
    let entry : Entry = record { number = inside.next_entry; body = c.args.body } in
    let can : CanBeQueued inside.entries.items c.args.body =
    subst (λ (state : QueueState). CanBeQueued state.entries c.args.body) (sym c.self.view_is)
    c.requires.fits in
    rw (c.push_back_reserved.ensures.items, c.reserve_for.ensures.items, c.lost_with-self-inside.ensures)
    (kept-push inside.entries.items inside.table inside.lost inside.next_entry c.self.invariant
    entry c.note_last.new.self refl can
    (subst (λ (entries : List Entry). AreKnown entries c.note_last.new.self) c.reserve_for.ensures.items
    c.note_last.ensures.kept) c.in_ok-note_last.ensures.noted)
