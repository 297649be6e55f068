use Rattle.std.proofs.Common.{◌∷◌, List, subst}
use Rattle.fan_queue.specs.declared.entry.Entry.{Entry}
use Rattle.fan_queue.specs.Kept.{IsKept}
use Rattle.fan_queue.proofs.KeptLemmas.{kept-rest}
use Rattle.fan_queue.proofs.queue.Queue.take.Goals as goal

pub invariant_of-self-2 : goal.invariant_of-self-2
invariant_of-self-2 c =
    let inside = c.self.inside in
    let left = c.pop_front.new.self.items in
    let kept : IsKept (c.in_ok-entry.entry ∷ left) inside.table inside.lost inside.next_entry =
    subst (λ (entries : List Entry). IsKept entries inside.table inside.lost inside.next_entry)
    c.in_ok-entry.ensures.items c.self.invariant in
    rw c.lost_without-self-inside.ensures
    (kept-rest c.in_ok-entry.entry left inside.table c.forget.new.self inside.lost
    inside.next_entry kept c.forget.ensures)
