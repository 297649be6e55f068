use Rattle.std.proofs.Common.{◌≡◌, [], true, refl}
use Rattle.fan_listener.proofs.ShutLemmas.{none_waits}
use Rattle.fan_listener.proofs.kept.KeptListener.shut.Goals as goal

pub returns : goal.returns
returns c =
    let inside = c.self.inside in
    let queue : inside.queue.entries ≡ [] = c.is_empty.ensures.0 c.if-not-is_empty.false in
    let rooms : inside.rooms.entries ≡ [] = c.is_empty-2.ensures.0 c.if-not-is_empty-2.false in
    let asked : inside.asked.events ≡ [] = none_waits inside.rooms.entries rooms inside.asked.events c.self.invariant.roomy in
    let closed : inside.closed ≡ true = c.if-not-self.false in
    rw (← c.self.view_is, queue, rooms, asked, closed, c.next_entry.ensures) refl
