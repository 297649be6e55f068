use Rattle.std.proofs.Common.{◌≤◌, ◌<◌, ◌^◌, arith, drop, length, length-take, refl, subst, sym, take}
use Rattle.std.proofs.lemmas.Bool.Decides.{nat_tests}
use Rattle.std.proofs.lemmas.List.{take-append-drop}
use Rattle.fan_listener.specs.ListenerState.{ListenerState}
use Rattle.fan_listener.proofs.Bounds.{next_fd_after-le}
use Rattle.fan_listener.proofs.StoredLemmas.{read_view, stored-read}
use Rattle.fan_listener.proofs.kept.KeptListener.read_front.Goals as goal

pub invariant_of-self : goal.invariant_of-self
invariant_of-self c =
    let l = c.self.inside in
    let count = c.front_within-front.result.count in
    let front = take count l.queue.entries in
    let dropped = c.drop_front.ensures in
    let short : length front ≤ count = rw length-take (grind (arith, nat_tests)) in
    let given : l.next_fd < 2 ^ 30 =
    subst (λ (state : ListenerState). state.next_fd < 2 ^ 30) (sym c.self.view_is) c.requires in
    let small : c.in_ok-taken.taken.next_fd < 2 ^ 31 =
    omega (
      arith,
      c.in_ok-taken.ensures.next,
      next_fd_after-le l.next_fd front,
      short,
      given,
      c.front_within-front.ensures.small,
      c.ranges.size.fits,
    ) in
    stored-read c.self.invariant c.drop_front.new.queue front (drop count l.queue.entries)
    c.in_ok-taken.taken.next_fd (sym (take-append-drop count l.queue.entries)) dropped.entries
    dropped.same_limit dropped.same_next c.in_ok-taken.ensures.next small

pub returns-clause-ok : goal.returns-clause-ok
returns-clause-ok c =
    let l = c.self.inside in
    let count = c.front_within-front.result.count in
    let front = take count l.queue.entries in
    let is = c.front_within-front.ensures.front in
    let dropped = c.drop_front.ensures in
    rw (← c.self.view_is, ← is)
    (read_view _ l.asked.events front (drop count l.queue.entries) c.drop_front.new.queue.entries
    c.drop_front.new.queue.next_entry c.in_ok-taken.taken.next_fd
    (sym (take-append-drop count l.queue.entries)) dropped.entries dropped.same_next
    c.in_ok-taken.ensures.next refl c.self.invariant.waits)
