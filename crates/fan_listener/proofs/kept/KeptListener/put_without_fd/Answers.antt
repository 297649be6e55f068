use Rattle.std.proofs.Common.{◌≡◌, ◌&&◌, false, not, refl, sym}
use Rattle.fan_queue.specs.Queue.{is_full}
use Rattle.fan_listener.specs.Queue.{queue_of}
use Rattle.fan_listener.specs.Records.{has_fd}
use Rattle.fan_listener.proofs.Laws.{put-closed}
use Rattle.fan_listener.proofs.PutLemmas.{keeps-put, none_with_fd, put-queue, queue_seen}
use Rattle.fan_listener.proofs.StoredLemmas.{stored-kept}
use Rattle.fan_listener.proofs.kept.KeptListener.put_without_fd.Goals as goal

pub returns-then-self-clause-ok : goal.returns-then-self-clause-ok
returns-then-self-clause-ok c = rw (← c.self.view_is) (sym (put-closed _ c.args.event.now c.if-self.true))

pub invariant_of-self-2 : goal.invariant_of-self-2
invariant_of-self-2 c =
    let queue = c.self.inside.queue in
    let event = c.args.event.now in
    let outcome = c.in_ok-put.put in
    let same : queue ≡ queue_of c.args.self.now =
    queue_seen c.args.self.now _ queue c.self.view_is c.self.invariant.limited refl refl in
    let none : (has_fd event.target && not (is_full queue)) ≡ false = rw same c.requires.no_fd in
    stored-kept c.self.invariant c.put_notice.new.self
    (keeps-put queue c.put_notice.new.self event outcome c.in_ok-put.ensures.ok
    (none_with_fd queue c.put_notice.new.self event outcome c.in_ok-put.ensures.ok none))

pub returns-clause-ok : goal.returns-clause-ok
returns-clause-ok c =
    let l = c.self.inside in
    rw (← c.self.view_is)
    (put-queue _ l.queue c.put_notice.new.self c.args.event.now c.in_ok-put.put c.if-self.false
    c.self.invariant.limited refl refl c.in_ok-put.ensures.ok)
