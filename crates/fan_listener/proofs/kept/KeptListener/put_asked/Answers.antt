use Rattle.std.proofs.Common.{◌≡◌, ◌<◌, filter, refl, subst, sym, arith}
use Rattle.std.specs.Prelude.{All}
use Rattle.fan_listener.specs.declared.answers.Pending.{Pending}
use Rattle.fan_listener.specs.Stored.{answers_in, is_read}
use Rattle.fan_listener.proofs.Laws.{put-closed}
use Rattle.fan_listener.proofs.PutLemmas.{keeps-put, not_queued, put-queue, queued_as}
use Rattle.fan_listener.proofs.RoomLemmas.{answers_in-insert}
use Rattle.fan_listener.proofs.StoredLemmas.{asked_below, read-queued, stored-asked, stored-kept}
use Rattle.fan_listener.proofs.kept.KeptListener.put_asked.Goals as goal

pub returns-then-self-clause-ok : goal.returns-then-self-clause-ok
returns-then-self-clause-ok c = rw (← c.self.view_is) (sym (put-closed _ c.args.event.now c.if-self.true))

pub invariant_of-self-in_default : goal.invariant_of-self-in_default
invariant_of-self-in_default c =
    let outcome = c.in_ok-put.put in
    rw (c.reserve.ensures.same, c.reserve-2.ensures.same)
    (stored-kept c.self.invariant c.put_notice.new.self
    (keeps-put c.self.inside.queue c.put_notice.new.self c.args.event.now outcome c.in_ok-put.ensures.ok
    (not_queued outcome _ c.in_default.not-Queued)))

pub returns-in_default : goal.returns-in_default
returns-in_default c =
    let l = c.self.inside in
    record {
      ok = rw (← c.self.view_is, c.reserve.ensures.same, c.reserve-2.ensures.same)
          (put-queue _ l.queue c.put_notice.new.self c.args.event.now c.in_ok-put.put c.if-self.false
          c.self.invariant.limited refl refl c.in_ok-put.ensures.ok);
      never_merged = c.in_ok-put.ensures.never_merged c.requires.permission;
      err = tt;
    }

pub push_reserved-requires-clause-last : goal.push_reserved-requires-clause-last
push_reserved-requires-clause-last c =
    let P : Pending → Type 0 = λ other. other.fd < c.self.inside.ahead in
    subst (All P) (sym c.reserve.ensures.same) (asked_below c.self.invariant)

pub insert_reserved-requires-clause-absent : goal.insert_reserved-requires-clause-absent
insert_reserved-requires-clause-absent c =
    let came = queued_as c.self.inside.queue c.put_notice.new.self c.args.event.now c.in_ok-put.put c.in-Queued.entry
    c.in_ok-put.ensures.ok c.in-Queued.is in
    rw (c.reserve-2.ensures.same, came.0)
    (c.self.invariant.unused c.self.inside.queue.next_entry (omega arith))

pub invariant_of-self-2 : goal.invariant_of-self-2
invariant_of-self-2 c =
    let l = c.self.inside in
    let event = c.args.event.now in
    let came = queued_as l.queue c.put_notice.new.self event c.in_ok-put.put c.in-Queued.entry
    c.in_ok-put.ensures.ok c.in-Queued.is in
    rw (
      c.push_reserved.ensures,
      c.insert_reserved.ensures.entries,
      c.reserve.ensures.same,
      c.reserve-2.ensures.same,
      c.in_ok-copy.ensures,
      came.0,
      came.1,
    ) (stored-asked c.self.invariant event c.requires.descriptor c.requires.permission)

pub returns-clause-ok : goal.returns-clause-ok
returns-clause-ok c =
    let l = c.self.inside in
    let event = c.args.event.now in
    let came = queued_as l.queue c.put_notice.new.self event c.in_ok-put.put c.in-Queued.entry
    c.in_ok-put.ensures.ok c.in-Queued.is in
    let pending : filter (is_read l.next_fd) c.push_reserved.new.self.events
    ≡ filter (is_read l.next_fd) l.asked.events =
    rw (c.push_reserved.ensures, c.reserve.ensures.same, c.in_ok-copy.ensures, came.0)
    (read-queued c.self.invariant event c.requires.descriptor) in
    let answers : answers_in c.insert_reserved.new.self.entries ≡ answers_in l.rooms.entries =
    rw (c.insert_reserved.ensures.entries, c.reserve-2.ensures.same, came.0)
    (answers_in-insert l.queue.next_entry l.rooms.entries
    (c.self.invariant.unused l.queue.next_entry (omega arith))) in
    rw (← c.self.view_is, pending, answers, ← c.in-Queued.is)
    (put-queue _ l.queue c.put_notice.new.self event c.in_ok-put.put c.if-self.false
    c.self.invariant.limited refl refl c.in_ok-put.ensures.ok)
