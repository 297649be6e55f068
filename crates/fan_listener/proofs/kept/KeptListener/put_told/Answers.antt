use Rattle.std.proofs.Common.{refl, sym}
use Rattle.fan_listener.proofs.Laws.{put-closed}
use Rattle.fan_listener.proofs.PutLemmas.{keeps-put, not_queued, put-queue, queued_as}
use Rattle.fan_listener.proofs.StoredLemmas.{stored-kept, stored-told}
use Rattle.fan_listener.proofs.kept.KeptListener.put_told.Goals as goal

pub returns-then-self-clause-ok : goal.returns-then-self-clause-ok
returns-then-self-clause-ok c = rw (← c.self.view_is) (sym (put-closed _ c.args.event.now c.if-self.true))

pub invariant_of-self-in_default : goal.invariant_of-self-in_default
invariant_of-self-in_default c =
    let outcome = c.in_ok-put.put in
    stored-kept c.self.invariant c.put_notice.new.self
    (keeps-put c.self.inside.queue c.put_notice.new.self c.args.event.now outcome c.in_ok-put.ensures.ok
    (not_queued outcome _ c.in_default.not-Queued))

pub returns-in_default : goal.returns-in_default
returns-in_default c =
    let l = c.self.inside in
    record {
      ok = rw (← c.self.view_is)
          (put-queue _ l.queue c.put_notice.new.self c.args.event.now c.in_ok-put.put c.if-self.false
          c.self.invariant.limited refl refl c.in_ok-put.ensures.ok);
      err = tt;
    }

pub invariant_of-self-2 : goal.invariant_of-self-2
invariant_of-self-2 c =
    let came = queued_as c.self.inside.queue c.put_notice.new.self c.args.event.now c.in_ok-put.put c.in-Queued.entry
    c.in_ok-put.ensures.ok c.in-Queued.is in
    rw came.1 (stored-told c.self.invariant c.args.event.now c.requires.descriptor c.requires.notice)

pub returns-clause-ok : goal.returns-clause-ok
returns-clause-ok c =
    let l = c.self.inside in
    rw (← c.self.view_is)
    (put-queue _ l.queue c.put_notice.new.self c.args.event.now c.in_ok-put.put c.if-self.false
    c.self.invariant.limited refl refl c.in_ok-put.ensures.ok)
