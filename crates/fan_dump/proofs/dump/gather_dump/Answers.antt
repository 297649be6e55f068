use Rattle.std.proofs.Common.{◌≡◌, ◌∙◌, refl, arith}
use Rattle.fan_dump.proofs.DumpLemmas.{all_came, event_came, event_cut, bad_came, bad_front, bad_cut}
use Rattle.fan_record.specs.Records.{SpellsRecord, parts_of, record_end}
use Rattle.fan_dump.proofs.dump.gather_dump.Goals as goal

pub loop-answer-preserved : goal.loop-answer-preserved
loop-answer-preserved g c =
    let kept = c.loop-answer.invariant in
    let at = c.loop-answer.records.at in
    let event = parts_of c.in-Ok.event in
    let here : SpellsRecord c.args.bytes.now at event = rw (c.in-Ok.is, kept.input) at c.in-Some.ensures.found in
    let next : c.next.new.self.at ≡ record_end c.args.bytes.now at =
    rw (c.in-Ok.is, kept.input) at c.in-Some.ensures.after in
    let written = event_came kept.written event c.deref.result.now here c.in_ok-print_event-in-Ok.ensures
    c.clear.ensures.items c.deref.ensures.value c.in_ok-push-in-Ok.ensures.ok in
    record {
      written = rw next written;
      input = c.in-Some.ensures.input ∙ kept.input;
      later = omega (arith, kept.later, c.push.ensures.cause.kept);
    }

pub returns-in_err-push-in-Ok-clause-front : goal.returns-in_err-push-in-Ok-clause-front
returns-in_err-push-in-Ok-clause-front g c =
    let kept = c.loop-answer.invariant in
    let event = parts_of c.in-Ok.event in
    let here : SpellsRecord c.args.bytes.now c.loop-answer.records.at event =
    rw (c.in-Ok.is, kept.input) at c.in-Some.ensures.found in
    event_cut kept.written event c.deref.result.now here c.in_ok-print_event-in-Ok.ensures
    c.clear.ensures.items c.deref.ensures.value c.push.ensures.front c.in_err-push-in-Ok.ensures.err

pub returns-in_err-push-in-Err-clause-front : goal.returns-in_err-push-in-Err-clause-front
returns-in_err-push-in-Err-clause-front g c =
    let kept = c.loop-answer.invariant in
    let none = rw (c.in-Err.is, kept.input) at c.in-Some.ensures.nothing in
    let said = rw (rw c.in-Err.is at c.in-Some.ensures.bad) at c.in_ok-print_bad-in-Err.ensures in
    bad_cut kept.written c.deref-in-Err.result.now (rw kept.input at c.in-Some.ensures.end).1 none said
    c.clear.ensures.items c.deref-in-Err.ensures.value c.push-in-Err.ensures.front c.in_err-push-in-Err.ensures.err

pub returns-in-Err-clause-front : goal.returns-in-Err-clause-front
returns-in-Err-clause-front g c =
    let kept = c.loop-answer.invariant in
    let none = rw (c.in-Err.is, kept.input) at c.in-Some.ensures.nothing in
    let said = rw (rw c.in-Err.is at c.in-Some.ensures.bad) at c.in_ok-print_bad-in-Err.ensures in
    bad_front kept.written c.deref-in-Err.result.now (rw kept.input at c.in-Some.ensures.end).1 none said
    c.clear.ensures.items c.deref-in-Err.ensures.value c.in_ok-push-in-Err.ensures.ok

pub returns-in-Err-clause-told : goal.returns-in-Err-clause-told
returns-in-Err-clause-told g c =
    let kept = c.loop-answer.invariant in
    let none = rw (c.in-Err.is, kept.input) at c.in-Some.ensures.nothing in
    let place = rw c.in-Err.is at c.in-Some.ensures.bad in
    let said = rw place at c.in_ok-print_bad-in-Err.ensures in
    rw place
    (bad_came kept.written c.deref-in-Err.result.now (rw kept.input at c.in-Some.ensures.end).1 none said
    c.clear.ensures.items c.deref-in-Err.ensures.value c.in_ok-push-in-Err.ensures.ok)

pub returns-clause-told : goal.returns-clause-told
returns-clause-told g c =
    let kept = c.loop-answer.invariant in
    all_came kept.written (rw kept.input at (c.next.ensures.end.0 (rw c.in_default.is refl)))
