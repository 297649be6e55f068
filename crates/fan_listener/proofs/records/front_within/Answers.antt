use Rattle.std.proofs.Common.{◌+◌, ◌-◌, ◌++◌, ◌∙◌, append-nil, ap, arith, sym, take}
use Rattle.fan_listener.specs.Records.{front_within}
use Rattle.fan_listener.proofs.RecordLemmas.{front_at_end, front_goes_on, front_stops}
use Rattle.fan_listener.proofs.records.front_within.Goals as goal

pub returns-then-size-bytes-clause-front : goal.returns-then-size-bytes-clause-front
returns-then-size-bytes-clause-front c =
    let index = c.loop-index.index in
    let entries = c.args.queue.now.entries in
    let none =
    front_stops index (c.args.size - c.loop-index.bytes) c.record_len-len.result entries c.in-Some.entry.now
    (sym c.in-Some.ensures) c.record_len-len.ensures.value c.if-size-bytes.true in
    sym (append-nil (take index entries)) ∙ ap (λ rest. take index entries ++ rest) (sym none)
    ∙ c.loop-index.invariant.front

pub loop-index-preserved : goal.loop-index-preserved
loop-index-preserved c =
    let len = c.record_len-len.result in
    let bytes = c.loop-index.bytes in
    record {
      front = sym (front_goes_on c.loop-index.index (c.args.size - bytes) len (c.args.size - (bytes + len))
          c.args.queue.now.entries c.in-Some.entry.now (sym c.in-Some.ensures) c.record_len-len.ensures.value
          (omega (arith, c.if-size-bytes.false, c.loop-index.invariant.within)))
          ∙ c.loop-index.invariant.front;
      within = omega (arith, c.if-size-bytes.false, c.loop-index.invariant.within);
      small = omega (arith, c.record_len-len.ensures.value, c.loop-index.invariant.small);
    }

pub returns-clause-front : goal.returns-clause-front
returns-clause-front c =
    front_at_end c.loop-index.index c.len.result (c.args.size - c.loop-index.bytes) c.args.queue.now.entries
    (front_within c.args.size c.args.queue.now.entries)
    (omega (
      arith,
      c.len.ensures.count,
      c.len-index-end.ensures.count,
      c.loop-index-test.false,
      c.loop-index.auto.index-end,
    ))
    (omega (arith, c.len-index-end.ensures.count, c.loop-index-test.false)) c.loop-index.invariant.front
