use Rattle.std.proofs.Common.{◌+◌, ◌≤◌, ◌∙◌, ◌++◌, ap, sym, append-nil, append_assoc, arith}
use Rattle.fan_listener.specs.Records.{records, next_fd_after}
use Rattle.fan_listener.proofs.Bounds.{fd_after-le}
use Rattle.fan_listener.proofs.RecordLemmas.{front_end, front_step}
use Rattle.fan_listener.proofs.records.take_entries.Goals as goal

pub loop-index-preserved : goal.loop-index-preserved
loop-index-preserved c =
    let entry = c.in-Some.entry.now in
    let old = c.loop-index.taken in
    let done = c.in_ok-take_entry.ensures in
    let step =
    front_step c.args.front.count c.loop-index.index c.args.queue.now.entries entry c.loop-index-test.true
    (sym c.in-Some.ensures) in
    let few : c.take_entry.new.taken.next_fd ≤ c.args.first_fd + (c.loop-index.index + 1) =
    omega (arith, done.next, fd_after-le old.next_fd entry.body, c.loop-index.invariant.few) in
    record {
      bytes = rw (done.bytes, done.next, append_assoc)
          (ap (λ left. old.bytes.items ++ records old.next_fd left) (sym step)
          ∙ c.loop-index.invariant.bytes);
      next = rw done.next
          (ap (λ left. next_fd_after old.next_fd left) (sym step) ∙ c.loop-index.invariant.next);
      few = few;
    }

pub returns-clause-bytes : goal.returns-clause-bytes
returns-clause-bytes c =
    let end = front_end c.loop-index.index c.args.front.count c.args.queue.now.entries c.loop-index-test.false in
    sym (append-nil c.loop-index.taken.bytes.items)
    ∙ ap (λ left. c.loop-index.taken.bytes.items ++ records c.loop-index.taken.next_fd left) (sym end)
    ∙ c.loop-index.invariant.bytes

pub returns-clause-next : goal.returns-clause-next
returns-clause-next c =
    let end = front_end c.loop-index.index c.args.front.count c.args.queue.now.entries c.loop-index-test.false in
    ap (λ left. next_fd_after c.loop-index.taken.next_fd left) (sym end) ∙ c.loop-index.invariant.next
