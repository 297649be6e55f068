use Rattle.std.proofs.Common.{◌∙◌, ap, drop}
use Rattle.std.proofs.lemmas.List.{drop-drop}
use Rattle.fan_listener.proofs.RecordLemmas.{took}
use Rattle.fan_listener.proofs.records.drop_front.Goals as goal

pub loop-preserved : goal.loop-preserved
loop-preserved c =
    let done = c.take.ensures in
    let step = took c.loop.queue c.take.new.self c.take.result done.some done.none done.same in
    record {
      left = step.0 ∙ ap (λ xs. drop 1 xs) c.loop.invariant.left
          ∙ drop-drop 1 c.loop.counter c.args.queue.now.entries;
      limit = step.1 ∙ c.loop.invariant.limit;
      next = step.2 ∙ c.loop.invariant.next;
    }
