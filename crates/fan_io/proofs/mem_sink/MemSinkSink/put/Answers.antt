use Rattle.std.proofs.Common.{rules, inl, inr}
use Rattle.fan_io.proofs.mem_sink.MemSinkSink.put.Goals as goal
use Rattle.fan_io.proofs.mem_sink.MemSinkSink.put.Goals.{then-contains-via-then-contains, then-contains-via-else-contains+then-is_err}

pub returns-then-contains-clause-only : goal.returns-then-contains-clause-only
returns-then-contains-clause-only c =
    elim c.then-contains.branch [
      | then-contains-via-then-contains w ↦ inl (search rules)
      | then-contains-via-else-contains+then-is_err w ↦ inr (search rules)
    ]
