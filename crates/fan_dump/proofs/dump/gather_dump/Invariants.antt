use Rattle.std.proofs.Common.{◌≡◌, ◌-◌, ◌≤◌, length}
use Rattle.fan_dump.proofs.DumpLemmas.{Written}
use Rattle.fan_dump.proofs.dump.gather_dump.Given as goal

-- what was put, and then what is gathered, is what is printed before the next record
abbrev pub invariant-loop-answer : goal.invariant-loop-answer
invariant-loop-answer g l = record {
  written : Written (g.K.Sink.held l.fn.sink) (g.K.Sink.held l.sink) l.blocks.gathered l.bytes l.records.at;
  input : l.records.bytes ≡ l.bytes;
  later : g.K.Sink.faults l.fn.sink ≤ g.K.Sink.faults l.sink;
}

abbrev pub decreases-loop-answer : goal.decreases-loop-answer
decreases-loop-answer g l = length l.bytes - l.records.at
