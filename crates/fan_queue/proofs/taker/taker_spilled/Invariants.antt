use Rattle.fan_queue.proofs.TakerLemmas.{IsWalk}
use Rattle.fan_queue.proofs.taker.taker_spilled.Given as goal

abbrev pub invariant-loop-key : goal.invariant-loop-key
invariant-loop-key l = IsWalk l.entries.items l.event l.spilled.entries l.key-iterator
