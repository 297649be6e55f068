use Rattle.fan_queue.proofs.QueueLemmas.{never_merged}
use Rattle.fan_queue.proofs.laws.permission_events_are_never_merged.Goals as goal

pub returns : goal.returns
returns c = never_merged
