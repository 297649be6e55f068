use Rattle.fan_queue.proofs.QueueLemmas.{put_keeps, take_keeps}
use Rattle.fan_queue.proofs.laws.a_queue_stays_a_queue.Goals as goal

pub returns : goal.returns
returns c = record { put = put_keeps; taken = take_keeps }
