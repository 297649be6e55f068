use Rattle.fan_event.proofs.HashLemmas.{descriptors_apart}
use Rattle.fan_event.proofs.laws.descriptor_keys_share_no_hash.Goals as goal

pub returns : goal.returns
returns c = descriptors_apart
