use Rattle.fan_event.proofs.HashLemmas.{same_hash}
use Rattle.fan_event.proofs.laws.equal_keys_have_equal_hashes.Goals as goal

pub returns : goal.returns
returns c = same_hash
