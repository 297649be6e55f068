use Rattle.fan_mounts.proofs.Walks.{place_rooted}
use Rattle.fan_mounts.proofs.laws.a_place_without_parent_is_a_root.Goals as goal

pub returns : goal.returns
returns c = place_rooted
