use Rattle.fan_bits.proofs.MarkLists.{changed_keeps_list}
use Rattle.fan_bits.proofs.laws.a_list_stays_a_list.Goals as goal

pub returns : goal.returns
returns c = changed_keeps_list
