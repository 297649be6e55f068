use Rattle.fan_rows.proofs.SameLists.{one_list as lemma}
use Rattle.fan_rows.proofs.laws.one_list.Goals as goal

pub returns : goal.returns
returns c = lemma
