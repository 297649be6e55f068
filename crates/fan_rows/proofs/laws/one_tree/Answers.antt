use Rattle.fan_rows.proofs.TreeLemmas.{one_tree as lemma}
use Rattle.fan_rows.proofs.laws.one_tree.Goals as goal

pub returns : goal.returns
returns c = lemma
