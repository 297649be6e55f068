use Rattle.fan_rows.proofs.TreeLemmas.{kept_picture as lemma}
use Rattle.fan_rows.proofs.laws.frame.Goals as goal

pub returns : goal.returns
returns c = lemma
