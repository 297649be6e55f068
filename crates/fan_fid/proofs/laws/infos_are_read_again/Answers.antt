use Rattle.fan_fid.proofs.AgainLemmas.{read-again}
use Rattle.fan_fid.proofs.laws.infos_are_read_again.Goals as goal

pub returns : goal.returns
returns c = read-again
