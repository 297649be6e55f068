use Rattle.fan_fid.proofs.AgainLemmas.{targets-fill}
use Rattle.fan_fid.proofs.laws.infos_fill_a_record.Goals as goal

pub returns : goal.returns
returns c = targets-fill
