use Rattle.fan_fid.proofs.InfoLemmas.{one-reading}
use Rattle.fan_fid.proofs.laws.one_reading_of_infos.Goals as goal

pub returns : goal.returns
returns c = one-reading
