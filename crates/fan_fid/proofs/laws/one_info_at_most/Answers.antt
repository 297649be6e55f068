use Rattle.fan_fid.proofs.InfoLemmas.{one-at-most}
use Rattle.fan_fid.proofs.laws.one_info_at_most.Goals as goal

pub returns : goal.returns
returns c = one-at-most
