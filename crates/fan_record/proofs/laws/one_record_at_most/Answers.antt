use Rattle.fan_record.proofs.RecordLemmas.{one-at-most}
use Rattle.fan_record.proofs.laws.one_record_at_most.Goals as goal

pub returns : goal.returns
returns c = one-at-most
