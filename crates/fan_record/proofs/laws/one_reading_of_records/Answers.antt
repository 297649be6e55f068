use Rattle.fan_record.proofs.RecordLemmas.{one-reading}
use Rattle.fan_record.proofs.laws.one_reading_of_records.Goals as goal

pub returns : goal.returns
returns c = one-reading
