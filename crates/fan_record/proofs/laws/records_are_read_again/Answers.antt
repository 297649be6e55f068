use Rattle.fan_record.proofs.RecordLemmas.{read-again}
use Rattle.fan_record.proofs.laws.records_are_read_again.Goals as goal

pub returns : goal.returns
returns c = read-again
