use Rattle.fan_text.proofs.BytesLemmas.{bytes_again}
use Rattle.fan_text.proofs.laws.bytes_are_read_again.Goals as goal

pub returns : goal.returns
returns c = bytes_again
