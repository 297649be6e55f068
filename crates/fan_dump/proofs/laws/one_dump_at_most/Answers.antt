use Rattle.fan_dump.proofs.DumpLemmas.{one_bad, one_text}
use Rattle.fan_dump.proofs.laws.one_dump_at_most.Goals as goal

pub returns-clause-text : goal.returns-clause-text
returns-clause-text c = one_text

pub returns-clause-bad : goal.returns-clause-bad
returns-clause-bad c = one_bad
