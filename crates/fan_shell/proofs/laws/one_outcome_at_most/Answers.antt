use Rattle.fan_shell.proofs.OutcomeLemmas.{one_status, one_text}
use Rattle.fan_shell.proofs.laws.one_outcome_at_most.Goals as goal

pub returns-clause-text : goal.returns-clause-text
returns-clause-text c = one_text

pub returns-clause-status : goal.returns-clause-status
returns-clause-status c = one_status
