use Rattle.fan_fates.proofs.Lived.{is_made_by}
use Rattle.fan_fates.proofs.listeners.listeners_change_by_calls.Goals as goal

-- src/listeners.rt
pub returns : goal.returns
returns c = λ steps group. is_made_by steps group
