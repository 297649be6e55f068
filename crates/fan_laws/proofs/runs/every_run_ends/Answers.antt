use Rattle.fan_laws.proofs.RunsEnd.{run_ends}
use Rattle.fan_laws.proofs.runs.every_run_ends.Goals as goal

-- src/runs.rt
pub returns : goal.returns
returns c = λ steps number. run_ends steps number
