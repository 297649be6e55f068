use Rattle.fan_script.proofs.LineLemmas.{line_from_found}
use Rattle.fan_shell.proofs.script.read_if_line.Goals as goal

pub returns-in-Ok-clause-line : goal.returns-in-Ok-clause-line
returns-in-Ok-clause-line c = line_from_found c.args.bytes.now c.in-Ok.line c.in-Ok.ensures.found
