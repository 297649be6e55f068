use Rattle.fan_script.proofs.LineLemmas.{found_from, bad_from, long_from}
use Rattle.fan_script.proofs.line.read_line.Goals as goal

pub returns-clause-found : goal.returns-clause-found
returns-clause-found c = found_from _ _ c.read_words.ensures

pub returns-clause-bad : goal.returns-clause-bad
returns-clause-bad c = bad_from _ _ c.read_words.ensures

pub returns-clause-long : goal.returns-clause-long
returns-clause-long c = long_from _ _ c.read_words.ensures
