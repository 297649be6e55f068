use Rattle.fan_bulk.specs.Lines.{bulk_lines}
use Rattle.fan_bulk.proofs.ScriptLemmas.{lines_fit}
use Rattle.fan_shell.proofs.ScriptTextLemmas.{text_transcript}
use Rattle.fan_shell.proofs.laws.lines_are_a_script.Goals as goal

pub returns-clause-lines : goal.returns-clause-lines
returns-clause-lines c = text_transcript

pub returns-clause-bulk : goal.returns-clause-bulk
returns-clause-bulk c = λ seed count most. text_transcript (bulk_lines seed count) (lines_fit seed count most)
