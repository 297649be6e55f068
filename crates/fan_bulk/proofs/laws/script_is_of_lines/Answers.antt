use Rattle.std.proofs.Common.{◌≡◌, Some, refl, zero-add}
use Rattle.std.proofs.lemmas.List.Elements.{All-weaker}
use Rattle.std.specs.List.{join_with_byte}
use Rattle.fan_bulk.specs.Lines.{bulk_lines, first_round}
use Rattle.fan_bulk.proofs.ScriptLemmas.{descriptors_few, lines_fit, script_few}
use Rattle.fan_bulk.proofs.laws.script_is_of_lines.Goals as goal
use Rattle.fan_script.specs.Lines.{Fits, words_of}
use Rattle.fan_script.specs.Reading.{line_at}
use Rattle.fan_script.proofs.LineLemmas.{line_again}

pub returns-clause-fit : goal.returns-clause-fit
returns-clause-fit c = lines_fit

pub returns-clause-again : goal.returns-clause-again
returns-clause-again c = λ seed count most.
    All-weaker Fits (λ line. line_at (join_with_byte 32 (words_of line)) ≡ Some line)
    (λ line fits. line_again _ line (refl, fits)) (bulk_lines seed count) (lines_fit seed count most)

pub returns-clause-few : goal.returns-clause-few
returns-clause-few c = script_few

pub returns-clause-descriptors : goal.returns-clause-descriptors
returns-clause-descriptors c = λ seed count.
    rw zero-add at (descriptors_few count (first_round seed))
