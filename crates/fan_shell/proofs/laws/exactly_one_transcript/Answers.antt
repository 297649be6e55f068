use Rattle.std.proofs.Common.{ap, sym, ◌∙◌}
use Rattle.fan_shell.specs.Playing.{play}
use Rattle.fan_shell.specs.Script.{Printed}
use Rattle.fan_shell.proofs.CompleteLemmas.{plays_well}
use Rattle.fan_shell.proofs.TranscriptLemmas.{transcript_of, transcript_is}
use Rattle.fan_shell.proofs.laws.exactly_one_transcript.Goals as goal

pub returns-clause-some : goal.returns-clause-some
returns-clause-some c = λ bytes. ((play bytes).text, (play bytes).status, transcript_of bytes)

pub returns-clause-one_text : goal.returns-clause-one_text
returns-clause-one_text c = λ bytes a b p q first second.
    ap (λ (r : Printed). r.text) (sym (transcript_is bytes a p first) ∙ transcript_is bytes b q second)

pub returns-clause-one_status : goal.returns-clause-one_status
returns-clause-one_status c = λ bytes a b p q first second.
    ap (λ (r : Printed). r.status) (sym (transcript_is bytes a p first) ∙ transcript_is bytes b q second)

pub returns-clause-valid : goal.returns-clause-valid
returns-clause-valid c = λ bytes text status transcript valid.
    ap (λ (r : Printed). r.status) (sym (transcript_is bytes text status transcript)) ∙ plays_well bytes valid
