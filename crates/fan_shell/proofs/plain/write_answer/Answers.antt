use Rattle.fan_shell.proofs.TranscriptLemmas.{tells_played, tells_front}
use Rattle.fan_shell.proofs.plain.write_answer.Goals as goal

pub returns-in-Script-clause-told : goal.returns-in-Script-clause-told
returns-in-Script-clause-told g c = λ told.
    rw c.in-Script.is
    (tells_played _ _ c.args.bytes.now _ (c.write_transcript.ensures.told told) (c.write_transcript.ensures.status told))

pub returns-in-Script-clause-front : goal.returns-in-Script-clause-front
returns-in-Script-clause-front g c =
    rw c.in-Script.is (tells_front _ _ c.args.bytes.now c.write_transcript.ensures.front)

pub returns-in-Dump-clause-front : goal.returns-in-Dump-clause-front
returns-in-Dump-clause-front g c = rw c.in-Dump.is c.write_records.ensures.front
