use Rattle.std.proofs.lemmas.Result.{on_ok_weaker}
use Rattle.fan_shell.proofs.bulk.count_round.Goals as goal

pub returns-clause-ok : goal.returns-clause-ok
returns-clause-ok c = on_ok_weaker c.count_lines.result
    (λ later done played. rw (← c.in_ok-lines.ensures.lines, ← c.deref.ensures.value) (later done played))
    c.count_lines.ensures.ok
