use Rattle.std.proofs.Common.{[]}
use Rattle.std.proofs.lemmas.Result.{on_ok_weaker}
use Rattle.fan_shell.proofs.bulk.count_opening.Goals as goal

pub returns-clause-ok : goal.returns-clause-ok
returns-clause-ok c = on_ok_weaker c.count_lines.result
    (λ later played. rw (← c.in_ok-lines.ensures.lines, ← c.deref.ensures.value) (later [] played))
    c.count_lines.ensures.ok
