use Rattle.std.proofs.Common.{◌≤◌, length}
use Rattle.std.proofs.KnownBytes.{Consumes-whole}
use Rattle.fan_shell.specs.Outcome.{most_input, Tells, TellsFront, Completes}
use Rattle.fan_shell.proofs.CompleteLemmas.{completes}
use Rattle.fan_shell.proofs.plain.run_command.Goals as goal

pub returns-in-Ok-clause-told : goal.returns-in-Ok-clause-told
returns-in-Ok-clause-told g c = λ told.
    let left = g.S.Source.left in
    let held = g.K.Sink.held in
    Consumes-whole (left c.args.source.now) (left c.take_all.new.source) c.in-Ok.input.items
    (λ bytes. Tells c.args.command (held c.args.sink.now) (held c.write_answer.new.sink) bytes c.write_answer.result)
    c.in-Ok.ensures.whole c.in-Ok.ensures.end (rw c.deref.ensures.value at (c.write_answer.ensures.told told))

pub returns-in-Ok-clause-front : goal.returns-in-Ok-clause-front
returns-in-Ok-clause-front g c =
    let left = g.S.Source.left in
    let held = g.K.Sink.held in
    Consumes-whole (left c.args.source.now) (left c.take_all.new.source) c.in-Ok.input.items
    (λ bytes. TellsFront c.args.command (held c.args.sink.now) (held c.write_answer.new.sink) bytes)
    c.in-Ok.ensures.whole c.in-Ok.ensures.end (rw c.deref.ensures.value at c.write_answer.ensures.front)

pub returns-in-Ok-clause-complete : goal.returns-in-Ok-clause-complete
returns-in-Ok-clause-complete g c = λ no_read_fault no_write_fault.
    let left = g.S.Source.left in
    let held = g.K.Sink.held in
    Consumes-whole (left c.args.source.now) (left c.take_all.new.source) c.in-Ok.input.items
    (λ bytes. length bytes ≤ most_input
    → Completes c.args.command (held c.args.sink.now) (held c.write_answer.new.sink) bytes c.write_answer.result)
    c.in-Ok.ensures.whole c.in-Ok.ensures.end
    (λ most.
    completes c.args.command c.write_answer.result _ _ c.in-Ok.input.items c.write_answer.ensures.others
    (λ fault. no_write_fault (c.write_answer.ensures.fault fault))
    (rw c.deref.ensures.value at c.write_answer.ensures.told))
