use Rattle.std.proofs.Common.{ap, ◌∙◌, sym}
use Rattle.std.proofs.lemmas.Result.{IfOk-weaker}
use Rattle.fan_access.proofs.Steps.{step_asking, step_telling, step_waiting}
use Rattle.fan_access.proofs.access.Access.step.Goals as goal

pub returns-in-Asking-clause-ok : goal.returns-in-Asking-clause-ok
returns-in-Asking-clause-ok g c =
    IfOk-weaker c.ask_next.result _ _
    (λ outcome stepped marks access shown is.
    let here = step_asking marks _ access is _ (ap (λ k. k.phase) (sym c.self.view_is) ∙ c.in-Asking.is) in
    rw here.2 (stepped marks access here.0 shown is here.1)) c.ask_next.ensures.ok

pub returns-in-Waiting-clause-ok : goal.returns-in-Waiting-clause-ok
returns-in-Waiting-clause-ok g c = λ marks access shown is.
    let here = step_waiting marks _ access is _ _ _
    (ap (λ k. k.phase) (sym c.self.view_is) ∙ c.in-Waiting.is) in
    rw here.2 (c.look.ensures.outcome marks access here.0 is here.1)

pub returns-in-Telling-clause-ok : goal.returns-in-Telling-clause-ok
returns-in-Telling-clause-ok g c =
    IfOk-weaker c.tell_next.result _ _
    (λ outcome stepped marks access shown is.
    let here = step_telling marks _ access is _ (ap (λ k. k.phase) (sym c.self.view_is) ∙ c.in-Telling.is) in
    rw here.2 (stepped marks access here.0 shown is here.1)) c.tell_next.ensures.ok
