use Rattle.std.proofs.Common.{◌∙◌, sym}
use Rattle.fan_world.proofs.machine.Machine.step.Goals as goal
use Rattle.fan_world.proofs.machine.Machine.step.Goals.{in-Err-No, in-Ok}

pub returns-clause-shown : goal.returns-clause-shown
returns-clause-shown g c number is kept access found shown stands =
    elim c.match-attempt.branch [
      | in-Ok w ↦
          rw (w.reply-is, c.count_step.ensures)
          ((rw (w.in-Ok.is, c.self.view_is) at (c.attempt.ensures.shown number is)) kept access found shown stands)
      | in-Err-No w ↦
          let none =
          rw (w.in-Err-No.is, w.in-Err-No.field-0-is, c.self.view_is) at (c.attempt.ensures.shown number is) in
          absurd (let both = sym none ∙ found in cc)
    ]
