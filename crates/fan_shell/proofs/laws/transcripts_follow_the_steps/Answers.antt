use Rattle.std.proofs.Common.{ap, sym, ◌∙◌}
use Rattle.fan_machine.specs.World.{initial_world}
use Rattle.fan_shell.specs.Script.{printed}
use Rattle.fan_shell.proofs.StepLemmas.{printed_follows}
use Rattle.fan_shell.proofs.laws.transcripts_follow_the_steps.Goals as goal

pub returns : goal.returns
returns c = λ bytes text status transcript good later lines.
    sym (printed_follows good later initial_world 1)
    ∙ (ap (λ all. printed initial_world 1 all) (sym lines) ∙ transcript.said)
