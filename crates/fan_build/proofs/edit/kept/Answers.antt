use Rattle.std.proofs.Common.{◌∙◌, ap, sym}
use Rattle.fan_build.specs.Edits.{kept}
use Rattle.fan_build.proofs.edit.kept.Goals as goal

pub returns-in-Clear : goal.returns-in-Clear
returns-in-Clear c = c.cleared.ensures ∙ ap (λ change. kept change c.args.mark) (sym c.in-Clear.is)
