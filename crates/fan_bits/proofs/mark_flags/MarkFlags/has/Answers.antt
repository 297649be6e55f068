use Rattle.std.proofs.Common.{◌∙◌}
use Rattle.fan_bits.proofs.Masks.{mask_occurs}
use Rattle.fan_bits.proofs.mark_flags.MarkFlags.has.Goals as goal

pub returns : goal.returns
returns c = λ number is. c.contains.ensures tt ∙ mask_occurs c.args.self.0 c.args.flag.0 number is
