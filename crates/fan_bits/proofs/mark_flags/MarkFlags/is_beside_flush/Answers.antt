use Rattle.std.proofs.Common.{◌∙◌, rules}
use Rattle.fan_bits.proofs.Masks.{mask_has_only_flush_flags}
use Rattle.fan_bits.proofs.mark_flags.MarkFlags.is_beside_flush.Goals as goal

pub returns : goal.returns
returns c = c.contains.ensures tt ∙ mask_has_only_flush_flags c.args.self.0 (search rules)
