use Rattle.std.proofs.Common.{◌∙◌}
use Rattle.fan_bits.specs.MarkWords.{perm_events}
use Rattle.fan_bits.proofs.Masks.{mask_has_any}
use Rattle.fan_bits.proofs.mask.has_perm_event.Goals as goal

pub returns : goal.returns
returns c = c.intersects.ensures tt ∙ mask_has_any perm_events c.args.bits.0
