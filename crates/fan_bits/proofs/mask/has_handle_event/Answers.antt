use Rattle.std.proofs.Common.{◌∙◌}
use Rattle.fan_bits.specs.MarkWords.{handle_events}
use Rattle.fan_bits.proofs.Masks.{mask_has_any}
use Rattle.fan_bits.proofs.mask.has_handle_event.Goals as goal

pub returns : goal.returns
returns c = c.intersects.ensures tt ∙ mask_has_any handle_events c.args.bits.0
