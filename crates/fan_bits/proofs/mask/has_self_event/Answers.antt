use Rattle.std.proofs.Common.{◌∙◌, ap}
use Rattle.fan_bits.specs.MarkWords.{self_events}
use Rattle.fan_bits.specs.Words.{has_any}
use Rattle.fan_bits.proofs.Masks.{mask_has_any}
use Rattle.fan_bits.proofs.mask.has_self_event.Goals as goal

pub returns : goal.returns
returns c =
    c.intersects.ensures tt ∙ mask_has_any self_events c.from.result ∙ ap (has_any self_events) c.from.ensures
