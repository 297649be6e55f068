use Rattle.std.proofs.Common.{◌∙◌, rules}
use Rattle.bitflags.specs.Sets.{known_from}
use Rattle.fan_bits.proofs.Masks.{kept_tests, mask_has_only_mask_bits}
use Rattle.fan_bits.proofs.mask.only_bits.Goals as goal

pub returns-clause-found : goal.returns-clause-found
unfolding known_from
returns-clause-found c =
    kept_tests _ c.args.mask 0x48071fff (c.from_bits.ensures.known tt)
    ∙ mask_has_only_mask_bits c.args.mask (search rules)
