use Rattle.std.proofs.Common.{◌∙◌, rules}
use Rattle.bitflags.specs.Sets.{known_from}
use Rattle.fan_bits.proofs.Masks.{kept_tests, mask_has_only_flags}
use Rattle.fan_bits.proofs.init.only_flags.Goals as goal

pub returns-clause-found : goal.returns-clause-found
unfolding known_from
returns-clause-found c =
    kept_tests _ c.args.flags 0xf3f (c.from_bits.ensures.known tt)
    ∙ mask_has_only_flags c.args.flags (search rules)
