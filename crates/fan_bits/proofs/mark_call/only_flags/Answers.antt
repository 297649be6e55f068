use Rattle.std.proofs.Common.{◌∙◌, rules}
use Rattle.bitflags.specs.Sets.{known_from}
use Rattle.fan_bits.proofs.Masks.{kept_tests, mask_has_only_mark_flags}
use Rattle.fan_bits.proofs.mark_call.only_flags.Goals as goal

pub returns-clause-found : goal.returns-clause-found
unfolding known_from
returns-clause-found c =
    kept_tests _ c.args.flags 0x1ff (c.from_bits.ensures.known tt)
    ∙ mask_has_only_mark_flags c.args.flags (search rules)
