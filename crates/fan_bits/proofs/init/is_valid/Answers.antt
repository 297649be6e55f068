use Rattle.std.proofs.Common.{◌∙◌, ◌&&◌, ap}
use Rattle.fan_bits.specs.Words.{is_init_flags, agree}
use Rattle.fan_bits.proofs.init.is_valid.Goals as goal

pub returns-in-Some : goal.returns-in-Some
unfolding is_init_flags
returns-in-Some c =
    c.agree.ensures ∙ ap agree c.in-Some.ensures.given ∙ ap
    (λ only. only && agree c.args.flags) c.in-Some.ensures.found

pub returns-in-None : goal.returns-in-None
unfolding is_init_flags
returns-in-None c = ap (λ only. only && agree c.args.flags) c.in-None.ensures.found
