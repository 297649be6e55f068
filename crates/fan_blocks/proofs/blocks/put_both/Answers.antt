use Rattle.std.proofs.Common.{[], refl}
use Rattle.fan_blocks.proofs.GathersLemmas.{gathers_put, gathers_cut}
use Rattle.fan_blocks.proofs.blocks.put_both.Goals as goal

pub returns-clause-front : goal.returns-clause-front
returns-clause-front g c =
    gathers_cut (gathers_put _ _ c.args.waiting.now.items [] c.in_ok-put_out.ensures.whole refl) c.args.text.now
    c.put_all.ensures.front
