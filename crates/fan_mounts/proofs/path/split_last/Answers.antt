use Rattle.fan_mounts.proofs.Names.{no_names, split_at_slash, split_nowhere}
use Rattle.fan_mounts.proofs.path.split_last.Goals as goal

pub returns-in_err-end-clause-none : goal.returns-in_err-end-clause-none
returns-in_err-end-clause-none c =
    rw c.from_residual.ensures (no_names c.args.path.now c.in_err-end.ensures.none)

pub returns-in-Some-clause-some : goal.returns-in-Some-clause-some
returns-in-Some-clause-some c =
    split_at_slash c.args.path.now c.in_ok-end.end c.in-Some.slash c.in_ok-end.ensures.within
    c.in_ok-end.ensures.at c.in_ok-end.ensures.behind c.in-Some.ensures.within c.in-Some.ensures.at
    c.in-Some.ensures.behind

pub returns-in-None-clause-some : goal.returns-in-None-clause-some
returns-in-None-clause-some c =
    split_nowhere c.args.path.now c.in_ok-end.end c.in_ok-end.ensures.within c.in_ok-end.ensures.behind
    c.in-None.ensures.none
