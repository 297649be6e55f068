use Rattle.fan_mounts.proofs.FirstNumbers.{first_gone, first_none, first_there}
use Rattle.fan_mounts.proofs.index.has_first.Goals as goal

pub returns-in-Some : goal.returns-in-Some
returns-in-Some c =
    let is = c.range.ensures.in_range tt in
    let begins = c.in-Some.ensures.steps in
    record {
      some = first_there c.args.by_pair.now c.args.first c.range.result is c.in-Some.pair.now _ _ begins;
      none = first_gone c.args.by_pair.now c.args.first c.range.result is c.in-Some.pair.now _ _ begins;
    }

pub returns-in-None-clause-none : goal.returns-in-None-clause-none
returns-in-None-clause-none c = λ none.
    let is = c.range.ensures.in_range tt in
    (first_none c.args.by_pair.now c.args.first c.range.result is c.in-None.ensures.steps.0)
