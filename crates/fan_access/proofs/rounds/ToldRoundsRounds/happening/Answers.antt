use Rattle.std.proofs.Common.{◌∙◌, inl, inr, arith}
use Rattle.fan_access.proofs.EachRound.{none_told}
use Rattle.fan_access.proofs.rounds.ToldRoundsRounds.happening.Goals as goal

pub returns-in_err-spot-clause-found : goal.returns-in_err-spot-clause-found
returns-in_err-spot-clause-found c =
    c.from_residual.ensures
    ∙ none_told _ _ _ (inl (grind (arith, c.in_err-spot.ensures.lookup)))

pub returns-in_err-report-clause-found : goal.returns-in_err-report-clause-found
returns-in_err-report-clause-found c =
    c.from_residual-in_err-report.ensures
    ∙ none_told _ _ _ (inr (grind (arith, c.in_err-report.ensures.lookup, c.told_events.ensures)))
