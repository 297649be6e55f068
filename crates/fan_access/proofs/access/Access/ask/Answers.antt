use Rattle.std.proofs.Common.{refl, sym, subst}
use Rattle.fan_access.specs.Kept.{IsAccess}
use Rattle.fan_access.proofs.Steps.{asks_step, never_merged}
use Rattle.fan_access.proofs.access.Access.ask.Goals as goal

pub asked_outcome-requires : goal.asked_outcome-requires
asked_outcome-requires g c = never_merged _ _ _ _ _ (λ flags. refl) c.in_ok-put.ensures.ok

pub returns-clause-ok : goal.returns-clause-ok
returns-clause-ok g c = λ marks access at spot is left got.
    let turn = c.args.turn in
    rw (c.asked_outcome.ensures, sym (c.name-name.ensures.value spot got))
    (asks_step marks _ access (subst (λ kept. IsAccess marks kept access) (sym c.self.view_is) is)
    (record { happening = turn.happening; name = c.name-name.result.now; interest = turn.interest })
    at _ _ c.in_ok-put.put c.in_ok-put.ensures.ok _ (c.phase_after_ask-self-inside.ensures access at left))
