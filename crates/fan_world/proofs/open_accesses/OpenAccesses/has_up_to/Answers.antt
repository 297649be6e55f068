use Rattle.std.proofs.Common.{◌∙◌, ap, sym}
use Rattle.fan_world.specs.Opened.{OpenState}
use Rattle.fan_world.specs.Retired.{has_up_to}
use Rattle.fan_world.proofs.OpenLemmas.{least_up_to, empty_up_to}
use Rattle.fan_world.proofs.open_accesses.OpenAccesses.has_up_to.Goals as goal

pub returns-in-Some : goal.returns-in-Some
returns-in-Some c =
    sym (least_up_to c.args.number c.self.inside.by_number.entries c.in-Some.least c.in-Some.ensures.least
    c.first.ensures.sorted)
    ∙ ap (λ (state : OpenState). has_up_to state.entries c.args.number) c.self.view_is

pub returns-in-None : goal.returns-in-None
returns-in-None c =
    sym (empty_up_to c.args.number c.self.inside.by_number.entries c.in-None.ensures.least)
    ∙ ap (λ (state : OpenState). has_up_to state.entries c.args.number) c.self.view_is
