use Rattle.std.proofs.Common.{◌∙◌, ℕ, Bool, ap}
use Rattle.std.specs.Prelude.{nat_lt}
use Rattle.std.specs.List.{list_any}
use Rattle.std.specs.Map.{values_of}
use Rattle.fan_world.specs.Opened.{OpenState, is_through}
use Rattle.fan_world.proofs.OpenLemmas.{through_counted}
use Rattle.fan_world.proofs.open_accesses.OpenAccesses.has_through.Goals as goal

pub returns : goal.returns
returns c =
    let kept = c.self.inside in
    let positive : ℕ → Bool = λ n. nat_lt 0 n in
    ap positive c.number_at.ensures
    ∙ through_counted kept.by_number.entries kept.through.entries kept.last c.self.invariant c.args.mount
    ∙ ap (λ (state : OpenState). list_any (is_through c.args.mount) (values_of state.entries)) c.self.view_is
