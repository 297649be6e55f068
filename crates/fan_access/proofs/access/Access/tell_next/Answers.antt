use Rattle.std.proofs.Common.{refl, sym, subst}
use Rattle.std.specs.Prelude.{All}
use Rattle.std.proofs.lemmas.Option.{slice_get_within}
use Rattle.std.proofs.lemmas.Result.{IfOk-weaker}
use Rattle.fan_access.specs.Rounds.{told_rounds}
use Rattle.fan_access.specs.declared.spot.Spot.{Spot}
use Rattle.fan_bits.specs.Places.{IsPlace}
use Rattle.fan_access.proofs.EachRound.{rounds_inside, told_each, told_spot}
use Rattle.fan_access.proofs.Steps.{next_None, next_Some}
use Rattle.fan_access.proofs.access.Access.tell_next.Goals as goal

pub next_turn-requires-clause-places : goal.next_turn-requires-clause-places
next_turn-requires-clause-places g c =
    told_each IsPlace c.self.inside.op c.as_slice.result.now
    (subst (All (λ (spot : Spot). IsPlace spot.place)) (sym c.as_slice.ensures) c.self.invariant)

pub tell-requires-clause-spot : goal.tell-requires-clause-spot
tell-requires-clause-spot g c =
    let these = rounds_inside told_rounds _ c.args.self.now _ c.self.view_is c.as_slice.ensures in
    let here = told_spot c.args.self.now _ these c.in-Some.turn.behind.round
    c.in-Some.turn.happening (sym c.in-Some.ensures.round) in
    slice_get_within c.args.self.now.spots c.in-Some.turn.behind.round here.2.0 here.2.1

pub returns-in-Some-clause-ok : goal.returns-in-Some-clause-ok
returns-in-Some-clause-ok g c =
    IfOk-weaker c.tell.result _ _
    (λ outcome stepped marks access at shown is left.
    let these = rounds_inside told_rounds _ c.args.self.now _ c.self.view_is c.as_slice.ensures in
    let turn = c.in-Some.turn in
    let here = told_spot c.args.self.now _ these turn.behind.round turn.happening
    (sym c.in-Some.ensures.round) in
    let next = next_Some told_rounds told_each marks access c.args.self.now is at c.args.cursor _
    these left (record { happening = turn.happening; name = here.0.name; interest = turn.interest })
    turn.behind (c.in-Some.ensures.found marks shown here.0 here.1) in
    rw (next.0, sym here.2.2) (stepped marks access at here.2.0 is next.1 here.2.1)) c.tell.ensures.ok

pub returns-in-None-clause-ok : goal.returns-in-None-clause-ok
returns-in-None-clause-ok g c = λ marks access at shown is left.
    let these = rounds_inside told_rounds _ c.args.self.now _ c.self.view_is c.as_slice.ensures in
    let none = next_None told_rounds told_each marks access c.args.self.now is at c.args.cursor _
    these left (c.in-None.ensures.found marks shown) in
    rw none (record { answers = refl; listeners = refl; goes_on = is })
