use Rattle.std.proofs.Common.{◌∙◌, arith}
use Rattle.std.proofs.lemmas.Option.{slice_get_within}
use Rattle.fan_access.proofs.EachRound.{has_round, no_round}
use Rattle.fan_access.proofs.Turns.{none_left, same_happening, turns_left-None, turns_left-Some}
use Rattle.fan_access.proofs.turn.next_turn.Goals as goal

pub returns-in-Some-next_interest-clause-found : goal.returns-in-Some-next_interest-clause-found
returns-in-Some-next_interest-clause-found g c = λ marks shown round got.
    let found = c.in-Some-next_interest.ensures.found marks (c.loop-happening.invariant.same marks shown) in
    c.loop-happening.invariant.left marks shown
    ∙ turns_left-Some marks _ c.loop-happening.cursor.round c.loop-happening.cursor.after.0 round got
    c.in-Some.happening (same_happening _ round got c.in-Some.happening c.in-Some.ensures.found)
    c.in-Some-next_interest.interest c.order.result.0 found c.order.ensures

pub loop-happening-smaller : goal.loop-happening-smaller
loop-happening-smaller g c =
    let here = has_round _ c.in-Some.happening c.in-Some.ensures.found in
    let within = slice_get_within _ c.loop-happening.cursor.round here.0 here.1 in
    omega (arith, within)

pub loop-happening-preserved : goal.loop-happening-preserved
loop-happening-preserved g c = record {
  shown = (
    c.loop-happening.invariant.shown.0,
    c.next_interest.ensures.same c.loop-happening.invariant.shown.0 c.loop-happening.invariant.shown.1,
  );
  same = λ marks shown.
      c.next_interest.ensures.same marks (c.loop-happening.invariant.same marks shown);
  left = λ marks shown.
      let here = c.loop-happening.invariant.same marks shown in
      let is_list = g.met.C.Connectors.is_list c.loop-happening.connectors marks here in
      let none = c.in_default-next_interest.ensures.found marks here in
      let round = has_round _ c.in-Some.happening c.in-Some.ensures.found in
      c.loop-happening.invariant.left marks shown
      ∙ turns_left-None marks _ c.loop-happening.cursor.round c.loop-happening.cursor.after.0
      round.0 round.1 c.in-Some.happening round.2 is_list none;
}

pub returns-clause-found : goal.returns-clause-found
returns-clause-found g c = λ marks shown.
    c.loop-happening.invariant.left marks shown
    ∙ none_left marks _ c.loop-happening.cursor.round c.loop-happening.cursor.after.0
    (no_round _ c.in_default.ensures.found)
