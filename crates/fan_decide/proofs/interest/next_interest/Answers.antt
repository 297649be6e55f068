use Rattle.std.proofs.Common.{◌∙◌, sym, arith}
use Rattle.fan_decide.proofs.NextLemmas.{marked_order, next_interest-none, next_interest-some, next_interest-on}
use Rattle.fan_decide.proofs.interest.next_interest.Goals as goal

pub returns-in_err-interest-clause-found : goal.returns-in_err-interest-clause-found
returns-in_err-interest-clause-found g c = λ marks shown.
    let here = c.loop-interest.invariant.same marks shown in
    let is_list = g.met.C.Connectors.is_list c.loop-interest.connectors marks here in
    let none = sym (c.next_marked.ensures.found marks here) ∙ c.in_err-interest.was in
    c.from_residual.ensures ∙ sym (c.loop-interest.invariant.passed marks shown
    ∙ next_interest-none marks is_list c.args.happening.now c.loop-interest.behind.0 none)

pub returns-then-interest-ne0-clause-found : goal.returns-then-interest-ne0-clause-found
returns-then-interest-ne0-clause-found g c = λ marks shown.
    let here = c.loop-interest.invariant.same marks shown in
    let is_list = g.met.C.Connectors.is_list c.loop-interest.connectors marks here in
    let some = sym (c.next_marked.ensures.found marks here) ∙ c.in_ok-interest.was in
    sym (c.loop-interest.invariant.passed marks shown
    ∙ next_interest-some marks is_list c.args.happening.now c.loop-interest.behind.0 c.in_ok-interest.interest
    some c.if-interest-ne0.true)

pub loop-interest-smaller : goal.loop-interest-smaller
loop-interest-smaller g c =
    let marks = c.loop-interest.invariant.shown.0 in
    let here = c.loop-interest.invariant.shown.1 in
    let is_list = g.met.C.Connectors.is_list c.loop-interest.connectors marks here in
    let some = sym (c.next_marked.ensures.found marks here) ∙ c.in_ok-interest.was in
    let order = marked_order marks is_list c.args.happening.now c.loop-interest.behind.0
    c.in_ok-interest.interest some in
    omega (arith, order, c.order-behind.ensures)

pub loop-interest-preserved : goal.loop-interest-preserved
loop-interest-preserved g c = record {
  shown = (
    c.loop-interest.invariant.shown.0,
    c.next_marked.ensures.same c.loop-interest.invariant.shown.0
        c.loop-interest.invariant.shown.1,
  );
  same = λ marks shown. c.next_marked.ensures.same marks (c.loop-interest.invariant.same marks shown);
  passed = λ marks shown.
      let here = c.loop-interest.invariant.same marks shown in
      let is_list = g.met.C.Connectors.is_list c.loop-interest.connectors marks here in
      let some = sym (c.next_marked.ensures.found marks here) ∙ c.in_ok-interest.was in
      rw c.order-behind.ensures (c.loop-interest.invariant.passed marks shown
      ∙ next_interest-on marks is_list c.args.happening.now c.loop-interest.behind.0 c.in_ok-interest.interest
      some c.if-interest-ne0.false);
}
