use Rattle.std.proofs.Common.{◌≡◌, length, ap, arith}
use Rattle.std.proofs.lemmas.Bool.Decides.{nat_tests}
use Rattle.fan_shell.specs.Script.{Printed}
use Rattle.fan_shell.proofs.PlayLemmas.{leads_start, leads_more, leads_bad_all, leads_front, leads_cut, leads_so_far, leads_end}
use Rattle.fan_shell.proofs.script.gather_lines.Goals as goal

pub loop-rest-init : goal.loop-rest-init
loop-rest-init g c = record {
  leads = leads_start _ _ c.args.script.now c.args.world.now c.requires.empty c.requires.machine;
  steps = omega (arith, c.requires.steps);
  numbers = omega arith;
  later = omega arith;
}

pub returns-in-Err-clause-front : goal.returns-in-Err-clause-front
returns-in-Err-clause-front g c = leads_so_far c.loop-rest.invariant.leads

pub returns-in_err-push-clause-front : goal.returns-in_err-push-clause-front
returns-in_err-push-clause-front g c =
    let leads = c.loop-rest.invariant.leads in
    leads_cut leads c.split_line.result.0.now c.split_line.result.1.now c.split_line.ensures.lines
    (c.in-Ok.ensures.ok leads.world leads.machine)
    c.clear.ensures.items c.deref.ensures.value c.push.ensures.front c.in_err-push.ensures.err

pub returns-then-not-good-clause-front : goal.returns-then-not-good-clause-front
returns-then-not-good-clause-front g c =
    let leads = c.loop-rest.invariant.leads in
    leads_front leads c.split_line.result.0.now c.split_line.result.1.now c.split_line.ensures.lines
    (c.in-Ok.ensures.ok leads.world leads.machine)
    c.clear.ensures.items c.deref.ensures.value c.in_ok-push.ensures.ok

pub loop-rest-preserved : goal.loop-rest-preserved
loop-rest-preserved g c =
    let leads = c.loop-rest.invariant.leads in
    let long = c.in-Ok.ensures.long c.if-not-good.false in
    record {
      leads = leads_more leads c.split_line.result.0.now c.split_line.result.1.now c.split_line.ensures.lines
          (c.in-Ok.ensures.ok leads.world leads.machine)
          c.clear.ensures.items c.deref.ensures.value c.if-not-good.false c.in_ok-push.ensures.ok;
      steps = omega (arith, long, c.in-Ok.ensures.steps);
      numbers = omega (arith, c.split_line.ensures.shorter);
      later = omega (arith, c.push.ensures.cause.kept);
    }

pub returns-clause-told : goal.returns-clause-told
returns-clause-told g c = λ _.
    let leads = c.loop-rest.invariant.leads in
    let none : length c.loop-rest.rest.now ≡ 0 = grind (arith, nat_tests) in
    rw (leads_end leads none) leads.gathers

pub returns-clause-status : goal.returns-clause-status
returns-clause-status g c = λ _.
    let none : length c.loop-rest.rest.now ≡ 0 = grind (arith, nat_tests) in
    ap (λ (r : Printed). r.status) (leads_end c.loop-rest.invariant.leads none)

pub returns-clause-front : goal.returns-clause-front
returns-clause-front g c = leads_so_far c.loop-rest.invariant.leads

pub returns-then-not-good-clause-told : goal.returns-then-not-good-clause-told
returns-then-not-good-clause-told g c = λ _.
    let leads = c.loop-rest.invariant.leads in
    leads_bad_all leads c.split_line.result.0.now c.split_line.result.1.now c.split_line.ensures.lines
    (c.in-Ok.ensures.ok leads.world leads.machine)
    c.clear.ensures.items c.deref.ensures.value c.if-not-good.true c.in_ok-push.ensures.ok
