use Rattle.std.proofs.Common.{◌≤◌, length, take, arith, rules}
use Rattle.std.specs.Io.KnownBytes.{Consumes}
use Rattle.fan_io.proofs.Pieces.{more_given, most_given}
use Rattle.fan_io.proofs.source.take_all.Goals as goal

pub returns-then-count-limit-clause-too_long : goal.returns-then-count-limit-clause-too_long
returns-then-count-limit-clause-too_long g c = λ _.
    let all = c.loop-count.all.items in
    let fits : c.in-Ok.count ≤ length c.take.new.into = search rules in
    let here : Consumes (g.S.Source.left c.loop-count.source) (g.S.Source.left c.take.new.self) (take c.in-Ok.count c.take.new.into) = search rules in
    more_given _ _ _ all c.take.new.into c.args.limit c.in-Ok.count c.loop-count.invariant.given here (omega (arith, c.loop-count.all.ok.0)) fits (omega (arith, c.loop-count.all.ok.0, c.len.ensures))

pub returns-then-is_err-clause-not_too_long : goal.returns-then-is_err-clause-not_too_long
returns-then-is_err-clause-not_too_long g c = λ _.
    let all = c.loop-count.all.items in
    let fits : c.in-Ok.count ≤ length c.take.new.into = search rules in
    let here : Consumes (g.S.Source.left c.loop-count.source) (g.S.Source.left c.take.new.self) (take c.in-Ok.count c.take.new.into) = search rules in
    most_given _ _ _ all c.take.new.into c.args.limit c.in-Ok.count c.loop-count.invariant.given here (omega (arith, c.loop-count.all.ok.0)) fits (omega (arith, c.loop-count.all.ok.0, c.len.ensures))
