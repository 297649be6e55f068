use Rattle.std.proofs.Common.{◌<◌, length, arith}
use Rattle.std.proofs.lemmas.Bool.Decides.{nat_tests}
use Rattle.fan_record.proofs.InfoLemmas.{goes-on, stops}
use Rattle.fan_record.proofs.infos.are_infos.Goals as goal

pub returns-in_default : goal.returns-in_default
returns-in_default c =
    let some : 0 < length c.loop-rest.rest.now = grind (arith, nat_tests) in
    stops c.args.bytes.now c.loop-rest.rest.now some c.in_default.ensures.none c.loop-rest.invariant

pub loop-rest-preserved : goal.loop-rest-preserved
loop-rest-preserved c =
    goes-on c.args.bytes.now c.loop-rest.rest.now c.in-Some.len c.in-Some.ensures.some c.loop-rest.invariant
