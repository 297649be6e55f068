use Rattle.std.proofs.Common.{arith, length-drop}
use Rattle.std.proofs.lemmas.List.{take_rest}
use Rattle.fan_io.proofs.Pieces.{put_more, front_at_failure}
use Rattle.fan_io.proofs.sink.put_all.Goals as goal

pub returns-in_err-count-clause-front : goal.returns-in_err-count-clause-front
returns-in_err-count-clause-front g c =
    front_at_failure _ _ _ c.args.bytes.now c.loop-at.at c.loop-at.invariant.put c.in_err-count.ensures.bytes

pub loop-at-preserved : goal.loop-at-preserved
loop-at-preserved g c =
    let bytes = c.args.bytes.now in
    let at = c.loop-at.at in
    let fits = rw take_rest at c.in_ok-count.ensures.within in
    let here = rw take_rest at c.in_ok-count.ensures.bytes in
    record {
      within = omega (arith, fits, length-drop at bytes);
      put = put_more _ _ _ bytes at c.in_ok-count.count c.loop-at.invariant.put here;
      later = omega (arith, c.loop-at.invariant.later, c.in_ok-count.ensures.cause.kept);
    }
