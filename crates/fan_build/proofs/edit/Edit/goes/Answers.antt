use Rattle.std.proofs.Common.{◌≤◌, ◌^◌, arith, lit<}
use Rattle.std.proofs.Math.Nat.{one-le-pow, pow-le-pow_right}
use Rattle.fan_build.proofs.edit.Edit.goes.Goals as goal

pub pow-requires : goal.pow-requires
pow-requires c =
    let small : 4 ^ c.args.depth ≤ 4 ^ 8 = pow-le-pow_right (lit< tt) c.requires in
    omega arith

pub nonzero_div-result : goal.nonzero_div-result
nonzero_div-result c =
    let some : 1 ≤ 4 ^ c.args.depth = one-le-pow c.args.depth 4 (lit< tt) in
    omega (arith, c.pow.ensures)
