-- The way up from an inode, step by step.
use Rattle.std.proofs.Common.{◌+◌, ◌-◌, ◌<◌, ◌∙◌, arith, sym}
use Rattle.fan_tree.proofs.Upward.{met_next}
use Rattle.fan_tree.proofs.tree.Tree.lies_within.Goals as goal

pub loop-step-preserved : goal.loop-step-preserved
loop-step-preserved c =
    let tree = c.args.self.now in
    let step = c.loop-step._step in
    let within : step < tree.next = rw (← c.self.view_is) c.loop-step-test.true in
    sym (met_next tree (tree.next - step) (tree.next - (step + 1)) c.loop-step.at c.args.dir c.in-Some.parent
    (omega (arith, within)) c.if-at-dir.false c.in-Some.ensures)
    ∙ c.loop-step.invariant
