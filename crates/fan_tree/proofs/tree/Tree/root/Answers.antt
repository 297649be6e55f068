-- A root is found by its number.
use Rattle.std.proofs.Common.{◌+◌, ◌≤◌, ◌∙◌, arith, sym}
use Rattle.fan_tree.proofs.Found.{no_root, no_root_from, other_root, own_root}
use Rattle.fan_tree.proofs.tree.Tree.root.Goals as goal

pub returns-in_err-checked_add-clause-found : goal.returns-in_err-checked_add-clause-found
returns-in_err-checked_add-clause-found c =
    let above : 65536 ≤ c.args.fs + 1 = omega (arith, c.in_err-checked_add.ensures) in
    rw (← c.self.view_is)
    (c.from_residual.ensures ∙ sym (no_root_from _ c.args.fs c.self.invariant above))

pub returns-in_err-root-clause-found : goal.returns-in_err-root-clause-found
returns-in_err-root-clause-found c =
    let number = c.args.fs + 1 in
    let none = rw c.in_ok-checked_add.ensures.1 at c.in_err-root.ensures in
    rw (← c.self.view_is)
    (c.from_residual-in_err-root.ensures
    ∙ sym (no_root _ c.args.fs c.self.invariant none))

pub returns-then-root-fs-clause-found : goal.returns-then-root-fs-clause-found
returns-then-root-fs-clause-found c =
    let number = c.args.fs + 1 in
    let some = rw c.in_ok-checked_add.ensures.1 at c.in_ok-root.ensures in
    rw (← c.self.view_is)
    (sym (other_root _ c.args.fs c.in_ok-root.root c.self.invariant
    some c.if-root-fs.true))

pub returns-clause-found : goal.returns-clause-found
returns-clause-found c =
    let number = c.args.fs + 1 in
    let some = rw c.in_ok-checked_add.ensures.1 at c.in_ok-root.ensures in
    rw (← c.self.view_is)
    (sym (own_root _ c.args.fs c.in_ok-root.root c.self.invariant
    some c.if-root-fs.false))
