use Rattle.std.proofs.Common.{get_or, nat_lt, sym, arith}
use Rattle.std.proofs.lemmas.Bool.Decides.{nat_tests}
use Rattle.std.proofs.lemmas.List.Quantifiers.{position-Some}
use Rattle.fan_queue.specs.Cells.{same_cell}
use Rattle.fan_queue.proofs.CellLemmas.{list_any-set, list_any-set_other, other_cell, same_cell-refl}
use Rattle.fan_queue.proofs.cells.overwrite.Goals as goal

pub returns-clause-placed : goal.returns-clause-placed
returns-clause-placed c = λ done.
    let cell = c.args.cell in
    let found = position-Some (λ other. nat_lt other.number c.args.front) c.args.cells.now c.in-Some.index cell
    (sym c.in-Some.ensures) in
    list_any-set (same_cell cell) c.args.cells.now c.in-Some.index cell found.0 (same_cell-refl cell)

pub returns-clause-kept : goal.returns-clause-kept
returns-clause-kept c = λ other above there.
    let cell = c.args.cell in
    let found = position-Some (λ other. nat_lt other.number c.args.front) c.args.cells.now c.in-Some.index cell
    (sym c.in-Some.ensures) in
    let free = found.1 in
    let old = get_or c.args.cells.now c.in-Some.index cell in
    list_any-set_other (same_cell other) c.args.cells.now c.in-Some.index cell cell
    (other_cell other old (λ same. grind (arith, nat_tests, free, above, same))) there
