-- An entry is moved if it can be.
use Rattle.std.proofs.Common.{◌≡◌, ◌∙◌, ap}
use Rattle.std.specs.Prelude.{Err}
use Rattle.std.proofs.lemmas.Result.{err_from_is_err_and}
use Rattle.fan_tree.specs.Changes.{renamed, with_moved}
use Rattle.fan_tree.specs.Tree.{IsRefused}
use Rattle.fan_tree.proofs.Moving.{can_move, renamed_is, renamed_none, with_left}
use Rattle.fan_tree.proofs.tree.Tree.rename.Goals as goal

pub returns-in_default-clause-refused : goal.returns-in_default-clause-refused
returns-in_default-clause-refused c =
    renamed_none c.args.self.now c.args.dir c.args.name.now c.args.to c.args.new_name.now c.in_default.ensures.found

pub returns-in_err-number-clause-refused : goal.returns-in_err-number-clause-refused
returns-in_err-number-clause-refused c =
    let tree = c.args.self.now in
    let name = c.args.name.now in
    let new_name = c.args.new_name.now in
    let p = err_from_is_err_and c.from_residual.result c.from_residual.ensures.1 in
    let why = c.in_err-number.field-0.0 in
    let refused : renamed tree c.args.dir name c.args.to new_name ≡ Err why =
    renamed_is tree c.args.dir name c.in-Some.inode c.args.to new_name c.child.ensures.whole c.in-Some.ensures.found
    ∙ ap (λ can. with_left can (with_moved tree c.args.dir name c.args.to new_name)) c.in_err-number.ensures in
    let at_end : IsRefused p.0 (renamed tree c.args.dir name c.args.to new_name) = rw p.2 refused in
    rw p.1 at_end

pub move_entry-requires : goal.move_entry-requires
move_entry-requires c =
    can_move c.args.self.now c.args.dir c.args.name.now c.in-Some.inode c.args.to c.args.new_name.now
    c.in_ok-number.number c.child.ensures.whole c.in-Some.ensures.found c.in_ok-number.ensures

pub returns-clause-ok : goal.returns-clause-ok
returns-clause-ok c =
    let tree = c.args.self.now in
    let name = c.args.name.now in
    let new_name = c.args.new_name.now in
    rw c.in_ok-move_entry.ensures.ok
    (renamed_is tree c.args.dir name c.in-Some.inode c.args.to new_name c.child.ensures.whole
    c.in-Some.ensures.found
    ∙ ap (λ can. with_left can (with_moved tree c.args.dir name c.args.to new_name)) c.in_ok-number.ensures)
