-- An entry is made where there is a place for it.
use Rattle.std.proofs.Common.{ap}
use Rattle.std.proofs.lemmas.Result.{err_from_is_err_and}
use Rattle.fan_tree.specs.Tree.{IsRefused, TreeState, made}
use Rattle.fan_tree.proofs.Making.{free_place_can, made_at_place, made_refused}
use Rattle.fan_tree.proofs.tree.Tree.make.Goals as goal

pub returns-in_err-fs-clause-refused : goal.returns-in_err-fs-clause-refused
returns-in_err-fs-clause-refused c =
    let tree = c.args.self.now in
    let name = c.args.name.now in
    let p = err_from_is_err_and c.from_residual.result c.from_residual.ensures.1 in
    let why = c.in_err-fs.field-0.0 in
    let refused = made_refused tree c.args.dir name c.args.is_dir why c.in_err-fs.ensures.place in
    let at_end : IsRefused p.0 (made tree c.args.dir name c.args.is_dir) = rw p.2 refused in
    rw p.1 at_end

pub add-requires : goal.add-requires
add-requires c =
    free_place_can c.args.self.now c.args.dir c.args.name.now c.in_ok-fs.fs c.in_ok-fs.ensures.whole
    c.in_ok-fs.ensures.place

pub returns-clause-ok : goal.returns-clause-ok
returns-clause-ok c =
    let number = ap (λ (one : TreeState). one.next) c.self.view_is in
    rw (c.in_ok-add.ensures.ok, number)
    (made_at_place c.args.self.now c.args.dir c.args.name.now c.in_ok-fs.fs c.args.is_dir
    c.in_ok-fs.ensures.place)
