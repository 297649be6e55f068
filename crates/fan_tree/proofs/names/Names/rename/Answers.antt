-- The new name stands in the place of the old one.
use Rattle.std.proofs.Common.{◌≡◌, true}
use Rattle.fan_tree.specs.Table.{AreKept, is_known}
use Rattle.fan_tree.proofs.Keeping.{few_less, kept_renamed, moved_kept, moved_order, own_counted, own_within}
use Rattle.fan_tree.proofs.names.Names.rename.Goals as goal
use Rattle.fan_tree.proofs.names.Names.rename.Goals.{After-add}

pub invariant_of-self-in_err-note : goal.invariant_of-self-in_err-note
invariant_of-self-in_err-note c =
    let name = c.in_ok-to_vec.ensures.items_if_clones_equal (λ x y same. same) in
    kept_renamed c.self.inside.entries c.self.inside.table c.note.new.self c.self.inside.counts c.reserve.new.self
    c.args.to c.args.new_name.now c.self.invariant c.reserve.ensures.same (rw c.self.view_is c.requires.free)
    (rw (c.new-entry.ensures, name) at c.note.ensures.kept)

pub set-requires : goal.set-requires
set-requires c =
    own_within c.self.inside.entries c.self.inside.table c.self.inside.counts c.args.dir c.args.name.now c.args.number
    c.self.invariant (rw c.self.view_is c.requires.unique) (rw c.self.view_is c.requires.there)

pub subtract-requires : goal.subtract-requires
subtract-requires c =
    rw (c.reserve.ensures.same c.args.dir)
    (own_counted c.self.inside.entries c.self.inside.table c.self.inside.counts c.args.dir c.args.name.now
    c.args.number c.self.invariant (rw c.self.view_is c.requires.unique) (rw c.self.view_is c.requires.there))

pub add-requires-clause-few : goal.add-requires-clause-few
add-requires-clause-few c =
    let name = c.in_ok-to_vec.ensures.items_if_clones_equal (λ x y same. same) in
    rw c.subtract.ensures
    (few_less c.self.inside.entries c.note.new.self c.reserve.new.self c.args.dir c.args.name.now c.args.number
    (kept_renamed c.self.inside.entries c.self.inside.table c.note.new.self c.self.inside.counts
    c.reserve.new.self c.args.to c.args.new_name.now c.self.invariant c.reserve.ensures.same
    (rw c.self.view_is c.requires.free) (rw (c.new-entry.ensures, name) at c.note.ensures.kept))
    (rw c.self.view_is c.requires.unique) (rw c.self.view_is c.requires.there) c.args.to c.args.new_name.now
    (rw c.self.view_is c.requires.free))

-- all is kept, and there is room for the new name, before the entry is moved
kept : (c : After-add) → AreKept c.self.inside.entries c.note.new.self c.reserve.new.self
kept c =
    let name = c.in_ok-to_vec.ensures.items_if_clones_equal (λ x y same. same) in
    kept_renamed c.self.inside.entries c.self.inside.table c.note.new.self c.self.inside.counts c.reserve.new.self
    c.args.to c.args.new_name.now c.self.invariant c.reserve.ensures.same (rw c.self.view_is c.requires.free)
    (rw (c.new-entry.ensures, name) at c.note.ensures.kept)

pub invariant_of-self-2 : goal.invariant_of-self-2
invariant_of-self-2 c =
    let name = c.in_ok-to_vec.ensures.items_if_clones_equal (λ x y same. same) in
    let known : is_known c.note.new.self c.args.number (record { dir = c.args.to; name = c.args.new_name.now })
    ≡ true =
    rw (c.new-entry.ensures, name) at c.in_ok-note.ensures.known in
    rw (c.add.ensures, c.subtract.ensures, c.set.ensures, c.new-entry.ensures, name)
    (moved_kept c.self.inside.entries c.note.new.self c.reserve.new.self c.args.dir c.args.name.now c.args.number
    (kept c) (rw c.self.view_is c.requires.unique) (rw c.self.view_is c.requires.there) c.args.to
    c.args.new_name.now (rw c.self.view_is c.requires.free) c.forget.new.self c.forget.ensures known
    c.in_ok-reserve.ensures.ok)

pub returns-clause-ok : goal.returns-clause-ok
returns-clause-ok c =
    let name = c.in_ok-to_vec.ensures.items_if_clones_equal (λ x y same. same) in
    rw (← c.self.view_is, c.set.ensures, c.new-entry.ensures, name)
    (moved_order c.self.inside.entries c.note.new.self c.reserve.new.self c.args.dir c.args.name.now c.args.number
    (kept c) (rw c.self.view_is c.requires.unique) (rw c.self.view_is c.requires.there) c.args.to
    c.args.new_name.now (rw c.self.view_is c.requires.free))
