-- The name is the last of all, and is found.
use Rattle.std.proofs.Common.{◌≡◌, ◌∙◌, ◌∷◌, ◌++◌, ◌<◌, [], ap, arith, true}
use Rattle.std.specs.Prelude.{All}
use Rattle.fan_tree.specs.Entries.{entries_of}
use Rattle.fan_tree.specs.Table.{AreKept, is_known}
use Rattle.fan_tree.specs.Tree.{DirEntry}
use Rattle.fan_tree.proofs.Named.{are_unique}
use Rattle.fan_tree.proofs.Keeping.{added_kept, added_order, few_counted, kept_ready}
use Rattle.fan_tree.proofs.names.Names.push.Goals as goal
use Rattle.fan_tree.proofs.names.Names.push.Goals.{After-add}

pub make_room-requires-clause-unique : goal.make_room-requires-clause-unique
make_room-requires-clause-unique c =
    are_unique c.reserve.new.self (rw (c.reserve.ensures.same.entries, c.self.view_is) c.requires.unique)

pub invariant_of-self-in_err-note : goal.invariant_of-self-in_err-note
invariant_of-self-in_err-note c =
    let name = c.in_ok-to_vec.ensures.items_if_clones_equal (λ x y same. same) in
    kept_ready c.self.inside.entries c.reserve.new.self c.self.inside.table c.make_room.new.self
    c.note.new.self c.self.inside.counts c.reserve-2.new.self c.args.dir c.args.name.now c.self.invariant
    c.reserve.ensures.same c.reserve.ensures.few c.reserve-2.ensures.same c.make_room.ensures
    (rw c.self.view_is c.requires.free) (rw (c.new-entry.ensures, name) at c.note.ensures.kept)

pub add-requires-clause-few : goal.add-requires-clause-few
add-requires-clause-few c =
    let name = c.in_ok-to_vec.ensures.items_if_clones_equal (λ x y same. same) in
    omega (
      arith,
      few_counted c.reserve.new.self c.note.new.self c.reserve-2.new.self c.args.dir
          (kept_ready c.self.inside.entries c.reserve.new.self c.self.inside.table c.make_room.new.self
          c.note.new.self c.self.inside.counts c.reserve-2.new.self c.args.dir c.args.name.now c.self.invariant
          c.reserve.ensures.same c.reserve.ensures.few c.reserve-2.ensures.same c.make_room.ensures
          (rw c.self.view_is c.requires.free) (rw (c.new-entry.ensures, name) at c.note.ensures.kept)),
    )

-- all is kept, and there is room for the name, before it comes
kept : (c : After-add) → AreKept c.reserve.new.self c.note.new.self c.reserve-2.new.self
kept c =
    let name = c.in_ok-to_vec.ensures.items_if_clones_equal (λ x y same. same) in
    kept_ready c.self.inside.entries c.reserve.new.self c.self.inside.table c.make_room.new.self
    c.note.new.self c.self.inside.counts c.reserve-2.new.self c.args.dir c.args.name.now c.self.invariant
    c.reserve.ensures.same c.reserve.ensures.few c.reserve-2.ensures.same c.make_room.ensures
    (rw c.self.view_is c.requires.free) (rw (c.new-entry.ensures, name) at c.note.ensures.kept)

last : (c : After-add) → All (λ entry. entry.inode < c.args.number) (entries_of c.reserve.new.self)
last c = rw (c.reserve.ensures.same.entries, c.self.view_is) c.requires.last

pub invariant_of-self-2 : goal.invariant_of-self-2
invariant_of-self-2 c =
    let name = c.in_ok-to_vec.ensures.items_if_clones_equal (λ x y same. same) in
    let known : is_known c.note.new.self c.args.number (record { dir = c.args.dir; name = c.args.name.now }) ≡ true =
    rw (c.new-entry.ensures, name) at c.in_ok-note.ensures.known in
    rw (c.add.ensures, c.set.ensures, c.new-entry.ensures, name)
    (added_kept c.reserve.new.self c.note.new.self c.reserve-2.new.self c.args.dir c.args.name.now c.args.number
    (kept c) c.requires.first c.in_ok-reserve.ensures.ok (last c) c.in_ok-reserve-2.ensures.ok known)

pub returns-clause-ok : goal.returns-clause-ok
returns-clause-ok c =
    let name = c.in_ok-to_vec.ensures.items_if_clones_equal (λ x y same. same) in
    let entry : DirEntry = record { dir = c.args.dir; name = c.args.name.now; inode = c.args.number } in
    rw (c.set.ensures, c.new-entry.ensures, name)
    (added_order c.reserve.new.self c.note.new.self c.reserve-2.new.self c.args.dir c.args.name.now c.args.number
    (kept c) c.requires.first c.in_ok-reserve.ensures.ok (last c)
    ∙ ap (λ all. all ++ entry ∷ []) (c.reserve.ensures.same.entries ∙ c.self.view_is))
