-- What is known of what an operation does: at which spots, what becomes of the tree, and how the marks change.
use Rattle.std.proofs.Common.{◌≡◌, ℕ, ◌≤◌, Bool, true, false, List, [], ◌∷◌, Option, Some, None, Ok, length, refl, arith}
use Rattle.std.specs.Prelude.{IfOk, is_some}
use Rattle.fan_access.specs.declared.op.Op.{Op}
use Rattle.fan_access.specs.declared.op.Op.TheVariants as ops
use Rattle.fan_access.specs.Operations.{first_mount, told_events}
use Rattle.fan_bits.specs.declared.change.Change.{Change}
use Rattle.fan_bits.specs.declared.change.Change.TheVariants.{Clear, DropObject}
use Rattle.fan_bits.specs.declared.place.Place.{Place}
use Rattle.fan_machine.specs.Deeds.{Deed, created, deed_of, entry_spot, first_change, moved_into, moves, moves_to, names_up, removes, renames, second_names, spot_by, taken, used}
use Rattle.fan_machine.specs.World.{WorldState}
use Rattle.fan_mounts.specs.Mounts.{mount_of}
use Rattle.fan_mounts.specs.Reaches.{reached}
use Rattle.fan_tree.specs.Changes.{removed, renamed}
use Rattle.fan_tree.specs.Tree.{TreeState, made}
use Rattle.fan_tree.specs.Whole.{IsTree}
use Rattle.fan_tree.proofs.Kept.{made_keeps}
use Rattle.fan_tree.proofs.Moving.{renamed_keeps}
use Rattle.fan_tree.proofs.Removing.{removed_keeps}
use Rattle.fan_laws.proofs.Attempts.{done_does, refusal_does, unless_does, was_done}
use Rattle.fan_laws.proofs.Later.{IsLater, made_later, removed_later, renamed_later}
use Rattle.fan_laws.proofs.Mounted.{reached_mount}

-- the marks change once at most, before the access takes its view of them or after it
pub data ChangesOnce : Option Change → Option Change → Type 0 where
  changes_none : ChangesOnce None None
  clears : (object : ℕ) → ChangesOnce (Some (Clear object)) None
  drops : (object : ℕ) → ChangesOnce None (Some (DropObject object))

-- a tree stays a tree, and draws no lower numbers
pub record GoesTo (tree new : TreeState) : Type 0 where
  pub whole : IsTree tree → IsTree new
  pub later : tree.next ≤ new.next

-- what is known of what an operation does
pub record IsDeed (world : WorldState) (op : Op) (deed : Deed) : Type 0 where
  pub once : ChangesOnce deed.first deed.last
  pub spots : length deed.spots ≡ length (told_events op)
  pub mounted : is_some (mount_of world.mounts (first_mount deed.spots)) ≡ true
  pub tree : GoesTo world.tree deed.tree

goes_nowhere : (tree : TreeState) → GoesTo tree tree
goes_nowhere tree = record { whole = λ whole. whole; later = omega arith }

-- what leaves the tree as it is
first_once : (op : Op) (place : Place) → ChangesOnce (first_change op place) None
first_once ops.Writes place = clears place.inode
first_once op place = changes_none

used_at : (world : WorldState) (op : Op) (names : List (List ℕ)) (place : Place)
    → length (told_events op) ≡ 1 → reached world.tree world.mounts names ≡ Ok place
    → IsDeed world op (record {
      spots = spot_by names place ∷ [];
      first = first_change op place;
      tree = world.tree;
      last = None;
    })
used_at world op names place one here = record {
  once = first_once op place;
  spots = rw one refl;
  mounted = reached_mount world.tree world.mounts names place here;
  tree = goes_nowhere world.tree;
}

used_is : (world : WorldState) (op : Op) (names : List (List ℕ)) → length (told_events op) ≡ 1
    → IfOk (used world op names) (IsDeed world op)
used_is world op names one = search (done_does, refusal_does, used_at) depth 9

-- what makes an entry
made_at : (world : WorldState) (op : Op) (is_dir : Bool) (last : List ℕ) (before : List (List ℕ)) (dir : Place)
    (new : ℕ × TreeState)
    → length (told_events op) ≡ 1 → reached world.tree world.mounts before ≡ Ok dir
    → made world.tree dir.inode last is_dir ≡ Ok new
    → IsDeed world op (record { spots = entry_spot dir last ∷ []; first = None; tree = new.1; last = None })
made_at world op is_dir last before dir new one here is = record {
  once = changes_none;
  spots = rw one refl;
  mounted = reached_mount world.tree world.mounts before dir here;
  tree = record {
    whole = λ whole. made_keeps world.tree dir.inode last is_dir new whole is;
    later = was_done (IsLater world.tree) _ new is (made_later world.tree dir.inode last is_dir);
  };
}

created_is : (world : WorldState) (op : Op) (is_dir : Bool) (names : List (List ℕ))
    → length (told_events op) ≡ 1 → IfOk (created world is_dir names) (IsDeed world op)
created_is world op is_dir [] one = tt
created_is world op is_dir (last ∷ before) one = search (done_does, made_at) depth 9

-- what removes one
taken_at : (world : WorldState) (op : Op) (place : Place) (last : List ℕ) (before : List (List ℕ)) (dir : Place)
    (left : ℕ × TreeState)
    → length (told_events op) ≡ 2 → reached world.tree world.mounts before ≡ Ok dir
    → removed world.tree dir.inode last ≡ Ok left
    → IsDeed world op (record {
      spots = entry_spot dir last ∷ spot_by (last ∷ before) place ∷ [];
      first = None;
      tree = left.1;
      last = Some (DropObject left.0);
    })
taken_at world op place last before dir left two here is = record {
  once = drops left.0;
  spots = rw two refl;
  mounted = reached_mount world.tree world.mounts before dir here;
  tree = record {
    whole = λ whole. removed_keeps world.tree dir.inode last left whole is;
    later = was_done (IsLater world.tree) _ left is (removed_later world.tree dir.inode last);
  };
}

taken_is : (world : WorldState) (op : Op) (place : Place) (names : List (List ℕ))
    → length (told_events op) ≡ 2 → IfOk (taken world place names) (IsDeed world op)
taken_is world op place [] two = tt
taken_is world op place (last ∷ before) two = search (done_does, taken_at) depth 9

removes_is : (world : WorldState) (op : Op) (names : List (List ℕ))
    → length (told_events op) ≡ 2 → IfOk (removes world op names) (IsDeed world op)
removes_is world op names two = search (done_does, refusal_does, taken_is) depth 9

-- what renames one
moved_at : (world : WorldState) (place dir : Place) (before : List (List ℕ)) (name : List ℕ) (to : Place)
    (new_name : List ℕ) (moved : ℕ × TreeState)
    → reached world.tree world.mounts before ≡ Ok dir
    → renamed world.tree dir.inode name to.inode new_name ≡ Ok moved
    → IsDeed world ops.Renames (record {
      spots =
          entry_spot dir name ∷ entry_spot to new_name
          ∷ record { place = moved_into place to; name = new_name } ∷ [];
      first = None;
      tree = moved.1;
      last = None;
    })
moved_at world place dir before name to new_name moved here is = record {
  once = changes_none;
  spots = refl;
  mounted = reached_mount world.tree world.mounts before dir here;
  tree = record {
    whole = λ whole. renamed_keeps world.tree dir.inode name to.inode new_name moved whole is;
    later = was_done (IsLater world.tree) _ moved is
        (renamed_later world.tree dir.inode name to.inode new_name);
  };
}

moves_is : (world : WorldState) (place dir : Place) (before : List (List ℕ)) (name : List ℕ) (to : Place)
    (new_name : List ℕ)
    → reached world.tree world.mounts before ≡ Ok dir
    → IfOk (moves world place dir name to new_name) (IsDeed world ops.Renames)
moves_is world place dir before name to new_name here =
    search (done_does, unless_does, moved_at) depth 9

moves_to_is : (world : WorldState) (place : Place) (names new_names : List (List ℕ))
    → IfOk (moves_to world place names new_names) (IsDeed world ops.Renames)
moves_to_is world place names [] = tt
moves_to_is world place [] (new_name ∷ above) = tt
moves_to_is world place (name ∷ before) (new_name ∷ above) = search (done_does, moves_is) depth 9

renames_is : (world : WorldState) (names new_names : List (List ℕ))
    → IfOk (renames world names new_names) (IsDeed world ops.Renames)
renames_is world names new_names = search (done_does, unless_does, moves_to_is) depth 9

-- whatever an operation does
each_is : (world : WorldState) (op : Op) (path : List ℕ) (second : Option (List ℕ))
    → IfOk (deed_of world op path second) (IsDeed world op)
unfolding deed_of
each_is world ops.Creates path second = created_is world ops.Creates false (names_up path) refl
each_is world ops.MakesDir path second = created_is world ops.MakesDir true (names_up path) refl
each_is world ops.Unlinks path second = removes_is world ops.Unlinks (names_up path) refl
each_is world ops.RemovesDir path second = removes_is world ops.RemovesDir (names_up path) refl
each_is world ops.Renames path second = renames_is world (names_up path) (second_names second)
each_is world op path second = used_is world op (names_up path) refl

pub deed_is : (world : WorldState) (op : Op) (path : List ℕ) (second : Option (List ℕ)) (deed : Deed)
    → deed_of world op path second ≡ Ok deed → IsDeed world op deed
deed_is world op path second deed is =
    was_done (IsDeed world op) (deed_of world op path second) deed is (each_is world op path second)
