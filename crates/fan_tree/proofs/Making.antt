-- How an entry is made, step by step: the tests that come before it, and what they say.
use Rattle.std.proofs.Common.{◌≡◌, ◌∙◌, ℕ, ◌≤◌, Bool, true, false, cond, List, Option, Some, None, refl, sym, arith, ltb}
use Rattle.std.specs.Prelude.{Result, Ok, Err, is_some, not, option_map}
use Rattle.std.proofs.lemmas.Bool.{not-false}
use Rattle.std.proofs.lemmas.Bool.Decides.{nat_tests}
use Rattle.fan_bits.specs.declared.errno.Errno.{Errno}
use Rattle.fan_bits.specs.declared.errno.Errno.TheVariants as errno
use Rattle.fan_tree.specs.Steps.{CanAdd, free_place, place_by}
use Rattle.fan_tree.specs.Tree.{Inode, TreeState, about_of, entry_of, inode_of, made, made_in, max_object, with_entry}
use Rattle.fan_tree.specs.Whole.{IsTree}
use Rattle.fan_tree.proofs.Found.{inode_of_number, no_name}

-- what is not there is nothing
pub none_from_is_some : {X : Type 0} (found : Option X) → is_some found ≡ false → found ≡ None
none_from_is_some None is = refl
none_from_is_some (Some x) is = absurd (cc)

-- the tests before an entry is made, in their order
abbrev tested : {A : Type 0} → Bool → Bool → Bool → A → Result A Errno
tested file taken full made =
    cond file (Err errno.Enotdir) (cond taken (Err errno.Eexist) (cond full (Err errno.Enospc) (Ok made)))

-- what holds if all tests are passed
record Passes {A : Type 0} (file taken full : Bool) (made found : A) : Type 0 where
  directory : file ≡ false
  free : taken ≡ false
  room : full ≡ false
  same : made ≡ found

tested_passes : {A : Type 0} (file taken full : Bool) (made found : A)
    → tested file taken full made ≡ Ok found → Passes file taken full made found
tested_passes true taken full made found is = absurd (cc)
tested_passes false true full made found is = absurd (cc)
tested_passes false false true made found is = absurd (cc)
tested_passes false false false made found is =
    record { directory = refl; free = refl; room = refl; same = cc }

-- a refusal doesn't depend on what would have been made
tested_err : {A B : Type 0} (file taken full : Bool) (one : A) (other : B) (why : Errno)
    → tested file taken full one ≡ Err why → tested file taken full other ≡ Err why
tested_err true taken full one other why is = cc
tested_err false true full one other why is = cc
tested_err false false true one other why is = cc
tested_err false false false one other why is = absurd (cc)

-- a directory of a filesystem can take an entry with a name, as far as look-ups say
record HasPlace (tree : TreeState) (dir : ℕ) (name : List ℕ) (fs : ℕ) : Type 0 where
  parent : Inode
  there : inode_of tree dir ≡ Some parent
  is_dir : parent.dir ≡ true
  fs_is : parent.fs ≡ fs
  free : entry_of tree dir name ≡ None
  room : tree.next ≤ max_object

place_by_ok : (found : Option Inode) (tree : TreeState) (dir : ℕ) (name : List ℕ) (fs : ℕ)
    → inode_of tree dir ≡ found → place_by (option_map about_of found) tree dir name ≡ Ok fs
    → HasPlace tree dir name fs
place_by_ok None tree dir name fs at is = absurd (cc)
place_by_ok (Some parent) tree dir name fs at is =
    let taken = is_some (entry_of tree dir name) in
    let passes = tested_passes (not parent.dir) taken (ltb max_object tree.next) parent.fs fs is in
    let room = passes.room in
    record {
      parent = parent;
      there = at;
      is_dir = not-false parent.dir passes.directory;
      fs_is = passes.same;
      free = none_from_is_some (entry_of tree dir name) passes.free;
      room = grind (arith, nat_tests, room);
    }

has_place : (tree : TreeState) (dir : ℕ) (name : List ℕ) (fs : ℕ)
    → free_place tree dir name ≡ Ok fs → HasPlace tree dir name fs
unfolding free_place
has_place tree dir name fs is = place_by_ok (inode_of tree dir) tree dir name fs refl is

can_add : (tree : TreeState) (dir : ℕ) (name : List ℕ) (fs : ℕ)
    → IsTree tree → HasPlace tree dir name fs → CanAdd tree dir name fs
can_add tree dir name fs is place = record {
  parent = place.parent;
  there = place.there;
  is_dir = place.is_dir;
  fs_is = place.fs_is;
  free = no_name tree dir name is place.free;
  room = place.room;
}

-- an entry can be added where a free place is found
pub free_place_can : (tree : TreeState) (dir : ℕ) (name : List ℕ) (fs : ℕ)
    → IsTree tree → free_place tree dir name ≡ Ok fs → CanAdd tree dir name fs
free_place_can tree dir name fs is free = can_add tree dir name fs is (has_place tree dir name fs free)

-- and that is what is made
pub made_at_place : (tree : TreeState) (dir : ℕ) (name : List ℕ) (fs : ℕ) (is_dir : Bool)
    → free_place tree dir name ≡ Ok fs
    → made tree dir name is_dir ≡ Ok (tree.next, with_entry tree dir name (record { fs = fs; dir = is_dir }))
unfolding made
made_at_place tree dir name fs is_dir free =
    let place = has_place tree dir name fs free in
    let number : place.parent.number ≡ dir = inode_of_number tree dir place.parent place.there in
    let none = place.room in
    let room : ltb max_object tree.next ≡ false = grind (arith, nat_tests) in
    rw place.there (rw (place.is_dir, number, place.free, room, place.fs_is) refl)

refused_in : (found : Option Inode) (tree : TreeState) (dir : ℕ) (name : List ℕ) (is_dir : Bool) (why : Errno)
    → inode_of tree dir ≡ found → place_by (option_map about_of found) tree dir name ≡ Err why
    → made_in found tree name is_dir ≡ Err why
refused_in None tree dir name is_dir why at is = cc
refused_in (Some parent) tree dir name is_dir why at is =
    let number : parent.number ≡ dir = inode_of_number tree dir parent at in
    let taken = is_some (entry_of tree dir name) in
    let made_so : ℕ × TreeState = (tree.next, with_entry tree parent.number name (record { fs = parent.fs; dir = is_dir })) in
    let full = ltb max_object tree.next in
    let same : entry_of tree parent.number name ≡ entry_of tree dir name = rw number refl in
    rw same (tested_err (not parent.dir) taken full parent.fs made_so why is)

-- nothing is made, for the same reason, if no place is found
pub made_refused : (tree : TreeState) (dir : ℕ) (name : List ℕ) (is_dir : Bool) (why : Errno)
    → free_place tree dir name ≡ Err why → made tree dir name is_dir ≡ Err why
unfolding made free_place
made_refused tree dir name is_dir why is = refused_in (inode_of tree dir) tree dir name is_dir why refl is

-- an entry was made: it could be added, and it was
pub record IsMade (tree : TreeState) (dir : ℕ) (name : List ℕ) (is_dir : Bool) (done : ℕ × TreeState) : Type 0
  where
    pub fs : ℕ
    pub can : CanAdd tree dir name fs
    pub is : done ≡ (tree.next, with_entry tree dir name (record { fs = fs; dir = is_dir }))

made_in_ok : (found : Option Inode) (tree : TreeState) (dir : ℕ) (name : List ℕ) (is_dir : Bool)
    (done : ℕ × TreeState)
    → IsTree tree → inode_of tree dir ≡ found → made_in found tree name is_dir ≡ Ok done
    → IsMade tree dir name is_dir done
made_in_ok None tree dir name is_dir done whole at is = absurd (cc)
made_in_ok (Some parent) tree dir name is_dir done whole at is =
    let here : parent.number ≡ dir = inode_of_number tree dir parent at in
    let taken = is_some (entry_of tree parent.number name) in
    let made_so : ℕ × TreeState = (tree.next, with_entry tree parent.number name (record { fs = parent.fs; dir = is_dir })) in
    let passes = tested_passes (not parent.dir) taken (ltb max_object tree.next) made_so done is in
    let room = passes.room in
    let place : HasPlace tree dir name parent.fs = record {
      parent = parent;
      there = at;
      is_dir = not-false parent.dir passes.directory;
      fs_is = refl;
      free = none_from_is_some (entry_of tree dir name) (rw here at passes.free);
      room = grind (arith, nat_tests, room);
    } in
    record {
      fs = parent.fs;
      can = can_add tree dir name parent.fs whole place;
      is = sym passes.same ∙ rw here refl;
    }

pub made_ok : (tree : TreeState) (dir : ℕ) (name : List ℕ) (is_dir : Bool) (done : ℕ × TreeState)
    → IsTree tree → made tree dir name is_dir ≡ Ok done → IsMade tree dir name is_dir done
unfolding made
made_ok tree dir name is_dir done whole is =
    made_in_ok (inode_of tree dir) tree dir name is_dir done whole refl is
