-- What a walk reaches: the root of a mount, or an entry of a directory that it reached before.
use Rattle.std.proofs.Common.{◌≡◌, ◌∙◌, ℕ, ◌<◌, ◌==◌, Bool, true, false, not, cond, List, [], ◌∷◌, ◌++◌, Option, Some, None, Result, Ok, Err, is_some, reverse, refl, sym, ap, arith}
use Rattle.std.specs.Prelude.{IfOk, find, option_map}
use Rattle.std.specs.List.{AllPairs}
use Rattle.std.proofs.lemmas.Bool.Decides.{nat_tests}
use Rattle.std.proofs.lemmas.List.{reverse-append}
use Rattle.std.proofs.lemmas.Option.{same_Some}
use Rattle.fan_bits.specs.declared.errno.Errno.{Errno}
use Rattle.fan_bits.specs.declared.errno.Errno.TheVariants as errno
use Rattle.fan_bits.specs.declared.place.Place.{Place}
use Rattle.fan_bits.specs.Places.{IsObject, IsPlace}
use Rattle.fan_lists.proofs.Finds.{All-find}
use Rattle.fan_lists.proofs.Pairs.{AllPairs-head, AllPairs-tail}
use Rattle.fan_mounts.specs.declared.mount.Mount.{Mount}
use Rattle.fan_mounts.specs.Kept.{AreKept}
use Rattle.fan_mounts.specs.Mounts.{AreMounts, is_at, is_mount_root, mount_at, mount_of, root_mount}
use Rattle.fan_mounts.specs.Reaches.{Reaches, crossed, entered, names_of, over, place_of, reached, root_place, shown}
use Rattle.fan_tree.specs.declared.inode.About.{About}
use Rattle.fan_tree.specs.Tree.{Inode, TreeState, about_of, entry_of, inode_of, root_of}
use Rattle.fan_tree.specs.Whole.{IsTree}
use Rattle.fan_tree.proofs.Found.{entry_of_is, inode_of_child, inode_of_number, root_of_dir, root_of_is}

-- what is told of an inode is what a mount shows of it
pub shown_told : (tree : TreeState) (mount number : ℕ) (parent : Option ℕ) (about : About)
    → Some about ≡ option_map about_of (inode_of tree number)
    → Ok (record { mount = mount; fs = about.fs; inode = number; parent = parent; dir = about.dir })
    ≡ shown mount parent (inode_of tree number)
shown_told tree mount number parent about told = by (inode_of tree number) refl told
  where
    by : (found : Option Inode) → inode_of tree number ≡ found → Some about ≡ option_map about_of found
        → Ok (record { mount = mount; fs = about.fs; inode = number; parent = parent; dir = about.dir })
        ≡ shown mount parent found
    by None at told = absurd cc
    by (Some inode) at told =
        let same : about ≡ about_of inode = cc in
        let own : number ≡ inode.number = sym (inode_of_number tree number inode at) in
        rw (same, own) refl

-- where no mount stands, a walk stays on the inode, and else it comes to the root of the mount
pub crossed_told : (tree : TreeState) (mounts : List Mount) (dir : Place) (number : ℕ) (at : Option Mount)
    → is_some (inode_of tree number) ≡ true → at ≡ mount_at mounts dir.mount number
    → crossed tree mounts dir (inode_of tree number)
    ≡ cond (is_some at) (root_place tree at) (shown dir.mount (Some dir.inode) (inode_of tree number))
crossed_told tree mounts dir number at there is = by (inode_of tree number) refl there
  where
    over_is : (at : Option Mount) (inode : Inode)
        → over tree at dir inode
        ≡ cond (is_some at) (root_place tree at) (shown dir.mount (Some dir.inode) (Some inode))
    over_is None inode = refl
    over_is (Some mount) inode = refl

    by : (found : Option Inode) → inode_of tree number ≡ found → is_some found ≡ true
        → crossed tree mounts dir found
        ≡ cond (is_some at) (root_place tree at) (shown dir.mount (Some dir.inode) found)
    by None of there = absurd cc
    by (Some inode) of there =
        let own : inode.number ≡ number = inode_of_number tree number inode of in
        let here : mount_at mounts dir.mount inode.number ≡ at = rw own (sym is) in
        rw here (over_is at inode)

-- one name more
pub reached_more : (tree : TreeState) (mounts : List Mount) (names : List (List ℕ)) (name : List ℕ)
    (place : Place) → reached tree mounts (reverse names) ≡ Ok place
    → reached tree mounts (reverse (names ++ name ∷ [])) ≡ entered tree mounts (Ok place) name
unfolding reached
reached_more tree mounts names name place so_far = rw reverse-append (rw so_far refl)

-- if names are refused, so are they with more behind them
stuck_after : (tree : TreeState) (mounts : List Mount) (after before : List (List ℕ)) (why : Errno)
    → reached tree mounts before ≡ Err why → reached tree mounts (after ++ before) ≡ Err why
unfolding reached
stuck_after tree mounts [] before why refused = refused
stuck_after tree mounts (name ∷ after) before why refused =
    rw (stuck_after tree mounts after before why refused) refl

reached_stuck : (tree : TreeState) (mounts : List Mount) (names more : List (List ℕ)) (why : Errno)
    → reached tree mounts (reverse names) ≡ Err why → reached tree mounts (reverse (names ++ more)) ≡ Err why
reached_stuck tree mounts names more why refused =
    rw reverse-append (stuck_after tree mounts (reverse more) (reverse names) why refused)

-- what names at the front of a path's are refused for, the path is
pub place_refused : (tree : TreeState) (mounts : List Mount) (path : List ℕ) (names more : List (List ℕ))
    (why : Errno) → reached tree mounts (reverse names) ≡ Err why → names ++ more ≡ names_of path
    → Err why ≡ place_of tree mounts path
unfolding place_of
place_refused tree mounts path names more why refused whole =
    sym (ap (λ some. reached tree mounts (reverse some)) (sym whole)
    ∙ reached_stuck tree mounts names more why refused)

-- what holds of the roots of mounts, and is handed on from a directory to its entries, holds of all that
-- names reach
module _ (tree : TreeState) (mounts : List Mount) (P : Place → Type 0)
    (root : (test : Mount → Bool) (mount : Mount) (inode : Inode) → find test mounts ≡ Some mount
    → root_of tree mount.fs ≡ Some inode
    → P (record {
      mount = mount.number;
      fs = inode.fs;
      inode = inode.number;
      parent = None;
      dir = inode.dir;
    }))
    (entry : (dir : Place) (name : List ℕ) (inode : Inode) → P dir
    → entry_of tree dir.inode name ≡ Some inode → mount_at mounts dir.mount inode.number ≡ None
    → P (record {
      mount = dir.mount;
      fs = inode.fs;
      inode = inode.number;
      parent = Some dir.inode;
      dir = inode.dir;
    })) where
  root_keeps : (test : Mount → Bool) (found : Option Mount) → find test mounts ≡ found
      → IfOk (root_place tree found) P
  root_keeps test None at = tt
  root_keeps test (Some mount) at = by (root_of tree mount.fs) refl
    where
      by : (inode : Option Inode) → root_of tree mount.fs ≡ inode → IfOk (shown mount.number None inode) P
      by None is = tt
      by (Some inode) is = root test mount inode at is

  over_keeps : (dir : Place) (name : List ℕ) (inode : Inode) (at : Option Mount) → P dir
      → entry_of tree dir.inode name ≡ Some inode → mount_at mounts dir.mount inode.number ≡ at
      → IfOk (over tree at dir inode) P
  over_keeps dir name inode None own leads at = entry dir name inode own leads at
  over_keeps dir name inode (Some mount) own leads at =
      root_keeps (λ one. is_at dir.mount inode.number one.point) (Some mount) at

  crossed_keeps : (dir : Place) (name : List ℕ) (found : Option Inode) → P dir
      → entry_of tree dir.inode name ≡ found → IfOk (crossed tree mounts dir found) P
  crossed_keeps dir name None own leads = tt
  crossed_keeps dir name (Some inode) own leads =
      over_keeps dir name inode (mount_at mounts dir.mount inode.number) own leads refl

  entered_keeps : (before : Result Place Errno) (name : List ℕ) → IfOk before P
      → IfOk (entered tree mounts before name) P
  entered_keeps (Err why) name own = tt
  entered_keeps (Ok dir) name own =
      elim (not dir.dir) as (λ file. IfOk (cond file (Err errno.Enotdir)
      (crossed tree mounts dir (entry_of tree dir.inode name))) P) [
        | true ↦ tt
        | false ↦ crossed_keeps dir name (entry_of tree dir.inode name) own refl
      ]

  pub walk_keeps : (names : List (List ℕ)) → IfOk (reached tree mounts names) P
  unfolding reached
  walk_keeps [] = root_keeps (λ mount. mount.number == root_mount) (mount_of mounts root_mount) refl
  walk_keeps (last ∷ before) = entered_keeps (reached tree mounts before) last (walk_keeps before)

-- what holds of a place that names reach: it is one, through a mount that is there
pub record IsReached (mounts : List Mount) (place : Place) : Type 0 where
  pub within : IsPlace place
  pub mounted : is_some (mount_of mounts place.mount) ≡ true

-- a mount that is found is there
numbered : (mounts : List Mount) (test : Mount → Bool) (mount : Mount) → find test mounts ≡ Some mount
    → is_some (mount_of mounts mount.number) ≡ true
numbered [] test mount found = absurd cc
numbered (first ∷ more) test mount found =
    grind (arith, nat_tests, found, numbered more test mount)

-- whatever a path reaches is a place, through a mount that is there
pub place_holds : (tree : TreeState) (mounts : List Mount) (path : List ℕ) (place : Place) → IsTree tree
    → AreKept mounts → Ok place ≡ place_of tree mounts path → IsReached mounts place
unfolding place_of
place_holds tree mounts path place whole kept is =
    rw (← is) at (walk_keeps tree mounts (IsReached mounts) root entry (reverse (names_of path)))
  where
    root : (test : Mount → Bool) (mount : Mount) (inode : Inode) → find test mounts ≡ Some mount
        → root_of tree mount.fs ≡ Some inode
        → IsReached mounts (record {
          mount = mount.number;
          fs = inode.fs;
          inode = inode.number;
          parent = None;
          dir = inode.dir;
        })
    root test mount inode found at =
        let inside = root_of_is tree mount.fs inode whole at in
        let dir = root_of_dir tree mount.fs inode whole at in
        record {
          within = record {
            mount = All-find test (λ other. IsObject other.number) mounts mount kept.each found;
            fs = inside.fs;
            inode = inside.number;
            above = λ parent some. absurd cc;
            file = λ file. absurd cc;
          };
          mounted = numbered mounts test mount found;
        }

    entry : (dir : Place) (name : List ℕ) (inode : Inode) → IsReached mounts dir
        → entry_of tree dir.inode name ≡ Some inode → mount_at mounts dir.mount inode.number ≡ None
        → IsReached mounts (record {
          mount = dir.mount;
          fs = inode.fs;
          inode = inode.number;
          parent = Some dir.inode;
          dir = inode.dir;
        })
    entry dir name inode own leads free =
        let inside = entry_of_is tree dir.inode name inode whole leads in
        record {
          within = record {
            mount = own.within.mount;
            fs = inside.fs;
            inode = inside.number;
            above = λ parent some. rw (← (same_Some dir.inode parent some)) own.within.inode;
            file = λ file. refl;
          };
          mounted = own.mounted;
        }

-- a place that is no root of a mount bears no mount
record IsBare (mounts : List Mount) (place : Place) : Type 0 where
  bare : is_mount_root place ≡ false → mount_at mounts place.mount place.inode ≡ None

-- no mount stands on a place that a path reaches, unless this is the root of one
pub place_bare : (tree : TreeState) (mounts : List Mount) (path : List ℕ) (place : Place)
    → Reaches tree mounts path place → is_mount_root place ≡ false
    → mount_at mounts place.mount place.inode ≡ None
unfolding place_of
place_bare tree mounts path place is rootless =
    let all = walk_keeps tree mounts (IsBare mounts)
    (λ test mount inode found at. record { bare = λ none. absurd cc })
    (λ dir name inode own leads free. record { bare = λ none. free }) (reverse (names_of path)) in
    let own : IsBare mounts place = rw is at all in
    own.bare rootless

-- a root of a mount is that of the mount with its number
record IsRooted (tree : TreeState) (mounts : List Mount) (place : Place) : Type 0 where
  rooted : is_mount_root place ≡ true → root_place tree (mount_of mounts place.mount) ≡ Ok place

-- a mount that a search finds is the one with its number
own_number : (test : Mount → Bool) (mounts : List Mount) (mount : Mount)
    → AllPairs (λ one other. one.number < other.number) mounts
    → find test mounts ≡ Some mount → mount_of mounts mount.number ≡ Some mount
own_number test [] mount rises found = absurd cc
own_number test (first ∷ more) mount rises found =
    let R : Mount → Mount → Type 0 = λ one other. one.number < other.number in
    let rest = AllPairs-tail R first more rises in
    (elim (test first) as (λ here. cond here (Some first) (find test more) ≡ Some mount
    → mount_of (first ∷ more) mount.number ≡ Some mount) [
      | true ↦ λ same.
          let e : first ≡ mount = cc in
          let n : (first.number == mount.number) ≡ true = rw e (grind (arith, nat_tests)) in rw n same
      | false ↦ λ later.
          let above : first.number < mount.number =
          All-find test (R first) more mount (AllPairs-head R first more rises) later in
          let n : (first.number == mount.number) ≡ false = grind (arith, nat_tests) in
          rw n (own_number test more mount rest later)
    ]) found

-- a place that a path reaches, and to which no name leads, is the root of its mount
pub place_rooted : (tree : TreeState) (mounts : List Mount) (path : List ℕ) (place : Place) → AreMounts mounts
    → Reaches tree mounts path place → is_mount_root place ≡ true
    → root_place tree (mount_of mounts place.mount) ≡ Ok place
unfolding place_of
place_rooted tree mounts path place are is none =
    let all = walk_keeps tree mounts (IsRooted tree mounts)
    (λ test mount inode found at.
    record { rooted = λ none. rw (own_number test mounts mount are.rises found, at) refl })
    (λ dir name inode own leads free. record { rooted = λ none. absurd cc }) (reverse (names_of path)) in
    let own : IsRooted tree mounts place = rw is at all in
    own.rooted none

-- an entry that is told by its number is there
pub child_some : (tree : TreeState) (dir : ℕ) (name : List ℕ) (number : ℕ)
    → Some number ≡ option_map (λ inode. inode.number) (entry_of tree dir name)
    → is_some (inode_of tree number) ≡ true
child_some tree dir name number told =
    rw (inode_of_child tree dir name number (sym told)) (by (entry_of tree dir name) told)
  where
    by : (found : Option Inode) → Some number ≡ option_map (λ inode. inode.number) found
        → is_some found ≡ true
    by None told = absurd cc
    by (Some inode) told = refl
