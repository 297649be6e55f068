-- The mount of what a path reaches is there, and stays there while an access was begun through it.
use Rattle.std.proofs.Common.{◌≡◌, ◌∙◌, ℕ, Bool, true, false, cond, List, [], ◌∷◌, ◌++◌, Option, Some, None, Result, Ok, Err, refl, sym, ap, subst, not, get_or}
use Rattle.std.proofs.lemmas.Bool.{cond_both, eq-eqb, eqb-true, ne_eqb}
use Rattle.std.proofs.lemmas.List.Folds.{list_any_at}
use Rattle.std.specs.Prelude.{◌==◌, All, IfOk, IfSome, filter, find, is_none, is_some}
use Rattle.fan_bits.specs.declared.errno.Errno.{Errno}
use Rattle.fan_bits.specs.declared.errno.Errno.TheVariants as errno
use Rattle.fan_bits.specs.declared.place.Place.{Place}
use Rattle.fan_lists.proofs.Finds.{IfSome-find, is_some-find}
use Rattle.fan_mounts.specs.declared.mount.Mount.{Mount}
use Rattle.fan_mounts.specs.Mounts.{carries, is_at, mount_at, mount_of, mounted, root_mount, unmounted, with_mount}
use Rattle.fan_mounts.specs.Reaches.{crossed, entered, over, reached, root_place, shown}
use Rattle.fan_tree.specs.Tree.{Inode, TreeState, drawn, entry_of, root_of}

module _ (tree : TreeState) (mounts : List Mount) where
  -- a mount with this number is there
  abbrev IsThere : ℕ → Type 0
  IsThere number = is_some (mount_of mounts number) ≡ true

  each_there : All (λ mount. IsThere mount.number) mounts
  each_there k d within =
      let mount = get_or mounts k d in
      is_some-find (λ other. other.number == mount.number) mounts
      ∙ list_any_at (λ other. other.number == mount.number) mounts k d within
      (eq-eqb mount.number mount.number refl)

  shown_there : (mount : ℕ) (parent : Option ℕ) (found : Option Inode) → IsThere mount
      → IfOk (shown mount parent found) (λ place. IsThere place.mount)
  shown_there mount parent None there = tt
  shown_there mount parent (Some inode) there = there

  root_there : (found : Option Mount) → IfSome found (λ mount. IsThere mount.number)
      → IfOk (root_place tree found) (λ place. IsThere place.mount)
  root_there None there = tt
  root_there (Some mount) there = shown_there mount.number None (root_of tree mount.fs) there

  found_there : (test : Mount → Bool) → IfSome (find test mounts) (λ mount. IsThere mount.number)
  found_there test = go (find test mounts) (IfSome-find test
      (λ mount. IsThere mount.number) mounts each_there)
    where
      go : (found : Option Mount) → IfSome found (λ mount. IsThere mount.number × (test mount ≡ true))
          → IfSome found (λ mount. IsThere mount.number)
      go None each = tt
      go (Some mount) each = each.0

  over_there : (found : Option Mount) (dir : Place) (inode : Inode)
      → IfSome found (λ mount. IsThere mount.number)
      → IsThere dir.mount → IfOk (over tree found dir inode) (λ place. IsThere place.mount)
  over_there None dir inode each there = there
  over_there (Some mount) dir inode each there = root_there (Some mount) each

  crossed_there : (dir : Place) (found : Option Inode) → IsThere dir.mount
      → IfOk (crossed tree mounts dir found) (λ place. IsThere place.mount)
  crossed_there dir None there = tt
  crossed_there dir (Some inode) there =
      over_there (mount_at mounts dir.mount inode.number) dir inode
      (found_there (λ other. is_at dir.mount inode.number other.point)) there

  entered_there : (before : Result Place Errno) (name : List ℕ) → IfOk before (λ place. IsThere place.mount)
      → IfOk (entered tree mounts before name) (λ place. IsThere place.mount)
  entered_there (Err refusal) name there = tt
  entered_there (Ok place) name there =
      cond_both (not place.dir) (Err errno.Enotdir) (crossed tree mounts place
      (entry_of tree place.inode name))
      (λ r. IfOk r (λ place. IsThere place.mount)) (λ file. tt)
      (λ dir. crossed_there place (entry_of tree place.inode name) there)

  reached_there : (names : List (List ℕ)) → IfOk (reached tree mounts names) (λ place. IsThere place.mount)
  unfolding reached
  reached_there [] = root_there (mount_of mounts root_mount) (found_there
      (λ mount. mount.number == root_mount))
  reached_there (last ∷ before) = entered_there (reached tree mounts before) last (reached_there before)

-- what names reach is reached through a mount that is there
pub reached_mount : (tree : TreeState) (mounts : List Mount) (names : List (List ℕ)) (place : Place)
    → reached tree mounts names ≡ Ok place → is_some (mount_of mounts place.mount) ≡ true
reached_mount tree mounts names place is =
    subst (λ r. IfOk r (λ place. is_some (mount_of mounts place.mount) ≡ true)) is
    (reached_there tree mounts names)

find_longer : (test : Mount → Bool) (xs ys : List Mount) → is_some (find test xs) ≡ true
    → is_some (find test (xs ++ ys)) ≡ true
find_longer test [] ys is = absurd cc
find_longer test (x ∷ xs) ys is =
    (elim (test x) as (λ b. is_some (cond b (Some x) (find test xs)) ≡ true
    → is_some (cond b (Some x) (find test (xs ++ ys))) ≡ true) [
      | true ↦ λ here. refl
      | false ↦ λ later. find_longer test xs ys later
    ]) is

-- a mount that is there stays there as another is made
abbrev pub AllStay : List Mount → List Mount → Type 0
AllStay old new = (number : ℕ) → is_some (mount_of old number) ≡ true → is_some (mount_of new number) ≡ true

drawn_stay : (draw : Option (ℕ × TreeState)) (mounts : List Mount) (fs : ℕ) (at : Place)
    → IfOk (with_mount draw mounts fs at) (λ new. AllStay mounts new.2)
drawn_stay None mounts fs at = tt
drawn_stay (Some draw) mounts fs at =
    λ number there. find_longer (λ mount. mount.number == number) mounts _ there

pub mounted_stay : (tree : TreeState) (mounts : List Mount) (fs : ℕ) (at : Place) (new : ℕ × TreeState
    × List Mount)
    → mounted tree mounts fs at ≡ Ok new → AllStay mounts new.2
unfolding mounted
mounted_stay tree mounts fs at new is =
    let P : Result (ℕ × TreeState × List Mount) Errno → Type 0 = λ r. IfOk r (λ new. AllStay mounts new.2) in
    let last = with_mount (drawn tree) mounts fs at in
    let inner : Result (ℕ × TreeState × List Mount) Errno = cond (is_none at.parent) (Err errno.Ebusy) last in
    let middle : Result (ℕ × TreeState × List Mount) Errno = cond (not at.dir) (Err errno.Enotdir) inner in
    subst P is
    (cond_both (is_none (root_of tree fs)) (Err errno.Enoent) middle P (λ none. tt)
    (λ there. cond_both (not at.dir) (Err errno.Enotdir) inner P (λ file. tt)
    (λ dir. cond_both (is_none at.parent) (Err errno.Ebusy) last P (λ root. tt)
    (λ below. drawn_stay (drawn tree) mounts fs at))))

find_other : (number gone : ℕ) (mounts : List Mount) → (number ≡ gone → ⊥)
    → mount_of (filter (λ mount. not (mount.number == gone)) mounts) number ≡ mount_of mounts number
find_other number gone [] differ = refl
find_other number gone (mount ∷ more) differ =
    (elim (mount.number == gone) as (λ b. (mount.number == gone) ≡ b
    → mount_of (cond (not b) (mount ∷ filter (λ mount. not (mount.number == gone)) more)
    (filter (λ mount. not (mount.number == gone)) more)) number ≡ mount_of (mount ∷ more) number) [
      | true ↦ λ is. let its : mount.number ≡ gone = eqb-true mount.number gone is in
          find_other number gone more differ
          ∙ sym (past number mount more (λ same. differ (sym same ∙ its)))
      | false ↦ λ not. ap (λ rest. cond (mount.number == number) (Some mount) rest)
          (find_other number gone more differ)
    ]) refl
  where
    past : (number : ℕ) (mount : Mount) (more : List Mount) → (mount.number ≡ number → ⊥)
        → mount_of (mount ∷ more) number ≡ mount_of more number
    past number mount more differ = rw (ne_eqb mount.number number differ) refl

-- and any but the one that is taken away stays
pub unmounted_stay : (mounts left : List Mount) (gone : ℕ) → unmounted mounts gone ≡ Ok left
    → (number : ℕ) → (number ≡ gone → ⊥) → mount_of left number ≡ mount_of mounts number
unfolding unmounted
unmounted_stay mounts left gone is number differ =
    let P : Result (List Mount) Errno → Type 0 = λ r. IfOk r (λ left. mount_of left number
    ≡ mount_of mounts number) in
    let last : Result (List Mount) Errno = Ok (filter (λ mount. not (mount.number == gone)) mounts) in
    let inner : Result (List Mount) Errno = cond (carries mounts gone) (Err errno.Ebusy) last in
    subst P is
    (cond_both (gone == root_mount) (Err errno.Ebusy) inner P (λ first. tt)
    (λ other. cond_both (carries mounts gone) (Err errno.Ebusy) last P (λ carries. tt)
    (λ free. find_other number gone mounts differ)))
