-- Whether some mount stands on a mount's directories, or on a directory, as the index says.
use Rattle.std.proofs.Common.{◌≡◌, ◌∙◌, ℕ, Bool, true, false, cond, List, [], ◌∷◌, Option, Some, None, is_some, refl, sym, arith}
use Rattle.std.proofs.lemmas.Bool.Decides.{nat_tests}
use Rattle.std.specs.Prelude.{find}
use Rattle.std.specs.List.{list_any}
use Rattle.fan_mounts.specs.declared.mount.Mount.{Mount}
use Rattle.fan_mounts.specs.declared.mount.MountPoint.{MountPoint}
use Rattle.fan_mounts.specs.Kept.{AreIndexed}
use Rattle.fan_mounts.specs.Mounts.{carries, is_at, is_on_dir, is_on_mount, stands_on}
use Rattle.fan_mounts.specs.Pairs.{Entries, standing}

-- nothing found here, nor in the rest
rest_none : (here : Bool) (x : Mount) (rest : Option Mount) → cond here (Some x) rest ≡ None
    → (here ≡ false) × (rest ≡ None)
rest_none true x rest none = absurd cc
rest_none false x rest none = (refl, none)

-- points that have a property, each of which is found by some number
module _ (has : Option MountPoint → Bool) (at : ℕ → Option MountPoint → Bool)
    (on : (number : ℕ) (point : Option MountPoint) → at number point ≡ true → has point ≡ true)
    (off : (point : Option MountPoint) → ((number : ℕ) → at number point ≡ false) → has point ≡ false) where
  -- what is found by a number has it
  some_has : (mounts : List Mount) (number : ℕ)
      → is_some (find (λ mount. at number mount.point) mounts) ≡ true
      → list_any (λ mount. has mount.point) mounts ≡ true
  some_has [] number some = absurd cc
  some_has (first ∷ more) number some =
      grind (arith, some, on number first.point, some_has more number)

  -- where nothing is found by any number, nothing has it
  none_has : (mounts : List Mount)
      → ((number : ℕ) → find (λ mount. at number mount.point) mounts ≡ None)
      → list_any (λ mount. has mount.point) mounts ≡ false
  none_has [] none = refl
  none_has (x ∷ xs) none =
      let parts = λ (number : ℕ).
      rest_none (at number x.point) x (find (λ mount. at number mount.point) xs) (none number) in
      rw (off x.point (λ number. (parts number).0)) (none_has xs (λ number. (parts number).1))

  -- so a search by all numbers tells whether some mount has it
  found_is : (mounts : List Mount) (found : ℕ → Option Mount) (some : Bool)
      → ((number : ℕ) → found number ≡ find (λ mount. at number mount.point) mounts)
      → (some ≡ true → (number : ℕ) × (is_some (found number) ≡ true))
      → (some ≡ false → (number : ℕ) → found number ≡ None)
      → some ≡ list_any (λ mount. has mount.point) mounts
  found_is mounts found true is there none =
      let here = there refl in sym (some_has mounts here.0 (rw (is here.0) at here.1))
  found_is mounts found false is there none =
      sym (none_has mounts (λ number. sym (is number) ∙ none refl number))

on_mount : (mount dir : ℕ) (point : Option MountPoint) → is_at mount dir point ≡ true
    → is_on_mount mount point ≡ true
on_mount mount dir None here = absurd cc
on_mount mount dir (Some point) here = grind (arith, nat_tests)

off_mount : (mount : ℕ) (point : Option MountPoint) → ((dir : ℕ) → is_at mount dir point ≡ false)
    → is_on_mount mount point ≡ false
off_mount mount None nowhere = refl
off_mount mount (Some point) nowhere = let off = nowhere point.dir in grind (arith, nat_tests)

-- whether a mount carries others is what the index says
pub carries_is : (mounts : List Mount) (index : Entries) (mount : ℕ) (has : Bool) → AreIndexed mounts index
    → (has ≡ true → (dir : ℕ) × (is_some (standing index mount dir) ≡ true))
    → (has ≡ false → (dir : ℕ) → standing index mount dir ≡ None) → has ≡ carries mounts mount
carries_is mounts index mount has is =
    found_is (is_on_mount mount) (is_at mount) (on_mount mount) (off_mount mount) mounts
    (standing index mount) has (is.finds mount)

on_dir : (dir mount : ℕ) (point : Option MountPoint) → is_at mount dir point ≡ true
    → is_on_dir dir point ≡ true
on_dir dir mount None here = absurd cc
on_dir dir mount (Some point) here = grind (arith, nat_tests)

off_dir : (dir : ℕ) (point : Option MountPoint) → ((mount : ℕ) → is_at mount dir point ≡ false)
    → is_on_dir dir point ≡ false
off_dir dir None nowhere = refl
off_dir dir (Some point) nowhere = let off = nowhere point.mount in grind (arith, nat_tests)

-- whether some mount stands on a directory is what the index says
pub stands_is : (mounts : List Mount) (index : Entries) (dir : ℕ) (has : Bool) → AreIndexed mounts index
    → (has ≡ true → (mount : ℕ) × (is_some (standing index mount dir) ≡ true))
    → (has ≡ false → (mount : ℕ) → standing index mount dir ≡ None) → has ≡ stands_on mounts dir
stands_is mounts index dir has is =
    found_is (is_on_dir dir) (λ mount. is_at mount dir) (on_dir dir) (off_dir dir) mounts
    (λ mount. standing index mount dir) has (λ mount. is.finds mount dir)
