-- The mounts: each of a filesystem, on a directory as it is reached through another mount.
use Rattle.std.specs.Prelude.{◌≡◌, ℕ, ◌<◌, ◌==◌, ◌&&◌, Bool, false, not, List, [], ◌∷◌, ◌++◌, Option, Some, None, Result, Ok, Err, All, filter, find, is_none, if◌then◌else◌}
use Rattle.std.specs.List.{AllPairs, list_any}
use Rattle.fan_bits.specs.declared.errno.Errno.{Errno}
use Rattle.fan_bits.specs.declared.errno.Errno.TheVariants as errno
use Rattle.fan_bits.specs.declared.place.Place.{Place}
use Rattle.fan_bits.specs.Places.{IsObject}
use Rattle.fan_mounts.specs.declared.mount.Mount.{Mount}
use Rattle.fan_mounts.specs.declared.mount.MountPoint.{MountPoint}
use Rattle.fan_tree.specs.Tree.{TreeState, drawn, root_of}

-- the number of the mount at `/`
abbrev pub root_mount : ℕ
root_mount = 3

-- at the start: mount 3 of filesystem 1 at `/`, which stands on nothing
abbrev pub initial_mounts : List Mount
initial_mounts = record { number = 3; fs = 1; point = None } ∷ []

-- the mount with a number
abbrev pub mount_of : List Mount → ℕ → Option Mount
mount_of mounts number = find (λ mount. mount.number == number) mounts

-- a mount stands on a directory as another mount shows it
abbrev pub is_at : ℕ → ℕ → Option MountPoint → Bool
is_at mount dir None = false
is_at mount dir (Some point) = point.mount == mount && point.dir == dir

-- the mount that stands on a directory as another mount shows it
abbrev pub mount_at : List Mount → ℕ → ℕ → Option Mount
mount_at mounts mount dir = find (λ other. is_at mount dir other.point) mounts

-- it stands on a directory of a mount
abbrev pub is_on_mount : ℕ → Option MountPoint → Bool
is_on_mount mount None = false
is_on_mount mount (Some point) = point.mount == mount

-- some mount stands on a directory of a mount
abbrev pub carries : List Mount → ℕ → Bool
carries mounts number = list_any (λ mount. is_on_mount number mount.point) mounts

-- a mount stands on a directory, whichever mount shows that
abbrev pub is_on_dir : ℕ → Option MountPoint → Bool
is_on_dir dir None = false
is_on_dir dir (Some point) = point.dir == dir

-- some mount stands on a directory
abbrev pub stands_on : List Mount → ℕ → Bool
stands_on mounts dir = list_any (λ mount. is_on_dir dir mount.point) mounts

-- a place is the root of a mount: no name leads to it
abbrev pub is_mount_root : Place → Bool
is_mount_root place = is_none place.parent

-- the number that was drawn is a mount's at a place
abbrev pub with_mount : Option (ℕ × TreeState) → List Mount → ℕ → Place → Result (ℕ × TreeState × List Mount) Errno
with_mount None mounts fs at = Err errno.Enospc
with_mount (Some draw) mounts fs at =
    Ok (
      draw.0,
      draw.1,
      mounts ++ record { number = draw.0; fs = fs; point = Some (record { mount = at.mount; dir = at.inode }) } ∷ [],
    )

-- a filesystem is mounted on a place: ENOENT if there is no such filesystem, ENOTDIR, EBUSY if the place is
-- the root of a mount, ENOSPC
unfoldable pub mounted : TreeState → List Mount → ℕ → Place → Result (ℕ × TreeState × List Mount) Errno
mounted tree mounts fs at =
    if is_none (root_of tree fs) then Err errno.Enoent
    else (if not at.dir then Err errno.Enotdir
    else (if is_mount_root at then Err errno.Ebusy
    else with_mount (drawn tree) mounts fs at))

-- the mounts with other numbers
abbrev pub others : ℕ → List Mount → List Mount
others number mounts = filter (λ mount. not (mount.number == number)) mounts

-- a mount is taken away: EBUSY for the one at `/`, and if a mount stands on one of its directories
unfoldable pub unmounted : List Mount → ℕ → Result (List Mount) Errno
unmounted mounts number =
    if number == root_mount then Err errno.Ebusy
    else (if carries mounts number then Err errno.Ebusy
    else Ok (others number mounts))

-- a list of mounts as it begins: the numbers are those of objects and rise, and mount 3 is at `/`
pub record AreMounts (mounts : List Mount) : Type 0 where
  pub each : All (λ mount. IsObject mount.number) mounts
  pub rises : AllPairs (λ one other. one.number < other.number) mounts
  pub root : mount_of mounts root_mount ≡ Some (record { number = 3; fs = 1; point = None })

-- all numbers of mounts were drawn from a tree
abbrev pub AreDrawn : TreeState → List Mount → Type 0
AreDrawn tree mounts = All (λ mount. mount.number < tree.next) mounts
