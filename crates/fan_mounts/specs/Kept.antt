-- What `Mounts` keeps of its list of mounts. No public clause cites `AreIndexed`.
use Rattle.std.specs.Prelude.{◌≡◌, ℕ, false, true, List, Some, None, All}
use Rattle.std.specs.List.{AllPairs}
use Rattle.fan_bits.specs.Places.{IsObject}
use Rattle.fan_mounts.specs.declared.mount.Mount.{Mount}
use Rattle.fan_mounts.specs.Mounts.{is_at, mount_at, mount_of, root_mount}
use Rattle.fan_mounts.specs.Pairs.{Entries, standing}

-- what holds whichever tree the numbers were drawn from: they are those of objects, and the mount at `/`
-- is there
pub record AreKept (mounts : List Mount) : Type 0 where
  pub each : All (λ mount. IsObject mount.number) mounts
  pub root : mount_of mounts root_mount ≡ Some (record { number = 3; fs = 1; point = None })

-- two mounts don't stand on one directory of a mount
abbrev pub StandApart : Mount → Mount → Type 0
StandApart one other = (mount dir : ℕ) → is_at mount dir one.point ≡ true → is_at mount dir other.point ≡ false

-- each mount stands alone on its directory as its mount shows it, and the index has it there
pub record AreIndexed (mounts : List Mount) (index : Entries) : Type 0 where
  pub kept : AreKept mounts
  pub alone : AllPairs StandApart mounts
  pub finds : (mount dir : ℕ) → standing index mount dir ≡ mount_at mounts mount dir
