-- Places: the numbers of the mount, the filesystem, the inode and its parent.
use Rattle.std.specs.Prelude.{◌≡◌, ℕ, ◌≤◌, ◌==◌, Bool, false, is_some, true, Option, Some}
use Rattle.std.specs.Option.{ForSome}
use Rattle.fan_bits.specs.declared.kind.Kind.{Kind}
use Rattle.fan_bits.specs.declared.kind.Kind.TheVariants as kinds
use Rattle.fan_bits.specs.declared.place.Place.{Place}

-- the number of an object: an inode, a mount or a filesystem
abbrev pub IsObject : ℕ → Type 0
IsObject number = (1 ≤ number) × (number ≤ 65535)

-- a place: its numbers are those of objects, and a file has a parent
pub record IsPlace (place : Place) : Type 0 where
  pub mount : IsObject place.mount
  pub fs : IsObject place.fs
  pub inode : IsObject place.inode
  pub above : ForSome place.parent IsObject
  pub file : place.dir ≡ false → is_some place.parent ≡ true

-- a number is that of the parent, if there is one
abbrev pub is_parent : ℕ → Option ℕ → Bool
is_parent number (Some parent) = number == parent
is_parent number _ = false

-- the object that a mark of a kind is on
abbrev pub object_of : Kind → Place → ℕ
object_of kinds.Inode place = place.inode
object_of kinds.Mount place = place.mount
object_of kinds.Filesystem place = place.fs
