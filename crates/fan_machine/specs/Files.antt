-- Steps that change the file tree and its mounts: mknod(2), mkdir(2), mount(2), umount(2).
use Rattle.std.specs.Prelude.{ℕ, ◌==◌, Bool, not, List, [], ◌∷◌, Result, Err, is_some, reverse}
use Rattle.std.specs.List.{list_any}
use Rattle.fan_access.specs.Access.{AccessState}
use Rattle.fan_access.specs.Operations.{first_mount}
use Rattle.fan_bits.specs.declared.change.Change.TheVariants.{DropObject}
use Rattle.fan_bits.specs.declared.errno.Errno.{Errno}
use Rattle.fan_bits.specs.declared.errno.Errno.TheVariants as errno
use Rattle.fan_bits.specs.declared.place.Place.{Place}
use Rattle.fan_machine.specs.Outcome.{Attempt, answers, refuse_unless, ◌>>=◌}
use Rattle.fan_machine.specs.World.{WorldState, with_change}
use Rattle.fan_mounts.specs.Mounts.{mounted, unmounted, is_mount_root}
use Rattle.fan_mounts.specs.Reaches.{names_of, place_of, reached}
use Rattle.fan_script.specs.declared.reply.Reply.TheVariants as replies
use Rattle.fan_tree.specs.Tree.{made, made_fs, root_of}

-- what a path reaches; ENOENT, ENOTDIR
abbrev pub place_in : WorldState → List ℕ → Result Place Errno
place_in world path = place_of world.tree world.mounts path

-- an entry is made under the last of these names, in what those before it reach; EEXIST if there is none, as at `/`
abbrev pub made_by : WorldState → List (List ℕ) → Bool → Attempt
made_by world [] is_dir = Err errno.Eexist
made_by world (last ∷ before) is_dir = do
  dir ← reached world.tree world.mounts before
  new ← made world.tree dir.inode last is_dir
  answers (replies.Inode new.0) (record world { tree = new.1 })

-- `mkfile` and `mkdir`: EEXIST at `/`, the walk of the directory, ENOTDIR if that is a file, EEXIST, ENOSPC
unfoldable pub entry_made : WorldState → List ℕ → Bool → Attempt
entry_made world path is_dir = made_by world (reverse (names_of path)) is_dir

-- `mkfs`: ENOSPC
unfoldable pub fs_made : WorldState → Attempt
fs_made world = do
  new ← made_fs world.tree
  answers (replies.Fs new.0) (record world { tree = new.1 })

-- `mount`: ENOENT if there is no such filesystem, the walk, ENOTDIR, EBUSY at the root of a mount, ENOSPC
unfoldable pub fs_mounted : WorldState → ℕ → List ℕ → Attempt
fs_mounted world fs path = do
  there ← refuse_unless (is_some (root_of world.tree fs)) errno.Enoent
  at ← place_in world path
  new ← mounted world.tree world.mounts fs at
  answers (replies.Mount new.0) (record world { tree = new.1; mounts = new.2 })

-- an open access was begun through a mount
abbrev pub goes_through : ℕ → ℕ × AccessState → Bool
goes_through mount access = first_mount access.1.spots == mount

-- `umount`: the walk, EINVAL if this is no mount's root, EBUSY if an access is open through it, if it is the mount
-- at `/`, and if it carries another; the marks on it go
unfoldable pub fs_unmounted : WorldState → List ℕ → Attempt
fs_unmounted world path = do
  at ← place_in world path
  root ← refuse_unless (is_mount_root at) errno.Einval
  unused ← refuse_unless (not (list_any (goes_through at.mount) world.accesses)) errno.Ebusy
  left ← unmounted world.mounts at.mount
  answers replies.Done (with_change (DropObject at.mount) (record world { mounts = left }))
