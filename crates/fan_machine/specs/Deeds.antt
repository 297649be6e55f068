-- What an operation does, by the paths that it is given: where, and what it leaves of the file tree: open(2),
-- execve(2), read(2), write(2), close(2), chmod(2), mknod(2), mkdir(2), unlink(2), rmdir(2), rename(2).
use Rattle.std.specs.Prelude.{ℕ, ◌==◌, ◌||◌, Bool, true, false, not, List, [], ◌∷◌, Option, Some, None, Result, Ok, Err, is_some, reverse, if◌then◌else◌}
use Rattle.fan_access.specs.declared.op.Op.{Op}
use Rattle.fan_access.specs.declared.op.Op.TheVariants as ops
use Rattle.fan_access.specs.declared.spot.Spot.{Spot}
use Rattle.fan_bits.specs.declared.change.Change.{Change}
use Rattle.fan_bits.specs.declared.change.Change.TheVariants.{Clear, DropObject}
use Rattle.fan_bits.specs.declared.errno.Errno.{Errno}
use Rattle.fan_bits.specs.declared.errno.Errno.TheVariants as errno
use Rattle.fan_bits.specs.declared.place.Place.{Place}
use Rattle.fan_event.specs.Events.{dot}
use Rattle.fan_machine.specs.Outcome.{refuse_if, refuse_unless, ◌>>=◌}
use Rattle.fan_machine.specs.World.{WorldState}
use Rattle.fan_mounts.specs.Mounts.{is_mount_root, stands_on}
use Rattle.fan_mounts.specs.Reaches.{names_of, reached}
use Rattle.fan_tree.specs.Changes.{removed, renamed}
use Rattle.fan_tree.specs.Tree.{TreeState, made}

-- what an operation does: at which spots; how the marks change before the access takes its view of them; the tree
-- after it; and how the marks change then
pub record Deed : Type 0 where
  pub spots : List Spot
  pub first : Option Change
  pub tree : TreeState
  pub last : Option Change

-- the names of a path, the last one first
abbrev pub names_up : List ℕ → List (List ℕ)
names_up path = reverse (names_of path)

-- the last of some names, given from the last on, and `.` if there is none
abbrev pub last_name : List (List ℕ) → List ℕ
last_name [] = dot
last_name (last ∷ before) = last

-- a place, and the name by which it was reached: the last one, and `.` for a root
abbrev pub spot_by : List (List ℕ) → Place → Spot
spot_by names place = record { place = place; name = if is_some place.parent then last_name names else dot }

-- the entry of a directory with a name
abbrev pub entry_spot : Place → List ℕ → Spot
entry_spot dir name = record { place = dir; name = name }

-- ---- what leaves the tree as it is

-- a directory is not executed, and not written to
abbrev pub misplaced : Op → Place → Option Errno
misplaced ops.Execs place = if place.dir then Some errno.Eacces else None
misplaced ops.Writes place = if place.dir then Some errno.Eisdir else None
misplaced ops.ClosesWrite place = if place.dir then Some errno.Eisdir else None
misplaced _ place = None

-- a write empties ignored sets on its file
abbrev pub first_change : Op → Place → Option Change
first_change ops.Writes place = Some (Clear place.inode)
first_change _ place = None

-- what is there is opened, executed, read, written, closed, or gets other attributes: the walk; EACCES for a
-- directory that is executed, EISDIR for one that is written or was open for writing
abbrev pub used : WorldState → Op → List (List ℕ) → Result Deed Errno
used world op names = do
  place ← reached world.tree world.mounts names
  right ← refuse_if (misplaced op place)
  Ok (record {
    spots = spot_by names place ∷ [];
    first = first_change op place;
    tree = world.tree;
    last = None;
  })

-- ---- what makes an entry

-- a file or a directory is made: EEXIST at `/`, the walk of its directory, ENOTDIR, EEXIST, ENOSPC
abbrev pub created : WorldState → Bool → List (List ℕ) → Result Deed Errno
created world is_dir [] = Err errno.Eexist
created world is_dir (last ∷ before) = do
  dir ← reached world.tree world.mounts before
  new ← made world.tree dir.inode last is_dir
  Ok (record { spots = entry_spot dir last ∷ []; first = None; tree = new.1; last = None })

-- ---- what removes one

-- what is there can't be removed or renamed: it is a filesystem's root, or some mount stands on it
abbrev pub is_busy : WorldState → Place → Bool
is_busy world place = is_mount_root place || stands_on world.mounts place.inode

-- `unlink` is of a file, and `rmdir` of a directory that isn't busy
abbrev pub unremovable : WorldState → Op → Place → Option Errno
unremovable world ops.Unlinks place = if place.dir then Some errno.Eisdir else None
unremovable world _ place =
    if not place.dir then Some errno.Enotdir else (if is_busy world place then Some errno.Ebusy else None)

-- the last of some names leaves its directory, with what it leads to, and the marks on that go: ENOTEMPTY; `/` has
-- no name, and is busy
abbrev pub taken : WorldState → Place → List (List ℕ) → Result Deed Errno
taken world place [] = Err errno.Ebusy
taken world place (last ∷ before) = do
  dir ← reached world.tree world.mounts before
  left ← removed world.tree dir.inode last
  Ok (record {
    spots = entry_spot dir last ∷ spot_by (last ∷ before) place ∷ [];
    first = None;
    tree = left.1;
    last = Some (DropObject left.0);
  })

-- a file or a directory is removed: the walk, EISDIR or ENOTDIR, EBUSY, ENOTEMPTY
abbrev pub removes : WorldState → Op → List (List ℕ) → Result Deed Errno
removes world op names = do
  place ← reached world.tree world.mounts names
  right ← refuse_if (unremovable world op place)
  taken world place names

-- ---- what renames one

-- a place, as it is reached from another directory
abbrev pub moved_into : Place → Place → Place
moved_into place dir = record place { parent = Some dir.inode }

-- what is there goes to another directory under a new name: ENOTDIR, EXDEV if that is reached through another
-- mount, EEXIST, EINVAL if it is the same or lies below it
abbrev pub moves : WorldState → Place → Place → List ℕ → Place → List ℕ → Result Deed Errno
moves world place dir name to new_name = do
  into ← refuse_unless to.dir errno.Enotdir
  same ← refuse_unless (to.mount == place.mount) errno.Exdev
  moved ← renamed world.tree dir.inode name to.inode new_name
  Ok (record {
    spots =
        entry_spot dir name ∷ entry_spot to new_name
        ∷ record { place = moved_into place to; name = new_name } ∷ [];
    first = None;
    tree = moved.1;
    last = None;
  })

-- the last of some names is moved to the last of others: EEXIST if that is `/`, the walk of its directory
abbrev pub moves_to : WorldState → Place → List (List ℕ) → List (List ℕ) → Result Deed Errno
moves_to world place names [] = Err errno.Eexist
moves_to world place [] (new_name ∷ above) = Err errno.Ebusy
moves_to world place (name ∷ before) (new_name ∷ above) = do
  to ← reached world.tree world.mounts above
  dir ← reached world.tree world.mounts before
  moves world place dir name to new_name

-- a file or a directory is renamed: the walk, EBUSY
abbrev pub renames : WorldState → List (List ℕ) → List (List ℕ) → Result Deed Errno
renames world names new_names = do
  place ← reached world.tree world.mounts names
  free ← refuse_unless (not (is_busy world place)) errno.Ebusy
  moves_to world place names new_names

-- the names of the second path; without one, as no line has it, those of `/`
abbrev pub second_names : Option (List ℕ) → List (List ℕ)
second_names None = []
second_names (Some path) = names_up path

-- ---- all operations

-- what an operation does, or why it is refused
unfoldable pub deed_of : WorldState → Op → List ℕ → Option (List ℕ) → Result Deed Errno
deed_of world ops.Creates path second = created world false (names_up path)
deed_of world ops.MakesDir path second = created world true (names_up path)
deed_of world ops.Unlinks path second = removes world ops.Unlinks (names_up path)
deed_of world ops.RemovesDir path second = removes world ops.RemovesDir (names_up path)
deed_of world ops.Renames path second = renames world (names_up path) (second_names second)
deed_of world op path second = used world op (names_up path)
