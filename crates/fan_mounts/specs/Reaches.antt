-- What a path reaches: a mount and an inode of its filesystem.
use Rattle.std.specs.Prelude.{◌≡◌, ℕ, ◌==◌, not, List, [], ◌∷◌, Option, Some, None, Result, Ok, Err, filter, reverse, length, if◌then◌else◌}
use Rattle.std.specs.List.{slice_split}
use Rattle.fan_bits.specs.declared.errno.Errno.{Errno}
use Rattle.fan_bits.specs.declared.errno.Errno.TheVariants as errno
use Rattle.fan_bits.specs.declared.place.Place.{Place}
use Rattle.fan_mounts.specs.declared.mount.Mount.{Mount}
use Rattle.fan_mounts.specs.Mounts.{mount_at, mount_of, root_mount}
use Rattle.fan_tree.specs.Tree.{Inode, TreeState, entry_of, root_of}

-- an inode as a mount shows it, which a walk reaches from a directory or, as the root of the mount, from none
abbrev pub shown : ℕ → Option ℕ → Option Inode → Result Place Errno
shown mount parent None = Err errno.Enoent
shown mount parent (Some inode) =
    Ok (record { mount = mount; fs = inode.fs; inode = inode.number; parent = parent; dir = inode.dir })

-- the root of a mount, which shows that of its filesystem
abbrev pub root_place : TreeState → Option Mount → Result Place Errno
root_place tree None = Err errno.Enoent
root_place tree (Some mount) = shown mount.number None (root_of tree mount.fs)

-- an inode that is reached from a directory, or the root of the mount that stands there, if one does
abbrev pub over : TreeState → Option Mount → Place → Inode → Result Place Errno
over tree None dir inode = shown dir.mount (Some dir.inode) (Some inode)
over tree (Some mount) dir inode = root_place tree (Some mount)

-- an inode, if there is one, as a walk comes to it from a directory
abbrev pub crossed : TreeState → List Mount → Place → Option Inode → Result Place Errno
crossed tree mounts dir None = Err errno.Enoent
crossed tree mounts dir (Some inode) = over tree (mount_at mounts dir.mount inode.number) dir inode

-- the entry of that name at what the names before it reach; ENOTDIR if this is no directory, and ENOENT if
-- it has no such entry
abbrev pub entered : TreeState → List Mount → Result Place Errno → List ℕ → Result Place Errno
entered tree mounts (Err refusal) name = Err refusal
entered tree mounts (Ok place) name =
    if not place.dir then Err errno.Enotdir
    else crossed tree mounts place (entry_of tree place.inode name)

-- what names reach, the last of them first: none reach the root of the mount at `/`
unfoldable pub reached : TreeState → List Mount → List (List ℕ) → Result Place Errno
reached tree mounts [] = root_place tree (mount_of mounts root_mount)
reached tree mounts (last ∷ before) = entered tree mounts (reached tree mounts before) last

-- the names of a path: what stands between its slashes
abbrev pub names_of : List ℕ → List (List ℕ)
names_of path = filter (λ name. not (length name == 0)) (slice_split (λ byte. byte == 47) path)

-- what a path reaches, or why it reaches nothing
unfoldable pub place_of : TreeState → List Mount → List ℕ → Result Place Errno
place_of tree mounts path = reached tree mounts (reverse (names_of path))

-- a path reaches a place
abbrev pub Reaches : TreeState → List Mount → List ℕ → Place → Type 0
Reaches tree mounts path place = place_of tree mounts path ≡ Ok place
