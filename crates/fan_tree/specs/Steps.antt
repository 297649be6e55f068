-- How a change of the tree is made, step by step. No public clause cites this module.
use Rattle.std.specs.Prelude.{◌≡◌, ℕ, ◌≤◌, ◌==◌, true, false, find, List, Option, Some, None, Result, Ok, Err, is_some, nat_lt, not, option_map, if◌then◌else◌}
use Rattle.fan_bits.specs.declared.errno.Errno.{Errno}
use Rattle.fan_bits.specs.declared.errno.Errno.TheVariants as errno
use Rattle.fan_tree.specs.Ancestors.{lies_within}
use Rattle.fan_tree.specs.Changes.{has_entries}
use Rattle.fan_tree.specs.declared.inode.About.{About}
use Rattle.fan_tree.specs.Tree.{Inode, TreeState, about_of, entry_of, inode_of, is_named, max_object}

-- the filesystem of the directory in which an entry is to be made: ENOENT, ENOTDIR, EEXIST, ENOSPC
abbrev pub place_by : Option About → TreeState → ℕ → List ℕ → Result ℕ Errno
place_by None tree dir name = Err errno.Enoent
place_by (Some parent) tree dir name =
    if not parent.dir then Err errno.Enotdir
    else (if is_some (entry_of tree dir name) then Err errno.Eexist
    else (if nat_lt max_object tree.next then Err errno.Enospc
    else Ok parent.fs))

-- the same by the directory's number
unfoldable pub free_place : TreeState → ℕ → List ℕ → Result ℕ Errno
free_place tree dir name = place_by (option_map about_of (inode_of tree dir)) tree dir name

-- a directory of a filesystem can take an entry with a name, and a number is left
pub record CanAdd (tree : TreeState) (dir : ℕ) (name : List ℕ) (fs : ℕ) : Type 0 where
  pub parent : Inode
  pub there : inode_of tree dir ≡ Some parent
  pub is_dir : parent.dir ≡ true
  pub fs_is : parent.fs ≡ fs
  pub free : find (is_named dir name) tree.names ≡ None
  pub room : tree.next ≤ max_object

-- an entry can be taken out of its directory, with the inode that it leads to
pub record CanTake (tree : TreeState) (dir : ℕ) (name : List ℕ) (number : ℕ) : Type 0 where
  pub there : find (is_named dir name) tree.names ≡ Some (record { dir = dir; name = name; inode = number })
  pub empty : has_entries tree number ≡ false

-- the number of an inode whose entry is to go to a directory, by what is told of both: ENOENT, ENOTDIR, EXDEV,
-- EEXIST, EINVAL
abbrev pub movable_by : Option About → Option About → TreeState → ℕ → ℕ → List ℕ → Result ℕ Errno
movable_by None target tree number to new_name = Err errno.Enoent
movable_by (Some inode) None tree number to new_name = Err errno.Enoent
movable_by (Some inode) (Some target) tree number to new_name =
    if not target.dir then Err errno.Enotdir
    else (if not (inode.fs == target.fs) then Err errno.Exdev
    else (if is_some (entry_of tree to new_name) then Err errno.Eexist
    else (if lies_within tree to number then Err errno.Einval
    else Ok number)))

-- the same by the number of the directory
unfoldable pub movable : TreeState → ℕ → ℕ → List ℕ → Result ℕ Errno
movable tree number to new_name =
    movable_by (option_map about_of (inode_of tree number)) (option_map about_of (inode_of tree to)) tree number to new_name

-- the entry of an inode can go to a directory under a new name
pub record CanMove (tree : TreeState) (dir : ℕ) (name : List ℕ) (number to : ℕ) (new_name : List ℕ) : Type 0 where
  pub there : find (is_named dir name) tree.names ≡ Some (record { dir = dir; name = name; inode = number })
  pub inode : Inode
  pub inode_there : inode_of tree number ≡ Some inode
  pub target : Inode
  pub target_there : inode_of tree to ≡ Some target
  pub is_dir : target.dir ≡ true
  pub same_fs : inode.fs ≡ target.fs
  pub free : find (is_named to new_name) tree.names ≡ None
  pub outside : lies_within tree to number ≡ false
