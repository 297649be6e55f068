-- What is taken out of a tree, and what is moved in it: unlink(2), rmdir(2), rename(2).
use Rattle.std.specs.Prelude.{ℕ, ◌==◌, Bool, not, List, Option, Some, None, Result, Ok, Err, filter, is_some, map, if◌then◌else◌}
use Rattle.std.specs.List.{list_any}
use Rattle.fan_bits.specs.declared.errno.Errno.{Errno}
use Rattle.fan_bits.specs.declared.errno.Errno.TheVariants as errno
use Rattle.fan_tree.specs.Ancestors.{lies_within}
use Rattle.fan_tree.specs.Tree.{DirEntry, Inode, TreeState, entry_of, inode_of, is_named}

-- an inode has entries: it is a directory that some entry is in
abbrev pub has_entries : TreeState → ℕ → Bool
has_entries tree number = list_any (λ entry. entry.dir == number) tree.names

-- the tree without an entry of a directory, and without the inode that it leads to, which has no other name
abbrev pub without_entry : TreeState → ℕ → List ℕ → ℕ → TreeState
without_entry tree dir name number = record tree {
  inodes = filter (λ inode. not (inode.number == number)) tree.inodes;
  names = filter (λ entry. not (is_named dir name entry)) tree.names;
}

-- the inode that an entry leads to is removed with the entry: ENOTEMPTY if it is a directory with entries
abbrev pub removed_by : Option Inode → TreeState → ℕ → List ℕ → Result (ℕ × TreeState) Errno
removed_by None tree dir name = Err errno.Enoent
removed_by (Some inode) tree dir name =
    if has_entries tree inode.number then Err errno.Enotempty
    else Ok (inode.number, without_entry tree dir name inode.number)

-- a file or an empty directory is removed by its name in a directory; ENOENT if the directory has no such name
unfoldable pub removed : TreeState → ℕ → List ℕ → Result (ℕ × TreeState) Errno
removed tree dir name = removed_by (entry_of tree dir name) tree dir name

-- an entry, under a new name and in the directory where it goes, if it is the one with this name
abbrev pub moved : ℕ → List ℕ → ℕ → List ℕ → DirEntry → DirEntry
moved dir name to new_name entry =
    if is_named dir name entry then record entry { dir = to; name = new_name } else entry

-- the tree in which an entry goes from one directory to another under a new name; its inode stays what it is
abbrev pub with_moved : TreeState → ℕ → List ℕ → ℕ → List ℕ → TreeState
with_moved tree dir name to new_name = record tree { names = map (moved dir name to new_name) tree.names }

-- the entry of an inode goes to a directory: ENOENT if either isn't there, ENOTDIR if that is a file, EXDEV if
-- it is of another filesystem, EEXIST if it has the new name, EINVAL if it is the inode or lies below it
abbrev pub renamed_to : Option Inode → Option Inode → TreeState → ℕ → List ℕ → List ℕ → Result (ℕ × TreeState) Errno
renamed_to None target tree dir name new_name = Err errno.Enoent
renamed_to (Some inode) None tree dir name new_name = Err errno.Enoent
renamed_to (Some inode) (Some target) tree dir name new_name =
    if not target.dir then Err errno.Enotdir
    else (if not (inode.fs == target.fs) then Err errno.Exdev
    else (if is_some (entry_of tree target.number new_name) then Err errno.Eexist
    else (if lies_within tree target.number inode.number then Err errno.Einval
    else Ok (inode.number, with_moved tree dir name target.number new_name))))

-- a file or a directory is renamed, by its name in a directory, to a new name in a directory
unfoldable pub renamed : TreeState → ℕ → List ℕ → ℕ → List ℕ → Result (ℕ × TreeState) Errno
renamed tree dir name to new_name =
    renamed_to (entry_of tree dir name) (inode_of tree to) tree dir name new_name
