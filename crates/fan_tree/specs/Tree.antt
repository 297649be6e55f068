-- The file tree: inodes of filesystems, the directory entries that lead to them, and what is made of it.
use Rattle.std.specs.Prelude.{◌≡◌, ℕ, ◌+◌, ◌==◌, ◌&&◌, Bool, true, not, List, [], ◌∷◌, ◌++◌, Option, Some, None, Result, Ok, Err, find, is_some, nat_lt, if◌then◌else◌}
use Rattle.std.specs.Str.{bytes_eq}
use Rattle.fan_bits.specs.declared.errno.Errno.{Errno}
use Rattle.fan_bits.specs.declared.errno.Errno.TheVariants as errno
use Rattle.fan_tree.specs.declared.inode.About.{About}
use Rattle.fan_tree.specs.declared.inode.TreeRefused.{TreeRefused}
use Rattle.fan_tree.specs.declared.inode.TreeRefused.TheVariants.{No, NoMemory}

-- a file or a directory: its object number, and the number of its filesystem
pub record Inode : Type 0 where
  pub number : ℕ
  pub fs : ℕ
  pub dir : Bool

-- an entry of a directory: a name, and the number of the inode that it leads to
pub record DirEntry : Type 0 where
  pub dir : ℕ
  pub name : List ℕ
  pub inode : ℕ

-- the inodes of all filesystems by rising number, the entries of all directories by the numbers of the inodes
-- that they lead to, and the number that the next object gets; a filesystem is there if its root is
pub record TreeState : Type 0 where
  pub inodes : List Inode
  pub names : List DirEntry
  pub next : ℕ

-- the largest object number
abbrev pub max_object : ℕ
max_object = 65535

-- the root directory of a filesystem, whose number follows that of the filesystem
abbrev pub root_inode : ℕ → Inode
root_inode fs = record { number = fs + 1; fs = fs; dir = true }

-- at the start: filesystem 1 with its root, 2; object 3 is the mount at `/`
abbrev pub initial_tree : TreeState
initial_tree = record { inodes = root_inode 1 ∷ []; names = []; next = 4 }

-- the inode with a number
abbrev pub inode_of : TreeState → ℕ → Option Inode
inode_of tree number = find (λ inode. inode.number == number) tree.inodes

-- it is the entry of a directory with a name
abbrev pub is_named : ℕ → List ℕ → DirEntry → Bool
is_named dir name entry = entry.dir == dir && bytes_eq entry.name name

-- the inode that an entry leads to, if there is one
abbrev pub led_to : TreeState → Option DirEntry → Option Inode
led_to tree None = None
led_to tree (Some entry) = inode_of tree entry.inode

-- the inode that the entry of a directory with a name leads to
abbrev pub entry_of : TreeState → ℕ → List ℕ → Option Inode
entry_of tree dir name = led_to tree (find (is_named dir name) tree.names)

-- it is the root of its filesystem
abbrev pub is_root : Inode → Bool
is_root inode = inode.number == inode.fs + 1

-- the root of a filesystem
abbrev pub root_of : TreeState → ℕ → Option Inode
root_of tree fs = find (λ inode. inode.fs == fs && is_root inode) tree.inodes

-- what is told of an inode
abbrev pub about_of : Inode → About
about_of inode = record { fs = inode.fs; dir = inode.dir }

-- the next number is drawn, if one is left
unfoldable pub drawn : TreeState → Option (ℕ × TreeState)
drawn tree = if nat_lt max_object tree.next then None else Some (tree.next, record tree { next = tree.next + 1 })

-- the tree with one entry more in a directory, and the new inode that it leads to
abbrev pub with_entry : TreeState → ℕ → List ℕ → About → TreeState
with_entry tree dir name about = record {
  inodes = tree.inodes ++ record { number = tree.next; fs = about.fs; dir = about.dir } ∷ [];
  names = tree.names ++ record { dir = dir; name = name; inode = tree.next } ∷ [];
  next = tree.next + 1;
}

-- an entry is made in an inode: ENOTDIR, EEXIST, ENOSPC
abbrev pub made_in : Option Inode → TreeState → List ℕ → Bool → Result (ℕ × TreeState) Errno
made_in None tree name is_dir = Err errno.Enoent
made_in (Some parent) tree name is_dir =
    if not parent.dir then Err errno.Enotdir
    else (if is_some (entry_of tree parent.number name) then Err errno.Eexist
    else (if nat_lt max_object tree.next then Err errno.Enospc
    else Ok (tree.next, with_entry tree parent.number name (record { fs = parent.fs; dir = is_dir }))))

-- a file or a directory is made in a directory; ENOENT if there is no such inode
unfoldable pub made : TreeState → ℕ → List ℕ → Bool → Result (ℕ × TreeState) Errno
made tree dir name is_dir = made_in (inode_of tree dir) tree name is_dir

-- the tree with one filesystem more
abbrev pub with_fs : TreeState → TreeState
with_fs tree = record tree { inodes = tree.inodes ++ root_inode tree.next ∷ []; next = tree.next + 2 }

-- a filesystem is made, and its root, which gets the number after it; ENOSPC unless two numbers are left
unfoldable pub made_fs : TreeState → Result (ℕ × TreeState) Errno
made_fs tree = if nat_lt max_object (tree.next + 1) then Err errno.Enospc else Ok (tree.next, with_fs tree)

-- the refusal is that of the definition, or memory ran out
abbrev pub IsRefused : {A : Type 0} → TreeRefused → Result A Errno → Type 0
IsRefused (No refusal) made = made ≡ Err refusal
IsRefused NoMemory made = Unit {0}
