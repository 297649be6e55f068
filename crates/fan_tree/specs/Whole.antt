-- What holds of every tree, whatever was made of it.
use Rattle.std.specs.Prelude.{◌≡◌, ◌≢◌, ℕ, ◌+◌, ◌<◌, ◌≤◌, true, false, Some, All}
use Rattle.std.specs.List.{AllPairs}
use Rattle.fan_bits.specs.Places.{IsObject}
use Rattle.fan_tree.specs.Ancestors.{LiesWithin}
use Rattle.fan_tree.specs.Tree.{DirEntry, Inode, TreeState, inode_of, is_root}

-- an inode's numbers are those of objects, drawn before the next one, that of its filesystem first; a root is
-- a directory
pub record IsInode (next : ℕ) (inode : Inode) : Type 0 where
  pub number : IsObject inode.number
  pub drawn : inode.number < next
  pub fs : IsObject inode.fs
  pub after : inode.fs < inode.number
  pub root : is_root inode ≡ true → inode.dir ≡ true

-- an entry is in a directory that is there, and leads to an inode that is there, of the same filesystem and
-- not its root
pub record IsEntry (tree : TreeState) (entry : DirEntry) : Type 0 where
  pub parent : Inode
  pub inode : Inode
  pub in_dir : inode_of tree entry.dir ≡ Some parent
  pub leads_to : inode_of tree entry.inode ≡ Some inode
  pub is_dir : parent.dir ≡ true
  pub same_fs : inode.fs ≡ parent.fs
  pub no_root : is_root inode ≡ false

-- the number of one inode is below that of another
abbrev pub IsBelow : Inode → Inode → Type 0
IsBelow one other = one.number < other.number

-- two entries are in different directories, or have different names
abbrev pub AreApart : DirEntry → DirEntry → Type 0
AreApart one other = one.dir ≡ other.dir → one.name ≢ other.name

-- the number that one entry leads to is below that of another
abbrev pub LeadsBelow : DirEntry → DirEntry → Type 0
LeadsBelow one other = one.inode < other.inode

-- an inode lies within the root of its filesystem
abbrev pub IsRooted : TreeState → Inode → Type 0
IsRooted tree inode = LiesWithin tree inode.number (inode.fs + 1)

-- what holds of every tree: the inodes rise, and so do the numbers that entries lead to, so that no inode has
-- two names; the names in a directory are unique; the way up from each inode ends in a root
pub record IsTree (tree : TreeState) : Type 0 where
  pub each : All (IsInode tree.next) tree.inodes
  pub rises : AllPairs IsBelow tree.inodes
  pub entries : All (IsEntry tree) tree.names
  pub unique : AllPairs AreApart tree.names
  pub one_name : AllPairs LeadsBelow tree.names
  pub rooted : All (IsRooted tree) tree.inodes
  pub some : 4 ≤ tree.next
  pub most : tree.next ≤ 65536
