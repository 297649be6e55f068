-- How the inodes of a tree are kept, by their numbers. No public clause cites this.
use Rattle.std.specs.Prelude.{ℕ, ◌+◌, List, ◌∷◌, Option, length}
use Rattle.fan_tree.specs.declared.inode.About.{About}
use Rattle.fan_tree.specs.Slots.{in_slots}
use Rattle.fan_tree.specs.Tree.{Inode, root_inode}

-- the inode with a number, of which something is told
abbrev pub inode_at : ℕ → About → Inode
inode_at number about = record { number = number; fs = about.fs; dir = about.dir }

-- the inodes by rising number, and the number from which on there are no slots
pub record InodesState : Type 0 where
  pub inodes : List Inode
  pub slots_end : ℕ

-- the root of filesystem 1, which is always there, and the inodes in the slots, whose numbers start at 4
abbrev pub kept_inodes : List (Option About) → InodesState
kept_inodes slots = record { inodes = root_inode 1 ∷ in_slots inode_at 4 slots; slots_end = length slots + 4 }
