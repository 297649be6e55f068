-- The way up in a tree: from an inode to the directory that has its entry, and so on.
use Rattle.std.specs.Prelude.{◌≡◌, ℕ, ◌==◌, ◌||◌, zero, suc, Bool, false, Option, Some, find, option_map}
use Rattle.std.specs.Option.{option_and_then, option_map_or}
use Rattle.fan_tree.specs.Tree.{DirEntry, TreeState}

-- an entry leads to the inode with a number
abbrev pub leads_to : ℕ → DirEntry → Bool
leads_to number entry = entry.inode == number

-- the directory that has the entry of an inode; no entry leads to a root
abbrev pub parent_of : TreeState → ℕ → Option ℕ
parent_of tree number = option_map (λ entry. entry.dir) (find (leads_to number) tree.names)

-- what so many steps from an inode to its directory lead to, if the way up is that long
abbrev pub ancestor : TreeState → ℕ → ℕ → Option ℕ
ancestor tree zero number = Some number
ancestor tree (suc steps) number = option_and_then (ancestor tree steps) (parent_of tree number)

-- an inode is a directory or lies below it: the way up from the inode leads there
abbrev pub LiesWithin : TreeState → ℕ → ℕ → Type 0
LiesWithin tree number dir = (steps : ℕ) × (ancestor tree steps number ≡ Some dir)

-- a directory is met in the first so many steps of the way up from an inode
abbrev pub is_met : TreeState → ℕ → ℕ → ℕ → Bool
is_met tree zero number dir = number == dir
is_met tree (suc steps) number dir =
    number == dir || option_map_or (λ parent. is_met tree steps parent dir) (parent_of tree number) false

-- an inode is a directory or lies below it, told by as many steps as numbers were drawn: no way up is longer
unfoldable pub lies_within : TreeState → ℕ → ℕ → Bool
lies_within tree number dir = is_met tree tree.next number dir
