-- How the entries of a tree are kept, by the numbers that they lead to. No public clause cites this module.
use Rattle.std.specs.Prelude.{◌≡◌, ℕ, ◌==◌, ◌&&◌, Bool, false, List, Option, Some, None, slice_index_or}
use Rattle.std.specs.Str.{bytes_eq}
use Rattle.fan_tree.specs.Slots.{in_slots}
use Rattle.fan_tree.specs.Tags.{name_tag}
use Rattle.fan_tree.specs.Tree.{DirEntry}

-- a name in a directory
pub record NameIn : Type 0 where
  pub dir : ℕ
  pub name : List ℕ

-- the tag of a name
abbrev pub tag_of : NameIn → ℕ
tag_of entry = name_tag entry.dir entry.name

-- it is this name in this directory
abbrev pub has_name : ℕ → List ℕ → NameIn → Bool
has_name dir name entry = entry.dir == dir && bytes_eq entry.name name

-- the entry of an inode with a number
abbrev pub entry_at : ℕ → NameIn → DirEntry
entry_at number entry = record { dir = entry.dir; name = entry.name; inode = number }

-- a slot for each number, from 0 on; it is empty if no name leads to the number
abbrev pub Entries : Type 0
Entries = List (Option NameIn)

-- the entry of the inode with a number
abbrev pub slot_of : Entries → ℕ → Option NameIn
slot_of entries number = slice_index_or entries number None

-- a slot holds this name in this directory
abbrev pub is_name : ℕ → List ℕ → Option NameIn → Bool
is_name dir name None = false
is_name dir name (Some entry) = has_name dir name entry

-- this name in this directory leads to a number
abbrev pub leads : Entries → ℕ → List ℕ → ℕ → Bool
leads entries dir name number = is_name dir name (slot_of entries number)

-- a slot holds a name with a tag
abbrev pub is_tagged : ℕ → Option NameIn → Bool
is_tagged tag None = false
is_tagged tag (Some entry) = tag_of entry == tag

-- the entries in slots by the numbers that they lead to
abbrev pub entries_of : Entries → List DirEntry
entries_of entries = in_slots entry_at 0 entries

-- no name leads to two numbers
pub record AreUnique (entries : Entries) : Type 0 where
  pub same : (one other : ℕ) (a b : NameIn) → slot_of entries one ≡ Some a → slot_of entries other ≡ Some b
      → a.dir ≡ b.dir → a.name ≡ b.name → one ≡ other

-- the same entries, with empty slots behind them
pub record ArePadded (old new : Entries) : Type 0 where
  pub entries : entries_of new ≡ entries_of old
  pub slots : (number : ℕ) → slot_of new number ≡ slot_of old number
