-- A tree that is changed draws later numbers, or the same.
use Rattle.std.proofs.Common.{ℕ, ◌+◌, ◌==◌, ◌≤◌, Bool, cond, List, Option, Some, None, Result, Ok, Err, arith, not}
use Rattle.std.proofs.lemmas.Bool.{cond_both}
use Rattle.std.specs.Prelude.{IfOk, is_some, nat_lt}
use Rattle.fan_bits.specs.declared.errno.Errno.{Errno}
use Rattle.fan_bits.specs.declared.errno.Errno.TheVariants as errno
use Rattle.fan_tree.specs.declared.inode.About.{About}
use Rattle.fan_tree.specs.Ancestors.{lies_within}
use Rattle.fan_tree.specs.Changes.{has_entries, removed, removed_by, renamed, renamed_to, with_moved, without_entry}
use Rattle.fan_tree.specs.Tree.{Inode, TreeState, entry_of, inode_of, made, made_fs, made_in, max_object, with_entry, with_fs}

-- what a change gives, and the tree after it
abbrev Changed : Type 0
Changed = Result (ℕ × TreeState) Errno

-- the tree draws no lower number than before
abbrev pub IsLater : TreeState → ℕ × TreeState → Type 0
IsLater tree done = tree.next ≤ done.1.next

-- a change is refused, or leaves a later tree
abbrev Later : TreeState → Changed → Type 0
Later tree tried = IfOk tried (IsLater tree)

-- a test refuses, or the rest leaves a later tree
or_refused : (tree : TreeState) (test : Bool) (why : Errno) (rest : Changed) → Later tree rest
    → Later tree (cond {A = Changed} test (Err why) rest)
or_refused tree test why rest later = cond_both test (Err why) rest (Later tree) (λ refused. tt) (λ goes. later)

made_in_later : (found : Option Inode) (tree : TreeState) (name : List ℕ) (is_dir : Bool)
    → Later tree (made_in found tree name is_dir)
made_in_later None tree name is_dir = tt
made_in_later (Some parent) tree name is_dir =
    let about : About = record { fs = parent.fs; dir = is_dir } in
    let last : Later tree (Ok (tree.next, with_entry tree parent.number name about)) = omega arith in
    or_refused tree (not parent.dir) errno.Enotdir _
    (or_refused tree (is_some (entry_of tree parent.number name)) errno.Eexist _
    (or_refused tree (nat_lt max_object tree.next) errno.Enospc _ last))

pub made_later : (tree : TreeState) (dir : ℕ) (name : List ℕ) (is_dir : Bool)
    → Later tree (made tree dir name is_dir)
unfolding made
made_later tree dir name is_dir = made_in_later (inode_of tree dir) tree name is_dir

pub made_fs_later : (tree : TreeState) → Later tree (made_fs tree)
unfolding made_fs
made_fs_later tree =
    let last : Later tree (Ok (tree.next, with_fs tree)) = omega arith in
    or_refused tree (nat_lt max_object (tree.next + 1)) errno.Enospc _ last

removed_by_later : (found : Option Inode) (tree : TreeState) (dir : ℕ) (name : List ℕ)
    → Later tree (removed_by found tree dir name)
removed_by_later None tree dir name = tt
removed_by_later (Some inode) tree dir name =
    let last : Later tree (Ok (inode.number, without_entry tree dir name inode.number)) = omega arith in
    or_refused tree (has_entries tree inode.number) errno.Enotempty _ last

pub removed_later : (tree : TreeState) (dir : ℕ) (name : List ℕ) → Later tree (removed tree dir name)
unfolding removed
removed_later tree dir name = removed_by_later (entry_of tree dir name) tree dir name

renamed_to_later : (found target : Option Inode) (tree : TreeState) (dir : ℕ) (name new_name : List ℕ)
    → Later tree (renamed_to found target tree dir name new_name)
renamed_to_later None target tree dir name new_name = tt
renamed_to_later (Some inode) None tree dir name new_name = tt
renamed_to_later (Some inode) (Some target) tree dir name new_name =
    let last : Later tree (Ok (inode.number, with_moved tree dir name target.number new_name)) = omega arith in
    or_refused tree (not target.dir) errno.Enotdir _
    (or_refused tree (not (inode.fs == target.fs)) errno.Exdev _
    (or_refused tree (is_some (entry_of tree target.number new_name)) errno.Eexist _
    (or_refused tree (lies_within tree target.number inode.number) errno.Einval _ last)))

pub renamed_later : (tree : TreeState) (dir : ℕ) (name : List ℕ) (to : ℕ) (new_name : List ℕ)
    → Later tree (renamed tree dir name to new_name)
unfolding renamed
renamed_later tree dir name to new_name =
    renamed_to_later (entry_of tree dir name) (inode_of tree to) tree dir name new_name
