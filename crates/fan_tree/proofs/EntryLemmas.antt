-- Entries and their names.
use Rattle.std.proofs.Common.{◌≡◌, ◌≢◌, ℕ, ◌==◌, Bool, true, false, cond, List, refl, arith}
use Rattle.std.specs.Prelude.{Err, Ok, OnErr, OnOk, Result}
use Rattle.std.specs.Cmp.Lexicographic.{bytes_decides}
use Rattle.std.specs.Str.{bytes_eq}
use Rattle.std.proofs.lemmas.Bool.{and_parts}
use Rattle.std.proofs.lemmas.Bool.Decides.{nat_tests}
use Rattle.fan_tree.specs.Changes.{moved}
use Rattle.fan_tree.specs.Tree.{DirEntry, is_named}

-- two entries lead to different inodes
abbrev pub LeadsElsewhere : DirEntry → DirEntry → Type 0
LeadsElsewhere entry other = other.inode ≢ entry.inode

-- an entry with a name has it
pub named_is : (entry : DirEntry) (dir : ℕ) (name : List ℕ)
    → is_named dir name entry ≡ true → (entry.dir ≡ dir) × (entry.name ≡ name)
named_is entry dir name here =
    let parts = and_parts _ (bytes_eq entry.name name) here in
    (grind (arith, nat_tests, parts.0), (bytes_decides entry.name name).0 parts.1)

-- and its own name too
pub named_itself : (entry : DirEntry) → is_named entry.dir entry.name entry ≡ true
named_itself entry =
    let here : (entry.dir == entry.dir) ≡ true = grind (arith, nat_tests) in
    rw (here, (bytes_decides entry.name entry.name).1 refl) refl

-- a move keeps the numbers
pub moved_inode : (dir : ℕ) (name : List ℕ) (to : ℕ) (new_name : List ℕ) (one : DirEntry)
    → (moved dir name to new_name one).inode ≡ one.inode
moved_inode dir name to new_name one = by (is_named dir name one)
  where
    by : (here : Bool) → (cond here (record one { dir = to; name = new_name }) one).inode ≡ one.inode
    by true = refl
    by false = refl

-- what follows from either outcome holds
pub in_either : {A E P Q R : Type 0} (result : Result A E)
    → (P → R) → (Q → R) → OnOk result P → OnErr result Q → R
in_either (Ok x) done refused ok err = done ok
in_either (Err e) done refused ok err = refused err
