-- Whatever is made of a tree is a tree, and its names are unique. For callers too.
use Rattle.std.proofs.Common.{◌≡◌, ◌∙◌, ℕ, ◌+◌, Bool, true, false, cond, List, [], ◌∷◌, Option, Some, None, refl, sym, arith, get_or, ltb, inl, inr}
use Rattle.std.specs.List.{AllPairs}
use Rattle.std.specs.Prelude.{Contains, Err, IfOk, IfSome, Ok, Result}
use Rattle.std.proofs.lemmas.Bool.{cases_order}
use Rattle.std.proofs.lemmas.Bool.Decides.{nat_tests}
use Rattle.std.proofs.lemmas.List.{get_or_default}
use Rattle.std.proofs.lemmas.List.Elements.{All-cons, All-nil}
use Rattle.fan_lists.proofs.Pairs.{AllPairs-nil}
use Rattle.fan_bits.specs.declared.errno.Errno.TheVariants as errno
use Rattle.fan_bits.specs.declared.errno.Errno.{Errno}
use Rattle.fan_bits.specs.Places.{IsObject}
use Rattle.fan_tree.specs.Tree.{DirEntry, TreeState, drawn, initial_tree, made, made_fs, max_object, root_inode, with_fs}
use Rattle.fan_tree.specs.Whole.{AreApart, IsBelow, IsEntry, IsInode, IsRooted, IsTree, LeadsBelow}
use Rattle.fan_tree.proofs.Making.{made_ok}
use Rattle.fan_tree.proofs.Whole.{added_is, later_is, with_fs_is}

-- what holds of each outcome that is there
pub if_ok : {A : Type 0} (P : A → Type 0) (result : Result A Errno)
    → ((done : A) → result ≡ Ok done → P done) → IfOk result P
if_ok P (Ok done) each = each done refl
if_ok P (Err why) each = tt

pub if_some : {A : Type 0} (P : A → Type 0) (found : Option A)
    → ((done : A) → found ≡ Some done → P done) → IfSome found P
if_some P (Some done) each = each done refl
if_some P None each = tt

-- the first tree has one inode, and no entry
pub initial_is : IsTree initial_tree
initial_is = record {
  each = All-cons (IsInode 4) (root_inode 1) []
      (record {
        number = (omega arith, omega arith);
        drawn = omega arith;
        fs = (omega arith, omega arith);
        after = omega arith;
        root = λ is. refl;
      })
      (All-nil (IsInode 4));
  rises = AllPairs-one IsBelow (root_inode 1);
  entries = All-nil (IsEntry initial_tree);
  unique = AllPairs-nil AreApart;
  one_name = AllPairs-nil LeadsBelow;
  rooted = All-cons (IsRooted initial_tree) (root_inode 1) [] (0, refl) (All-nil (IsRooted initial_tree));
  some = omega arith;
  most = omega arith;
}
  where
    AllPairs-one : {X : Type 0} (R : X → X → Type 0) (x : X) → AllPairs R (x ∷ [])
    AllPairs-one R x = λ i j d before within. absurd (omega (arith, before, within))

-- an entry that is made leaves a tree
pub made_keeps : (tree : TreeState) (dir : ℕ) (name : List ℕ) (is_dir : Bool) (done : ℕ × TreeState)
    → IsTree tree → made tree dir name is_dir ≡ Ok done → IsTree done.1
made_keeps tree dir name is_dir done whole is =
    let so = made_ok tree dir name is_dir done whole is in
    rw so.is (added_is tree dir name (record { fs = so.fs; dir = is_dir }) whole so.can)

-- and so does a filesystem
pub made_fs_keeps : (tree : TreeState) (done : ℕ × TreeState)
    → IsTree tree → made_fs tree ≡ Ok done → IsTree done.1
unfolding made_fs
made_fs_keeps tree done whole is = by (ltb max_object (tree.next + 1)) refl is
  where
    by : (full : Bool) → ltb max_object (tree.next + 1) ≡ full
        → cond full (Err errno.Enospc) (Ok (tree.next, with_fs tree)) ≡ Ok done → IsTree done.1
    by true at so = absurd (cc)
    by false at so =
        let same : (tree.next, with_fs tree) ≡ done = cc in
        rw (← same) (with_fs_is tree whole (grind (arith, nat_tests, at)))

-- and so does a number that is drawn
pub drawn_keeps : (tree : TreeState) (done : ℕ × TreeState)
    → IsTree tree → drawn tree ≡ Some done → IsTree done.1
unfolding drawn
drawn_keeps tree done whole is = by (ltb max_object tree.next) refl is
  where
    by : (full : Bool) → ltb max_object tree.next ≡ full
        → cond full None (Some (tree.next, record tree { next = tree.next + 1 })) ≡ Some done → IsTree done.1
    by true at so = absurd (cc)
    by false at so =
        let same : (tree.next, record tree { next = tree.next + 1 }) ≡ done = cc in
        rw (← same) (later_is tree whole (grind (arith, nat_tests, at)))

-- a number was drawn: it is the next one, and that of an object
pub record IsDrawn (tree : TreeState) (number : ℕ) (after : TreeState) : Type 0 where
  pub drew : number ≡ tree.next
  pub next : after.next ≡ tree.next + 1
  pub object : IsObject number

pub drawn_some : (tree : TreeState) (draw : ℕ × TreeState)
    → IsTree tree → drawn tree ≡ Some draw → IsDrawn tree draw.0 draw.1
unfolding drawn
drawn_some tree draw whole is = by (ltb max_object tree.next) refl is
  where
    by : (full : Bool) → ltb max_object tree.next ≡ full
        → cond full None (Some (tree.next, record tree { next = tree.next + 1 })) ≡ Some draw
        → IsDrawn tree draw.0 draw.1
    by true at so = absurd (cc)
    by false at so =
        let same : (tree.next, record tree { next = tree.next + 1 }) ≡ draw = cc in
        let some = whole.some in
        rw (← same) (record {
          drew = refl;
          next = refl;
          object = (omega (arith, some), grind (arith, nat_tests, at));
        })

-- two entries of a tree that have one directory and one name are one
pub entries_unique : (tree : TreeState) (one other : DirEntry)
    → IsTree tree → Contains tree.names one → Contains tree.names other
    → one.dir ≡ other.dir → one.name ≡ other.name → one ≡ other
entries_unique tree one other whole first second dir name =
    elim (cases_order first.0 second.0) [
      | inl same ↦ rw (← first.2, same) (second_at one)
      | inr (inl before) ↦
          let apart = whole.unique first.0 second.0 one before second.1 in
          absurd (rw (first.2, second_at one) at apart dir name)
      | inr (inr behind) ↦
          let apart = whole.unique second.0 first.0 one behind first.1 in
          absurd (rw (first.2, second_at one) at apart (sym dir) (sym name))
    ]
  where
    second_at : (d : DirEntry) → get_or tree.names second.0 d ≡ other
    second_at d = get_or_default tree.names second.0 d other second.1 ∙ second.2
