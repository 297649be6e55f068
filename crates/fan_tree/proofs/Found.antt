-- What is found in a tree: inodes, by their number, by a name that leads to them, and as roots.
use Rattle.std.proofs.Common.{◌≡◌, ◌≢◌, ◌∙◌, ℕ, ◌+◌, ◌<◌, ◌≤◌, ◌==◌, ◌&&◌, Bool, true, false, cond, List, [], ◌∷◌, Option, Some, None, All, get_or, refl, sym, ap, arith}
use Rattle.std.specs.Prelude.{find, option_map}
use Rattle.std.specs.List.{AllPairs}
use Rattle.std.proofs.lemmas.Bool.Decides.{nat_tests}
use Rattle.std.proofs.lemmas.List.Elements.{All-cons, All-nil, All-weaker}
use Rattle.fan_tree.specs.declared.inode.About.{About}
use Rattle.fan_tree.specs.Tree.{DirEntry, Inode, TreeState, about_of, entry_of, inode_of, is_named, is_root, led_to, root_of}
use Rattle.fan_tree.specs.Whole.{IsBelow, IsEntry, IsInode, IsTree}
use Rattle.fan_lists.proofs.Finds.{All-find, find_none, find_passes}
use Rattle.fan_lists.proofs.Pairs.{AllPairs-head, AllPairs-tail}

-- an inode has a number
abbrev pub has_number : ℕ → Inode → Bool
has_number number inode = inode.number == number

-- it is the root of a filesystem
abbrev pub is_root_of : ℕ → Inode → Bool
is_root_of fs inode = inode.fs == fs && is_root inode

-- what is found is found by its number too
found_by_number : (test : Inode → Bool) (inodes : List Inode) (found : Inode)
    → AllPairs IsBelow inodes → find test inodes ≡ Some found
    → find (has_number found.number) inodes ≡ Some found
found_by_number test [] found rises is = absurd (cc)
found_by_number test (first ∷ more) found rises is =
    let rest = AllPairs-tail IsBelow first more rises in
    (elim (test first) as (λ here. cond here (Some first) (find test more) ≡ Some found
    → find (has_number found.number) (first ∷ more) ≡ Some found) [
      | true ↦ λ same.
          let e : first ≡ found = cc in
          let here : has_number found.number first ≡ true = rw e (grind (arith, nat_tests)) in
          rw here same
      | false ↦ λ same.
          let above : first.number < found.number =
          All-find test (IsBelow first) more found (AllPairs-head IsBelow first more rises) same in
          let differs : has_number found.number first ≡ false = grind (arith, nat_tests) in
          rw differs (found_by_number test more found rest same)
    ]) is

-- each inode is found by its number
pub each_found : (inodes : List Inode)
    → AllPairs IsBelow inodes → All (λ inode. find (has_number inode.number) inodes ≡ Some inode) inodes
each_found [] rises = All-nil (λ (inode : Inode). find (has_number inode.number) [] ≡ Some inode)
each_found (first ∷ more) rises =
    let rest = each_found more (AllPairs-tail IsBelow first more rises) in
    let below = AllPairs-head IsBelow first more rises in
    All-cons (λ inode. find (has_number inode.number) (first ∷ more) ≡ Some inode) first more (here first more)
    (λ k d within. behind first (get_or more k d) more (below k d within) (rest k d within))
  where
    here : (first : Inode) (more : List Inode) → find (has_number first.number) (first ∷ more) ≡ Some first
    here first more = let passes : has_number first.number first ≡ true = grind (arith, nat_tests) in rw passes refl

    behind : (first inode : Inode) (more : List Inode) → first.number < inode.number
        → find (has_number inode.number) more ≡ Some inode
        → find (has_number inode.number) (first ∷ more) ≡ Some inode
    behind first inode more below found =
        let differs : has_number inode.number first ≡ false = grind (arith, nat_tests, below) in rw differs found

-- what is found by a number has it
pub inode_of_number : (tree : TreeState) (number : ℕ) (inode : Inode)
    → inode_of tree number ≡ Some inode → inode.number ≡ number
inode_of_number tree number inode at =
    let passes = find_passes (has_number number) tree.inodes inode at in grind (arith, nat_tests, passes)

-- what is found by a number is an inode
pub inode_of_is : (tree : TreeState) (number : ℕ) (inode : Inode)
    → IsTree tree → inode_of tree number ≡ Some inode → IsInode tree.next inode
inode_of_is tree number inode is at =
    All-find (has_number number) (IsInode tree.next) tree.inodes inode is.each at

-- and so is a root
pub root_of_is : (tree : TreeState) (fs : ℕ) (inode : Inode)
    → IsTree tree → root_of tree fs ≡ Some inode → IsInode tree.next inode
root_of_is tree fs inode is at =
    All-find (is_root_of fs) (IsInode tree.next) tree.inodes inode is.each at

-- a root is a directory
pub root_of_dir : (tree : TreeState) (fs : ℕ) (inode : Inode)
    → IsTree tree → root_of tree fs ≡ Some inode → inode.dir ≡ true
root_of_dir tree fs inode is at =
    let passes = find_passes (is_root_of fs) tree.inodes inode at in
    (root_of_is tree fs inode is at).root (and_right_of (inode.fs == fs) (is_root inode) passes)
  where
    and_right_of : (one other : Bool) → (one && other) ≡ true → other ≡ true
    and_right_of true other both = both
    and_right_of false other both = absurd (cc)

-- what a name leads to is an inode
pub entry_of_is : (tree : TreeState) (dir : ℕ) (name : List ℕ) (inode : Inode)
    → IsTree tree → entry_of tree dir name ≡ Some inode → IsInode tree.next inode
entry_of_is tree dir name inode is at = by (find (is_named dir name) tree.names) at
  where
    by : (found : Option DirEntry) → led_to tree found ≡ Some inode → IsInode tree.next inode
    by None leads = absurd (cc)
    by (Some entry) leads = inode_of_is tree entry.inode inode is leads

-- an object that isn't drawn is no inode
pub no_inode_from : (tree : TreeState) (number : ℕ)
    → IsTree tree → tree.next ≤ number → inode_of tree number ≡ None
no_inode_from tree number is above =
    find_none (has_number number) tree.inodes (All-weaker (IsInode tree.next)
    (λ inode. has_number number inode ≡ false) (λ inode one. later inode one.drawn) tree.inodes is.each)
  where
    later : (inode : Inode) → inode.number < tree.next → has_number number inode ≡ false
    later inode below = grind (arith, nat_tests)

-- the number that a name leads to is that of the inode
pub child_told : (tree : TreeState) (dir : ℕ) (name : List ℕ)
    → IsTree tree
    → option_map (λ entry. entry.inode) (find (is_named dir name) tree.names)
    ≡ option_map (λ inode. inode.number) (entry_of tree dir name)
child_told tree dir name is = by (find (is_named dir name) tree.names) refl
  where
    by : (found : Option DirEntry) → find (is_named dir name) tree.names ≡ found
        → option_map (λ (entry : DirEntry). entry.inode) found
        ≡ option_map (λ (inode : Inode). inode.number) (led_to tree found)
    by None at = refl
    by (Some entry) at =
        let one : IsEntry tree entry =
        All-find (is_named dir name) (IsEntry tree) tree.names entry is.entries at in
        let number = inode_of_number tree entry.inode one.inode one.leads_to in
        rw (one.leads_to, number) refl

-- a name that leads to no inode is not there
pub no_name : (tree : TreeState) (dir : ℕ) (name : List ℕ)
    → IsTree tree → entry_of tree dir name ≡ None → find (is_named dir name) tree.names ≡ None
no_name tree dir name is none = by (find (is_named dir name) tree.names) refl none
  where
    by : (found : Option DirEntry) → find (is_named dir name) tree.names ≡ found
        → led_to tree found ≡ None → found ≡ None
    by None at leads = refl
    by (Some entry) at leads =
        let one : IsEntry tree entry =
        All-find (is_named dir name) (IsEntry tree) tree.names entry is.entries at in
        absurd (let two = one.leads_to in cc)

-- an inode that a name leads to is found by its number
pub inode_of_child : (tree : TreeState) (dir : ℕ) (name : List ℕ) (number : ℕ)
    → option_map (λ inode. inode.number) (entry_of tree dir name) ≡ Some number
    → inode_of tree number ≡ entry_of tree dir name
inode_of_child tree dir name number told = by (find (is_named dir name) tree.names) told
  where
    from : (entry : DirEntry) (found : Option Inode) → inode_of tree entry.inode ≡ found
        → option_map (λ (inode : Inode). inode.number) found ≡ Some number → inode_of tree number ≡ found
    from entry None at is = absurd (cc)
    from entry (Some inode) at is =
        let number_is : inode.number ≡ number = cc in
        let own = inode_of_number tree entry.inode inode at in
        let same : number ≡ entry.inode = cc in
        rw same at

    by : (found : Option DirEntry)
        → option_map (λ (inode : Inode). inode.number) (led_to tree found) ≡ Some number
        → inode_of tree number ≡ led_to tree found
    by None is = absurd (cc)
    by (Some entry) is = from entry (inode_of tree entry.inode) refl is

-- and so is a root
pub inode_of_root : (tree : TreeState) (fs number : ℕ)
    → IsTree tree → option_map (λ inode. inode.number) (root_of tree fs) ≡ Some number
    → inode_of tree number ≡ root_of tree fs
inode_of_root tree fs number is told = by (root_of tree fs) refl told
  where
    by : (found : Option Inode) → root_of tree fs ≡ found
        → option_map (λ (inode : Inode). inode.number) found ≡ Some number → inode_of tree number ≡ found
    by None at told = absurd (cc)
    by (Some inode) at told =
        let same : inode.number ≡ number = cc in
        rw (← same) (found_by_number (is_root_of fs) tree.inodes inode is.rises at)

-- an inode, if it is of a filesystem
abbrev of_fs : ℕ → Option Inode → Option Inode
of_fs fs None = None
of_fs fs (Some inode) = cond (inode.fs == fs) (Some inode) None

root_in : (inodes : List Inode) (fs : ℕ)
    → AllPairs IsBelow inodes → find (is_root_of fs) inodes ≡ of_fs fs (find (has_number (fs + 1)) inodes)
root_in [] fs rises = refl
root_in (first ∷ more) fs rises =
    (elim (has_number (fs + 1) first) as (λ here. has_number (fs + 1) first ≡ here
    → find (is_root_of fs) (first ∷ more)
    ≡ of_fs fs (cond here (Some first) (find (has_number (fs + 1)) more))) [
      | true ↦ λ same. own (first.fs == fs) refl same
      | false ↦ λ differs. rw (other differs) (root_in more fs (AllPairs-tail IsBelow first more rises))
    ]) refl
  where
    other : has_number (fs + 1) first ≡ false → is_root_of fs first ≡ false
    other differs = grind (arith, nat_tests, differs)

    later : (inode : Inode) → has_number (fs + 1) first ≡ true → first.number < inode.number
        → is_root_of fs inode ≡ false
    later inode same below = grind (arith, nat_tests, same, below)

    none : has_number (fs + 1) first ≡ true → find (is_root_of fs) more ≡ None
    none same =
        find_none (is_root_of fs) more (All-weaker (IsBelow first) (λ inode. is_root_of fs inode ≡ false)
        (λ inode below. later inode same below) more (AllPairs-head IsBelow first more rises))

    own : (here : Bool) → (first.fs == fs) ≡ here → has_number (fs + 1) first ≡ true
        → find (is_root_of fs) (first ∷ more) ≡ cond here (Some first) None
    own true at same =
        let passes : is_root_of fs first ≡ true = grind (arith, nat_tests, at, same) in rw passes refl
    own false at same =
        let fails : is_root_of fs first ≡ false = grind (arith, nat_tests, at, same) in
        rw fails (none same)

-- the root of a filesystem is the inode with the number after the filesystem's, if it is of it
root_by_number : (tree : TreeState) (fs : ℕ)
    → IsTree tree → root_of tree fs ≡ of_fs fs (inode_of tree (fs + 1))
root_by_number tree fs is = root_in tree.inodes fs is.rises

-- the number of the root of a filesystem
abbrev pub root_number : TreeState → ℕ → Option ℕ
root_number tree fs = option_map (λ inode. inode.number) (root_of tree fs)

number_by : (tree : TreeState) (fs : ℕ)
    → IsTree tree
    → root_number tree fs ≡ option_map (λ inode. inode.number) (of_fs fs (inode_of tree (fs + 1)))
number_by tree fs is = ap (option_map (λ (inode : Inode). inode.number)) (root_by_number tree fs is)

-- it has none if no inode has the number after the filesystem's
pub no_root : (tree : TreeState) (fs : ℕ)
    → IsTree tree → None ≡ option_map about_of (inode_of tree (fs + 1)) → root_number tree fs ≡ None
no_root tree fs is none = number_by tree fs is ∙ by (inode_of tree (fs + 1)) none
  where
    by : (found : Option Inode) → None ≡ option_map about_of found
        → option_map (λ (inode : Inode). inode.number) (of_fs fs found) ≡ None
    by None none = refl
    by (Some inode) none = absurd (cc)

-- nor if that is none of an object
pub no_root_from : (tree : TreeState) (fs : ℕ) → IsTree tree → 65536 ≤ fs + 1 → root_number tree fs ≡ None
no_root_from tree fs is above =
    let late : tree.next ≤ fs + 1 = omega (arith, is.most) in
    no_root tree fs is (sym (ap (option_map about_of) (no_inode_from tree (fs + 1) is late)))

-- nor if the inode is of another filesystem
pub other_root : (tree : TreeState) (fs : ℕ) (about : About)
    → IsTree tree → Some about ≡ option_map about_of (inode_of tree (fs + 1)) → about.fs ≢ fs
    → root_number tree fs ≡ None
other_root tree fs about is told differs = number_by tree fs is ∙ by (inode_of tree (fs + 1)) told
  where
    by : (found : Option Inode) → Some about ≡ option_map about_of found
        → option_map (λ (inode : Inode). inode.number) (of_fs fs found) ≡ None
    by None some = refl
    by (Some inode) some =
        let same : about ≡ about_of inode = cc in
        let other : inode.fs ≢ fs = rw same at differs in
        let fails : (inode.fs == fs) ≡ false = grind (arith, nat_tests) in rw fails refl

-- and else it is that inode
pub own_root : (tree : TreeState) (fs : ℕ) (about : About)
    → IsTree tree → Some about ≡ option_map about_of (inode_of tree (fs + 1)) → about.fs ≡ fs
    → root_number tree fs ≡ Some (fs + 1)
own_root tree fs about is told own =
    number_by tree fs is ∙ by (inode_of tree (fs + 1)) refl told
  where
    by : (found : Option Inode) → inode_of tree (fs + 1) ≡ found → Some about ≡ option_map about_of found
        → option_map (λ (inode : Inode). inode.number) (of_fs fs found) ≡ Some (fs + 1)
    by None at none = absurd (cc)
    by (Some inode) at some =
        let same : about ≡ about_of inode = cc in
        let here : inode.fs ≡ fs = sym (ap (λ (one : About). one.fs) same) ∙ own in
        let passes : (inode.fs == fs) ≡ true = grind (arith, nat_tests) in
        let number = inode_of_number tree (fs + 1) inode at in
        rw (passes, number) refl
