-- What is taken out of a tree leaves a tree.
use Rattle.std.proofs.Common.{◌≡◌, ◌≢◌, ◌∙◌, ℕ, ◌+◌, ◌<◌, ◌==◌, Bool, true, false, cond, List, [], ◌∷◌, Option, Some, None, All, get_or, refl, sym, ap, arith, suc, zero}
use Rattle.std.specs.List.{AllPairs}
use Rattle.std.specs.Prelude.{Err, IsSome, Ok, find, not, option_map}
use Rattle.std.proofs.lemmas.Bool.{false_from_ne_true, not-true, not_from_false}
use Rattle.std.proofs.lemmas.Bool.Decides.{nat_tests}
use Rattle.std.proofs.lemmas.List.Elements.{All-cons, All-filter, All-nil, All-weaker, filter_passes}
use Rattle.std.proofs.lemmas.List.Kept.{AllPairs-filter}
use Rattle.fan_bits.specs.declared.errno.Errno.TheVariants as errno
use Rattle.fan_lists.proofs.Finds.{All-find, find_passes, find_wider, is_some-find}
use Rattle.fan_lists.proofs.Pairs.{AllPairs-head, AllPairs-tail}
use Rattle.fan_tree.specs.Ancestors.{ancestor, leads_to, parent_of}
use Rattle.fan_tree.specs.Changes.{has_entries, removed, removed_by, without_entry}
use Rattle.fan_tree.specs.Steps.{CanTake}
use Rattle.fan_tree.specs.Tree.{DirEntry, Inode, TreeState, entry_of, inode_of, is_named, led_to}
use Rattle.fan_tree.specs.Whole.{AreApart, IsBelow, IsEntry, IsInode, IsRooted, IsTree, LeadsBelow}
use Rattle.fan_tree.specs.Table.{is_in}
use Rattle.fan_tree.proofs.EntryLemmas.{LeadsElsewhere, named_is}
use Rattle.fan_tree.proofs.Found.{has_number, inode_of_is, inode_of_number}
use Rattle.fan_tree.proofs.Lists.{each_fails, find_past}
use Rattle.fan_tree.proofs.Making.{none_from_is_some}
use Rattle.fan_tree.proofs.Upward.{first_step, one_more, step_up}

-- where numbers rise, the entries that fail a test lead elsewhere than the one that is found by it
others_elsewhere : (test : DirEntry → Bool) (entry : DirEntry) (entries : List DirEntry)
    → AllPairs LeadsBelow entries → find test entries ≡ Some entry
    → All (λ other. test other ≡ false → LeadsElsewhere entry other) entries
others_elsewhere test entry [] rises found = All-nil (λ other. test other ≡ false → LeadsElsewhere entry other)
others_elsewhere test entry (first ∷ more) rises found =
    (elim (test first) as (λ here. test first ≡ here → cond here (Some first) (find test more) ≡ Some entry
    → All (λ other. test other ≡ false → LeadsElsewhere entry other) (first ∷ more)) [
      | true ↦ λ passes is.
          let same : first ≡ entry = cc in
          All-cons (λ other. test other ≡ false → LeadsElsewhere entry other) first more
          (λ fails. absurd (let both = sym fails ∙ passes in cc))
          (All-weaker (LeadsBelow first) (λ other. test other ≡ false → LeadsElsewhere entry other)
          (λ other below fails. rw (← same) (after other below)) more (AllPairs-head LeadsBelow first more rises))
      | false ↦ λ fails is.
          let below = All-find test (LeadsBelow first) more entry (AllPairs-head LeadsBelow first more rises) is in
          All-cons (λ other. test other ≡ false → LeadsElsewhere entry other) first more (λ no. omega (arith, below))
          (others_elsewhere test entry more (AllPairs-tail LeadsBelow first more rises) is)
    ]) refl found
  where
    after : (other : DirEntry) → first.inode < other.inode → other.inode ≢ first.inode
    after other below = omega arith

-- in a directory no other entry has the name of the one that is found by it
pub same_named : (dir : ℕ) (name : List ℕ) (entry : DirEntry) (entries : List DirEntry)
    → AllPairs AreApart entries → find (is_named dir name) entries ≡ Some entry
    → All (λ other. is_named dir name other ≡ true → other ≡ entry) entries
same_named dir name entry [] apart found = All-nil (λ other. is_named dir name other ≡ true → other ≡ entry)
same_named dir name entry (first ∷ more) apart found =
    (elim (is_named dir name first) as (λ here. is_named dir name first ≡ here
    → cond here (Some first) (find (is_named dir name) more) ≡ Some entry
    → All (λ other. is_named dir name other ≡ true → other ≡ entry) (first ∷ more)) [
      | true ↦ λ passes is.
          let own = named_is first dir name passes in
          All-cons (λ other. is_named dir name other ≡ true → other ≡ entry) first more (λ same. cc)
          (All-weaker (AreApart first) (λ other. is_named dir name other ≡ true → other ≡ entry)
          (λ other differ named. let also = named_is other dir name named in
          absurd (differ (own.0 ∙ sym also.0) (own.1 ∙ sym also.1)))
          more (AllPairs-head AreApart first more apart))
      | false ↦ λ fails is.
          All-cons (λ other. is_named dir name other ≡ true → other ≡ entry) first more
          (λ named. absurd (let both = sym fails ∙ named in cc))
          (same_named dir name entry more (AllPairs-tail AreApart first more apart) is)
    ]) refl found

-- an entry that can be taken, with its inode
module _ (tree : TreeState) (dir : ℕ) (name : List ℕ) (number : ℕ) (is : IsTree tree)
    (can : CanTake tree dir name number) where
  abbrev taken : DirEntry
  taken = record { dir = dir; name = name; inode = number }

  abbrev left : TreeState
  left = without_entry tree dir name number

  -- the entry is one of the tree
  taken_is : IsEntry tree taken
  taken_is = All-find (is_named dir name) (IsEntry tree) tree.names taken is.entries can.there

  -- its inode is there, and has its number
  pub taken_there : IsSome (inode_of tree number)
  taken_there = rw taken_is.leads_to refl

  taken_number : taken_is.inode.number ≡ number
  taken_number = inode_of_number tree number taken_is.inode taken_is.leads_to

  -- it is not the root of filesystem 1
  pub taken_other : number ≢ 2
  taken_other =
      let inode = inode_of_is tree number taken_is.inode is taken_is.leads_to in
      let no_root = taken_is.no_root in
      grind (arith, nat_tests, taken_number, no_root, inode.fs.0, inode.after)

  -- other inodes stay
  inode_stays : (other : ℕ) (inode : Inode)
      → other ≢ number → inode_of tree other ≡ Some inode → inode_of left other ≡ Some inode
  inode_stays other inode differs at =
      find_wider (has_number other) (λ one. not (one.number == number)) (λ one same. passes one same) tree.inodes
      ∙ at
    where
      passes : (one : Inode) → has_number other one ≡ true → not (one.number == number) ≡ true
      passes one same =
          let differs_too : (one.number == number) ≡ false = grind (arith, nat_tests, same, differs) in
          not_from_false (one.number == number) differs_too

  -- and so do other entries
  entry_stays : (entry : DirEntry)
      → IsEntry tree entry → is_in number entry ≡ false → entry.inode ≢ number → IsEntry left entry
  entry_stays entry one outside elsewhere = record {
    parent = one.parent;
    inode = one.inode;
    in_dir = inode_stays entry.dir one.parent (grind (arith, nat_tests, outside)) one.in_dir;
    leads_to = inode_stays entry.inode one.inode elsewhere one.leads_to;
    is_dir = one.is_dir;
    same_fs = one.same_fs;
    no_root = one.no_root;
  }

  -- none is in the inode that goes, and none leads there
  none_inside : All (λ entry. is_in number entry ≡ false) tree.names
  none_inside =
      each_fails (is_in number) tree.names
      (none_from_is_some (find (is_in number) tree.names) (is_some-find (is_in number) tree.names ∙ can.empty))

  entries_stay : All (IsEntry left) left.names
  entries_stay =
      let kept : DirEntry → Bool = λ entry. not (is_named dir name entry) in
      let others = All-filter kept (λ entry. is_named dir name entry ≡ false → LeadsElsewhere taken entry) tree.names
      (others_elsewhere (is_named dir name) taken tree.names is.one_name can.there) in
      let each = All-filter kept (IsEntry tree) tree.names is.entries in
      let outside = All-filter kept (λ entry. is_in number entry ≡ false) tree.names none_inside in
      let passes = filter_passes kept tree.names in
      λ k d within.
      entry_stays _ (each k d within) (outside k d within)
      (others k d within (not-true _ (passes k d within)))

  -- steps up from other inodes stay, and lead to others
  up_stays : (other parent : ℕ)
      → other ≢ number → parent_of tree other ≡ Some parent → parent_of left other ≡ Some parent
  up_stays other parent differs up =
      let kept : DirEntry → Bool = λ entry. not (is_named dir name entry) in
      ap (option_map (λ (entry : DirEntry). entry.dir))
      (find_past (leads_to other) kept tree.names
      (All-weaker (λ (entry : DirEntry). is_named dir name entry ≡ true → entry ≡ taken)
      (λ entry. leads_to other entry ≡ true → kept entry ≡ true) (λ entry same leads. stays entry same leads)
      tree.names (same_named dir name taken tree.names is.unique can.there)))
      ∙ up
    where
      stays : (entry : DirEntry) → (is_named dir name entry ≡ true → entry ≡ taken) → leads_to other entry ≡ true
          → not (is_named dir name entry) ≡ true
      stays entry same leads =
          not_from_false (is_named dir name entry)
          (false_from_ne_true _ (λ named. let own : entry.inode ≡ number = ap (λ (one : DirEntry). one.inode) (same named) in
          differs (grind (arith, nat_tests, leads, own))))

  parent_differs : (other parent : ℕ) → parent_of tree other ≡ Some parent → parent ≢ number
  parent_differs other parent up =
      let step = step_up tree other parent is.entries up in
      let outside : is_in number step.entry ≡ false =
      All-find (leads_to other) (λ entry. is_in number entry ≡ false) tree.names step.entry none_inside step.found in
      let dir_is = step.dir in
      λ same. absurd (let wrong : is_in number step.entry ≡ true = grind (arith, nat_tests, dir_is, same) in cc)

  way_stays : (steps other above : ℕ)
      → other ≢ number → ancestor tree steps other ≡ Some above → ancestor left steps other ≡ Some above
  way_stays zero other above differs way = way
  way_stays (suc steps) other above differs way =
      let first = first_step tree steps other above way in
      one_more left steps other above first.parent (up_stays other first.parent differs first.up)
      (way_stays steps first.parent above (parent_differs other first.parent first.up) first.rest)

  all_rooted : All (IsRooted left) left.inodes
  all_rooted =
      let kept : Inode → Bool = λ inode. not (inode.number == number) in
      let rooted = All-filter kept (IsRooted tree) tree.inodes is.rooted in
      let others = filter_passes kept tree.inodes in
      λ k d within. stays (get_or left.inodes k d) (others k d within) (rooted k d within)
    where
      stays : (inode : Inode) → not (inode.number == number) ≡ true → IsRooted tree inode → IsRooted left inode
      stays inode passes rooted =
          let fails = not-true (inode.number == number) passes in
          (rooted.0, way_stays rooted.0 inode.number (inode.fs + 1) (grind (arith, nat_tests, fails)) rooted.1)

  -- what is left is a tree
  pub left_is : IsTree (without_entry tree dir name number)
  left_is = record {
    each = All-filter (λ inode. not (inode.number == number)) (IsInode tree.next) tree.inodes is.each;
    rises = AllPairs-filter IsBelow (λ inode. not (inode.number == number)) tree.inodes is.rises;
    entries = entries_stay;
    unique = AllPairs-filter AreApart (λ entry. not (is_named dir name entry)) tree.names is.unique;
    one_name = AllPairs-filter LeadsBelow (λ entry. not (is_named dir name entry)) tree.names is.one_name;
    rooted = all_rooted;
    some = is.some;
    most = is.most;
  }

  -- and it is what the definition says
  pub removed_ok : removed tree dir name ≡ Ok (number, without_entry tree dir name number)
  unfolding removed
  removed_ok =
      let one = taken_is in
      rw (can.there, one.leads_to, taken_number, can.empty) refl

-- a name that leads to a number is that of an entry
pub name_leads : (tree : TreeState) (dir : ℕ) (name : List ℕ) (number : ℕ)
    → IsTree tree → Some number ≡ option_map (λ inode. inode.number) (entry_of tree dir name)
    → find (is_named dir name) tree.names ≡ Some (record { dir = dir; name = name; inode = number })
name_leads tree dir name number is told = by (find (is_named dir name) tree.names) refl told
  where
    by : (found : Option DirEntry) → find (is_named dir name) tree.names ≡ found
        → Some number ≡ option_map (λ (inode : Inode). inode.number) (led_to tree found)
        → found ≡ Some (record { dir = dir; name = name; inode = number })
    by None at told = absurd (cc)
    by (Some entry) at told =
        let one : IsEntry tree entry =
        All-find (is_named dir name) (IsEntry tree) tree.names entry is.entries at in
        let own = inode_of_number tree entry.inode one.inode one.leads_to in
        let leads = one.leads_to in
        let led : Some number ≡ Some one.inode.number = rw leads at told in
        let same : entry.inode ≡ number = cc in
        let here = named_is entry dir name (find_passes (is_named dir name) tree.names entry at) in
        rw (← here.0, ← here.1, ← same) refl

-- and it can be taken if it leads to no directory with entries
pub can_take : (tree : TreeState) (dir : ℕ) (name : List ℕ) (number : ℕ)
    → IsTree tree → Some number ≡ option_map (λ inode. inode.number) (entry_of tree dir name)
    → has_entries tree number ≡ false → CanTake tree dir name number
can_take tree dir name number is told empty =
    record { there = name_leads tree dir name number is told; empty = empty }

removed_by_ok : (tree : TreeState) (dir : ℕ) (name : List ℕ) (done : ℕ × TreeState) (found : Option Inode)
    → IsTree tree → entry_of tree dir name ≡ found → removed_by found tree dir name ≡ Ok done → IsTree done.1
removed_by_ok tree dir name done None is at so = absurd (cc)
removed_by_ok tree dir name done (Some inode) is at so = by (has_entries tree inode.number) refl so
  where
    by : (full : Bool) → has_entries tree inode.number ≡ full
        → cond full (Err errno.Enotempty) (Ok (inode.number, without_entry tree dir name inode.number)) ≡ Ok done
        → IsTree done.1
    by true full same = absurd (cc)
    by false empty same =
        let told : Some inode.number ≡ option_map (λ (one : Inode). one.number) (entry_of tree dir name) =
        rw at refl in
        let can = can_take tree dir name inode.number is told empty in
        let e : (inode.number, without_entry tree dir name inode.number) ≡ done = cc in
        rw (← e) (left_is tree dir name inode.number is can)

-- what is removed leaves a tree
pub removed_keeps : (tree : TreeState) (dir : ℕ) (name : List ℕ) (done : ℕ × TreeState)
    → IsTree tree → removed tree dir name ≡ Ok done → IsTree done.1
unfolding removed
removed_keeps tree dir name done is so = removed_by_ok tree dir name done (entry_of tree dir name) is refl so
