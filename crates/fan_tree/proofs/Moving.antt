-- What is moved in a tree leaves a tree.
use Rattle.std.proofs.Common.{◌≡◌, ◌≢◌, ◌∙◌, ℕ, ◌+◌, ◌<◌, ◌==◌, Bool, true, false, cond, List, [], ◌∷◌, Option, Some, None, All, get_or, is_some, refl, sym, ap, arith, suc, zero}
use Rattle.std.specs.List.{AllPairs}
use Rattle.std.specs.Prelude.{Err, Ok, Result, find, not, option_map}
use Rattle.std.proofs.lemmas.Bool.{false_from_ne_true, not-false}
use Rattle.std.proofs.lemmas.Bool.Decides.{nat_tests}
use Rattle.std.proofs.lemmas.List.Elements.{All-map, All-weaker}
use Rattle.fan_bits.specs.declared.errno.Errno.TheVariants as errno
use Rattle.fan_bits.specs.declared.errno.Errno.{Errno}
use Rattle.fan_lists.proofs.Finds.{All-find, find-map, find_agree, find_passes}
use Rattle.fan_lists.proofs.Pairs.{AllPairs-head, AllPairs-map, AllPairs-tail}
use Rattle.fan_tree.specs.Ancestors.{LiesWithin, ancestor, leads_to, lies_within, parent_of}
use Rattle.fan_tree.specs.Changes.{moved, renamed, renamed_to, with_moved}
use Rattle.fan_tree.specs.Steps.{CanMove, movable, movable_by}
use Rattle.fan_tree.specs.Tree.{DirEntry, Inode, TreeState, about_of, entry_of, inode_of, is_named}
use Rattle.fan_tree.specs.Whole.{AreApart, IsEntry, IsRooted, IsTree, LeadsBelow}
use Rattle.fan_tree.proofs.EntryLemmas.{named_is, named_itself}
use Rattle.fan_tree.proofs.Found.{each_found, inode_of_child, inode_of_number, no_name}
use Rattle.fan_tree.proofs.Lists.{each_fails}
use Rattle.fan_tree.proofs.Making.{none_from_is_some}
use Rattle.fan_tree.proofs.EntryLemmas.{moved_inode}
use Rattle.fan_tree.proofs.Removing.{name_leads, same_named}
use Rattle.fan_tree.proofs.Upward.{above_is, first_step, one_more, told_within, within_root}

-- two entries are apart, and neither has a name
abbrev AreFree : ℕ → List ℕ → DirEntry → DirEntry → Type 0
AreFree to name one other =
    AreApart one other × (is_named to name one ≡ false) × (is_named to name other ≡ false)

-- an entry without a name is apart from one that has it
apart_free : (to : ℕ) (name : List ℕ) (entry : DirEntry)
    → is_named to name entry ≡ false → entry.dir ≡ to → entry.name ≡ name → ⊥
apart_free to name entry fails dir same =
    absurd (let here = named_itself entry in let wrong = rw (dir, same) at here in cc)

-- they are apart after one of them got the name
apart_moved : (dir : ℕ) (name : List ℕ) (to : ℕ) (new_name : List ℕ) (one other : DirEntry)
    → AreFree to new_name one other
    → AreApart (moved dir name to new_name one) (moved dir name to new_name other)
apart_moved dir name to new_name one other free = by (is_named dir name one) refl (is_named dir name other) refl
  where
    into : DirEntry → DirEntry
    into entry = record entry { dir = to; name = new_name }

    by : (here : Bool) → is_named dir name one ≡ here → (there : Bool) → is_named dir name other ≡ there
        → AreApart (cond here (record one { dir = to; name = new_name }) one)
        (cond there (record other { dir = to; name = new_name }) other)
    by true here true there = λ same_dir same_name.
        let first = named_is one dir name here in
        let second = named_is other dir name there in
        free.0 (first.0 ∙ sym second.0) (first.1 ∙ sym second.1)
    by true here false there = λ same_dir same_name.
        apart_free to new_name other free.2 (sym same_dir) (sym same_name)
    by false here true there = λ same_dir same_name. apart_free to new_name one free.1 same_dir same_name
    by false here false there = free.0

-- an entry that is found is the one that leads to its inode, where the numbers rise
leads_own : (test : DirEntry → Bool) (entry : DirEntry) (entries : List DirEntry)
    → AllPairs LeadsBelow entries → find test entries ≡ Some entry
    → find (leads_to entry.inode) entries ≡ Some entry
leads_own test entry [] rises found = absurd (cc)
leads_own test entry (first ∷ more) rises found =
    (elim (test first) as (λ here. cond here (Some first) (find test more) ≡ Some entry
    → find (leads_to entry.inode) (first ∷ more) ≡ Some entry) [
      | true ↦ λ is.
          let same : first ≡ entry = cc in
          let passes : leads_to entry.inode first ≡ true = rw same (grind (arith, nat_tests)) in
          rw passes is
      | false ↦ λ is.
          let below : first.inode < entry.inode =
          All-find test (LeadsBelow first) more entry (AllPairs-head LeadsBelow first more rises) is in
          let fails : leads_to entry.inode first ≡ false = grind (arith, nat_tests, below) in
          rw fails (leads_own test entry more (AllPairs-tail LeadsBelow first more rises) is)
    ]) found

-- an entry that can be moved, and where it goes
module _ (tree : TreeState) (dir : ℕ) (name : List ℕ) (number to : ℕ) (new_name : List ℕ) (is : IsTree tree)
    (can : CanMove tree dir name number to new_name) where
  abbrev from : DirEntry
  from = record { dir = dir; name = name; inode = number }

  abbrev left : TreeState
  left = with_moved tree dir name to new_name

  from_is : IsEntry tree from
  from_is = All-find (is_named dir name) (IsEntry tree) tree.names from is.entries can.there

  -- the moved entry is in the other directory, an entry with another name where it was
  entry_moved : (entry : DirEntry) → IsEntry tree entry → IsEntry left (moved dir name to new_name entry)
  entry_moved entry one = by (is_named dir name entry) refl
    where
      fs : entry.dir ≡ dir → one.inode.fs ≡ can.target.fs
      fs same =
          let own = from_is in
          let there = one.in_dir in
          let here : Some one.parent ≡ Some own.parent = sym (rw same at there) ∙ own.in_dir in
          let parent : one.parent ≡ own.parent = cc in
          let inode : Some own.inode ≡ Some can.inode = sym own.leads_to ∙ can.inode_there in
          let same_inode : own.inode ≡ can.inode = cc in
          one.same_fs ∙ ap (λ (x : Inode). x.fs) parent ∙ sym own.same_fs ∙ ap (λ (x : Inode). x.fs) same_inode
          ∙ can.same_fs

      by : (here : Bool) → is_named dir name entry ≡ here
          → IsEntry left (cond here (record entry { dir = to; name = new_name }) entry)
      by true here = record {
        parent = can.target;
        inode = one.inode;
        in_dir = can.target_there;
        leads_to = one.leads_to;
        is_dir = can.is_dir;
        same_fs = fs (named_is entry dir name here).0;
        no_root = one.no_root;
      }
      by false here = record {
        parent = one.parent;
        inode = one.inode;
        in_dir = one.in_dir;
        leads_to = one.leads_to;
        is_dir = one.is_dir;
        same_fs = one.same_fs;
        no_root = one.no_root;
      }

  all_free : AllPairs (AreFree to new_name) tree.names
  all_free =
      let each = each_fails (is_named to new_name) tree.names can.free in
      λ i j d before within. (is.unique i j d before within, each i d (omega arith), each j d within)

  -- the directory of an inode after the move
  up_moved : (other : ℕ)
      → parent_of left other
      ≡ option_map (λ (entry : DirEntry). (moved dir name to new_name entry).dir) (find (leads_to other) tree.names)
  up_moved other =
      let f = moved dir name to new_name in
      ap (option_map (λ (entry : DirEntry). entry.dir))
      (find-map (leads_to other) f tree.names
      ∙ ap (option_map f) (find_agree (λ entry. leads_to other (f entry)) (leads_to other) tree.names (λ k d within. same (get_or tree.names k d))))
      ∙ twice (find (leads_to other) tree.names)
    where
      same : (entry : DirEntry) → leads_to other (moved dir name to new_name entry) ≡ leads_to other entry
      same entry = rw (moved_inode dir name to new_name entry) refl

      twice : (found : Option DirEntry)
          → option_map (λ (entry : DirEntry). entry.dir) (option_map (moved dir name to new_name) found)
          ≡ option_map (λ (entry : DirEntry). (moved dir name to new_name entry).dir) found
      twice None = refl
      twice (Some entry) = refl

  -- that of the inode is where its entry went
  own_moved : parent_of left number ≡ Some to
  own_moved =
      up_moved number
      ∙ rw (leads_own (is_named dir name) from tree.names is.one_name can.there, named_itself from) refl

  -- those of others stay
  up_stays : (other parent : ℕ)
      → other ≢ number → parent_of tree other ≡ Some parent → parent_of left other ≡ Some parent
  up_stays other parent differs up = up_moved other ∙ by (find (leads_to other) tree.names) refl up
    where
      other_name : (entry : DirEntry) → find (leads_to other) tree.names ≡ Some entry → is_named dir name entry ≡ false
      other_name entry at =
          let one = All-find (leads_to other) (λ one. is_named dir name one ≡ true → one ≡ from) tree.names entry
          (same_named dir name from tree.names is.unique can.there) at in
          let leads = find_passes (leads_to other) tree.names entry at in
          false_from_ne_true _ (λ named. let own : entry.inode ≡ number = ap (λ (e : DirEntry). e.inode) (one named) in
          differs (grind (arith, nat_tests, leads, own)))

      by : (found : Option DirEntry) → find (leads_to other) tree.names ≡ found
          → option_map (λ (entry : DirEntry). entry.dir) found ≡ Some parent
          → option_map (λ (entry : DirEntry). (moved dir name to new_name entry).dir) found ≡ Some parent
      by None at none = absurd (cc)
      by (Some entry) at some = rw (other_name entry at) some

  -- the way up from where it went doesn't come by it
  way_past : (steps other above : ℕ)
      → (LiesWithin tree other number → ⊥) → ancestor tree steps other ≡ Some above
      → ancestor left steps other ≡ Some above
  way_past zero other above outside way = way
  way_past (suc steps) other above outside way =
      let first = first_step tree steps other above way in
      let differs : other ≢ number = λ same. outside (0, ap Some same) in
      one_more left steps other above first.parent (up_stays other first.parent differs first.up)
      (way_past steps first.parent above
      (λ on. outside (suc on.0, one_more tree on.0 other number first.parent first.up on.1)) first.rest)

  -- a way up that comes by the inode goes on from there
  way_moved : (steps other above : ℕ)
      → ancestor tree steps other ≡ Some above → (LiesWithin tree other number → LiesWithin left to above)
      → LiesWithin left other above
  way_moved zero other above way onward = (0, way)
  way_moved (suc steps) other above way onward =
      let first = first_step tree steps other above way in
      let rest = way_moved steps first.parent above first.rest
      (λ on. onward (suc on.0, one_more tree on.0 other number first.parent first.up on.1)) in
      by (other == number) refl first.parent first.up rest
    where
      by : (here : Bool) → (other == number) ≡ here → (parent : ℕ) → parent_of tree other ≡ Some parent
          → LiesWithin left parent above → LiesWithin left other above
      by true at parent up rest =
          let same : other ≡ number = grind (arith, nat_tests, at) in
          let on = onward (0, ap Some same) in
          let own : parent_of left other ≡ Some to = rw same own_moved in
          (suc on.0, one_more left on.0 other above to own on.1)
      by false at parent up rest =
          let differs : other ≢ number = grind (arith, nat_tests, at) in
          (suc rest.0, one_more left rest.0 other above parent (up_stays other parent differs up) rest.1)

  all_rooted : All (IsRooted left) left.inodes
  all_rooted =
      let found = each_found tree.inodes is.rises in
      λ k d within. stays (get_or tree.inodes k d) (found k d within) (is.rooted k d within)
    where
      outside : LiesWithin tree to number → ⊥
      outside within = absurd (let told = told_within tree to number is within in let no = can.outside in cc)

      stays : (inode : Inode) → inode_of tree inode.number ≡ Some inode → IsRooted tree inode → IsRooted left inode
      stays inode at rooted =
          way_moved rooted.0 inode.number (inode.fs + 1) rooted.1
          (λ on.
          let up = above_is tree on.0 inode.number number inode is.entries at on.1 in
          let there = up.there in
          let own = can.inode_there in
          let same : can.inode ≡ up.up = cc in
          let fs : can.target.fs ≡ inode.fs = sym can.same_fs ∙ ap (λ (x : Inode). x.fs) same ∙ up.same_fs in
          let way = within_root tree to inode.fs can.target is.rooted can.target_there fs in
          (way.0, way_past way.0 to (inode.fs + 1) outside way.1))

  -- what is left is a tree
  pub moved_is : IsTree (with_moved tree dir name to new_name)
  moved_is = record {
    each = is.each;
    rises = is.rises;
    entries = All-map (IsEntry left) (moved dir name to new_name) tree.names
        (All-weaker (IsEntry tree) (λ entry. IsEntry left (moved dir name to new_name entry)) entry_moved tree.names
        is.entries);
    unique = AllPairs-map (AreFree to new_name) AreApart (moved dir name to new_name)
        (apart_moved dir name to new_name) tree.names all_free;
    one_name = AllPairs-map LeadsBelow LeadsBelow (moved dir name to new_name)
        (λ one other below.
        rw (moved_inode dir name to new_name one, moved_inode dir name to new_name other) below) tree.names is.one_name;
    rooted = all_rooted;
    some = is.some;
    most = is.most;
  }

-- a number, and the tree that is left, or the refusal
abbrev pub with_left : Result ℕ Errno → TreeState → Result (ℕ × TreeState) Errno
with_left (Ok number) tree = Ok (number, tree)
with_left (Err why) tree = Err why

-- what is renamed is what is moved, if it can be
pub renamed_is : (tree : TreeState) (dir : ℕ) (name : List ℕ) (number to : ℕ) (new_name : List ℕ)
    → IsTree tree → Some number ≡ option_map (λ inode. inode.number) (entry_of tree dir name)
    → renamed tree dir name to new_name
    ≡ with_left (movable tree number to new_name) (with_moved tree dir name to new_name)
unfolding renamed movable
renamed_is tree dir name number to new_name is told =
    rw (inode_of_child tree dir name number (sym told))
    (by (entry_of tree dir name) (inode_of tree to) refl told)
  where
    tested : (file other taken within : Bool) (one : ℕ) (left : TreeState)
        → cond file (Err errno.Enotdir)
        (cond other (Err errno.Exdev) (cond taken (Err errno.Eexist) (cond within (Err errno.Einval) (Ok (one, left)))))
        ≡ with_left (cond file (Err errno.Enotdir)
        (cond other (Err errno.Exdev) (cond taken (Err errno.Eexist) (cond within (Err errno.Einval) (Ok one))))) left
    tested true other taken within one left = refl
    tested false true taken within one left = refl
    tested false false true within one left = refl
    tested false false false true one left = refl
    tested false false false false one left = refl

    by : (found target : Option Inode) → inode_of tree to ≡ target
        → Some number ≡ option_map (λ (inode : Inode). inode.number) found
        → renamed_to found target tree dir name new_name
        ≡ with_left
        (movable_by (option_map about_of found) (option_map about_of target) tree number to new_name)
        (with_moved tree dir name to new_name)
    by None target at same = absurd (cc)
    by (Some inode) None at same = refl
    by (Some inode) (Some target) at same =
        let own : inode.number ≡ number = cc in
        let there : target.number ≡ to = inode_of_number tree to target at in
        rw (own, there)
        (tested (not target.dir) (not (inode.fs == target.fs)) (is_some (entry_of tree to new_name))
        (lies_within tree to number) number (with_moved tree dir name to new_name))

-- nothing is renamed without its name
pub renamed_none : (tree : TreeState) (dir : ℕ) (name : List ℕ) (to : ℕ) (new_name : List ℕ)
    → None ≡ option_map (λ inode. inode.number) (entry_of tree dir name)
    → renamed tree dir name to new_name ≡ Err errno.Enoent
unfolding renamed
renamed_none tree dir name to new_name none = by (entry_of tree dir name) none
  where
    by : (found : Option Inode) → None ≡ option_map (λ (inode : Inode). inode.number) found
        → renamed_to found (inode_of tree to) tree dir name new_name ≡ Err errno.Enoent
    by None none = refl
    by (Some inode) none = absurd (cc)

-- what holds if all tests are passed
record Passes (file other taken within : Bool) (one found : ℕ) : Type 0 where
  directory : file ≡ false
  same_fs : other ≡ false
  free : taken ≡ false
  outside : within ≡ false
  same : one ≡ found

-- an entry can be moved that is found to be movable
pub can_move : (tree : TreeState) (dir : ℕ) (name : List ℕ) (number to : ℕ) (new_name : List ℕ) (found : ℕ)
    → IsTree tree → Some number ≡ option_map (λ inode. inode.number) (entry_of tree dir name)
    → movable tree number to new_name ≡ Ok found → CanMove tree dir name found to new_name
unfolding movable
can_move tree dir name number to new_name found is told can =
    by (inode_of tree number) (inode_of tree to) refl refl can
  where
    passes : (file other taken within : Bool) (one : ℕ)
        → cond file (Err errno.Enotdir)
        (cond other (Err errno.Exdev) (cond taken (Err errno.Eexist) (cond within (Err errno.Einval) (Ok one))))
        ≡ Ok found
        → Passes file other taken within one found
    passes true other taken within one so = absurd (cc)
    passes false true taken within one so = absurd (cc)
    passes false false true within one so = absurd (cc)
    passes false false false true one so = absurd (cc)
    passes false false false false one so =
        record { directory = refl; same_fs = refl; free = refl; outside = refl; same = cc }

    by : (inode target : Option Inode) → inode_of tree number ≡ inode → inode_of tree to ≡ target
        → movable_by (option_map about_of inode) (option_map about_of target) tree number to new_name ≡ Ok found
        → CanMove tree dir name found to new_name
    by None target own there so = absurd (cc)
    by (Some inode) None own there so = absurd (cc)
    by (Some inode) (Some target) own there so =
        let all = passes (not target.dir) (not (inode.fs == target.fs)) (is_some (entry_of tree to new_name))
        (lies_within tree to number) number so in
        let same_fs = not-false (inode.fs == target.fs) all.same_fs in
        rw (← all.same)
        (record {
          there = name_leads tree dir name number is told;
          inode = inode;
          inode_there = own;
          target = target;
          target_there = there;
          is_dir = not-false target.dir all.directory;
          same_fs = grind (arith, nat_tests, same_fs);
          free = no_name tree to new_name is (none_from_is_some (entry_of tree to new_name) all.free);
          outside = all.outside;
        })

-- what is renamed leaves a tree
renamed_found : (tree : TreeState) (dir : ℕ) (name : List ℕ) (number to : ℕ) (new_name : List ℕ)
    (done : ℕ × TreeState)
    → IsTree tree → Some number ≡ option_map (λ inode. inode.number) (entry_of tree dir name)
    → renamed tree dir name to new_name ≡ Ok done → IsTree done.1
renamed_found tree dir name number to new_name done is told so =
    by (movable tree number to new_name) refl (sym (renamed_is tree dir name number to new_name is told) ∙ so)
  where
    by : (can : Result ℕ Errno) → movable tree number to new_name ≡ can
        → with_left can (with_moved tree dir name to new_name) ≡ Ok done → IsTree done.1
    by (Err why) at same = absurd (cc)
    by (Ok found) at same =
        let e : (found, with_moved tree dir name to new_name) ≡ done = cc in
        let can = can_move tree dir name number to new_name found is told at in
        rw (← e) (moved_is tree dir name found to new_name is can)

pub renamed_keeps : (tree : TreeState) (dir : ℕ) (name : List ℕ) (to : ℕ) (new_name : List ℕ)
    (done : ℕ × TreeState)
    → IsTree tree → renamed tree dir name to new_name ≡ Ok done → IsTree done.1
renamed_keeps tree dir name to new_name done is so = by (option_map (λ inode. inode.number) (entry_of tree dir name)) refl
  where
    by : (told : Option ℕ) → told ≡ option_map (λ (inode : Inode). inode.number) (entry_of tree dir name) → IsTree done.1
    by None none = absurd (let no = renamed_none tree dir name to new_name none in cc)
    by (Some number) told = renamed_found tree dir name number to new_name done is told so
