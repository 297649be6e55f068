-- What is made of a tree is a tree.
use Rattle.std.proofs.Common.{◌≡◌, ◌∙◌, ℕ, ◌+◌, ◌<◌, ◌≤◌, ◌==◌, true, false, List, [], ◌∷◌, ◌++◌, Option, Some, None, All, refl, sym, ap, arith, suc, zero}
use Rattle.std.specs.Prelude.{find, option_map}
use Rattle.std.specs.Option.{option_or}
use Rattle.std.specs.Cmp.Lexicographic.{bytes_decides}
use Rattle.std.specs.List.{AllPairs}
use Rattle.std.specs.Str.{bytes_eq}
use Rattle.std.proofs.lemmas.Bool.Decides.{nat_tests}
use Rattle.std.proofs.lemmas.List.Elements.{All-push, All-weaker}
use Rattle.std.proofs.lemmas.List.Folds.{find-append}
use Rattle.std.proofs.lemmas.List.Quantifiers.{all_pairs_push}
use Rattle.fan_bits.specs.Places.{IsObject}
use Rattle.fan_tree.specs.declared.inode.About.{About}
use Rattle.fan_tree.specs.Ancestors.{ancestor, leads_to, parent_of}
use Rattle.fan_tree.specs.Steps.{CanAdd}
use Rattle.fan_tree.specs.Tree.{DirEntry, Inode, TreeState, inode_of, is_named, max_object, with_entry, with_fs}
use Rattle.fan_tree.specs.Whole.{AreApart, IsBelow, IsEntry, IsInode, IsRooted, IsTree, LeadsBelow}
use Rattle.fan_tree.proofs.Found.{has_number, inode_of_is, inode_of_number, no_inode_from}
use Rattle.fan_lists.proofs.Finds.{find_none}
use Rattle.fan_tree.proofs.Lists.{each_fails}
use Rattle.fan_tree.proofs.Upward.{first_step, one_more, within_root}

-- a later tree has all inodes of an earlier one, as they were
pub record Keeps (old new : TreeState) : Type 0 where
  pub inodes : (number : ℕ) (inode : Inode)
      → inode_of old number ≡ Some inode → inode_of new number ≡ Some inode

-- inodes and entries stay what they are
inode_kept : (old new : ℕ) (inode : Inode) → old ≤ new → IsInode old inode → IsInode new inode
inode_kept old new inode later is = record {
  number = is.number;
  drawn = omega (arith, is.drawn);
  fs = is.fs;
  after = is.after;
  root = is.root;
}

entry_kept : (old new : TreeState) (entry : DirEntry) → Keeps old new → IsEntry old entry → IsEntry new entry
entry_kept old new entry keeps is = record {
  parent = is.parent;
  inode = is.inode;
  in_dir = keeps.inodes entry.dir is.parent is.in_dir;
  leads_to = keeps.inodes entry.inode is.inode is.leads_to;
  is_dir = is.is_dir;
  same_fs = is.same_fs;
  no_root = is.no_root;
}

-- all numbers that names lead to were drawn
pub names_below : (tree : TreeState) → IsTree tree → All (λ entry. entry.inode < tree.next) tree.names
names_below tree is =
    All-weaker (IsEntry tree) (λ entry. entry.inode < tree.next) (λ entry one. below entry one) tree.names
    is.entries
  where
    below : (entry : DirEntry) → IsEntry tree entry → entry.inode < tree.next
    below entry one =
        let drawn = (inode_of_is tree entry.inode one.inode is one.leads_to).drawn in
        let number = inode_of_number tree entry.inode one.inode one.leads_to in
        rw number at drawn

-- where steps up stay what they were, so do ways up
ancestor_kept : (old new : TreeState) (steps number above : ℕ)
    → ((one parent : ℕ) → parent_of old one ≡ Some parent → parent_of new one ≡ Some parent)
    → ancestor old steps number ≡ Some above → ancestor new steps number ≡ Some above
ancestor_kept old new zero number above stay is = is
ancestor_kept old new (suc steps) number above stay is =
    let first = first_step old steps number above is in
    one_more new steps number above first.parent (stay number first.parent first.up)
    (ancestor_kept old new steps first.parent above stay first.rest)

-- a tree with one inode more, whose number is among those that were drawn since
module _ (old new : TreeState) (inode : Inode) (is : IsTree old)
    (inodes : new.inodes ≡ old.inodes ++ inode ∷ []) (later : old.next ≤ new.next)
    (most : new.next ≤ 65536) (after : old.next ≤ inode.number) (one : IsInode new.next inode) where
  -- an inode more keeps the others
  keeps_inodes : Keeps old new
  keeps_inodes = record {
    inodes = λ number found at.
        ap (find (has_number number)) inodes ∙ find-append (has_number number) old.inodes (inode ∷ [])
        ∙ rw at refl;
  }

  -- and is found itself
  finds_inode : inode_of new inode.number ≡ Some inode
  finds_inode =
      let none = no_inode_from old inode.number is after in
      let here : has_number inode.number inode ≡ true = grind (arith, nat_tests) in
      ap (find (has_number inode.number)) inodes
      ∙ find-append (has_number inode.number) old.inodes (inode ∷ [])
      ∙ rw (none, here) refl

  each_inode : All (IsInode new.next) new.inodes
  each_inode =
      rw inodes
      (All-push (IsInode new.next) old.inodes inode
      (All-weaker (IsInode old.next) (IsInode new.next)
      (λ other was. inode_kept old.next new.next other later was) old.inodes is.each)
      one)

  all_rise : AllPairs IsBelow new.inodes
  all_rise =
      let below : All (λ other. IsBelow other inode) old.inodes =
      All-weaker (IsInode old.next) (λ other. IsBelow other inode)
      (λ other was. omega (arith, was.drawn, after)) old.inodes is.each in
      rw inodes
      (all_pairs_push IsBelow old.inodes inode is.rises (λ k d within. below k d within))

  -- and where the ways up go on, they lie within their roots
  each_rooted : ((number parent : ℕ) → parent_of old number ≡ Some parent → parent_of new number ≡ Some parent)
      → IsRooted new inode → All (IsRooted new) new.inodes
  each_rooted goes_on own =
      rw inodes
      (All-push (IsRooted new) old.inodes inode
      (All-weaker (IsRooted old) (IsRooted new)
      (λ other was. (was.0, ancestor_kept old new was.0 other.number (other.fs + 1) goes_on was.1)) old.inodes is.rooted)
      own)

  each_entry : All (IsEntry new) old.names
  each_entry =
      All-weaker (IsEntry old) (IsEntry new) (λ entry was. entry_kept old new entry keeps_inodes was)
      old.names is.entries

-- a filesystem more
pub with_fs_is : (tree : TreeState) → IsTree tree → tree.next + 1 ≤ max_object → IsTree (with_fs tree)
with_fs_is tree is room =
    let new : TreeState = with_fs tree in
    let root : Inode = record { number = tree.next + 1; fs = tree.next; dir = true } in
    let later : tree.next ≤ tree.next + 2 = omega arith in
    let most : tree.next + 2 ≤ 65536 = omega (arith, room) in
    let after : tree.next ≤ tree.next + 1 = omega arith in
    let some = is.some in
    let one : IsInode (tree.next + 2) root = record {
      number = (omega arith, omega (arith, room));
      drawn = omega arith;
      fs = (omega (arith, some), omega (arith, room));
      after = omega arith;
      root = λ is_one. refl;
    } in
    record {
      each = each_inode tree new root is refl later most after one;
      rises = all_rise tree new root is refl later most after one;
      entries = each_entry tree new root is refl later most after one;
      unique = is.unique;
      one_name = is.one_name;
      rooted = each_rooted tree new root is refl later most after one (λ number parent up. up) (0, refl);
      some = omega (arith, some);
      most = most;
    }

-- an entry whose name is free is apart from the others
apart_from : (names : List DirEntry) (entry : DirEntry)
    → find (is_named entry.dir entry.name) names ≡ None → All (λ other. AreApart other entry) names
apart_from names entry free =
    All-weaker (λ other. is_named entry.dir entry.name other ≡ false) (λ other. AreApart other entry)
    (λ other fails dir name. by other fails dir name) names
    (each_fails (is_named entry.dir entry.name) names free)
  where
    by : (other : DirEntry) → is_named entry.dir entry.name other ≡ false → other.dir ≡ entry.dir
        → other.name ≡ entry.name → ⊥
    by other fails dir name =
        let same : bytes_eq other.name entry.name ≡ true = (bytes_decides other.name entry.name).1 name in
        let here : (other.dir == entry.dir) ≡ true = grind (arith, nat_tests) in
        absurd (let both = rw (here, same) at fails in cc)

-- an entry more leaves the ways up of other inodes
up_stays : (tree : TreeState) (entry : DirEntry) (number parent : ℕ)
    → option_map (λ (one : DirEntry). one.dir) (find (leads_to number) tree.names) ≡ Some parent
    → option_map (λ (one : DirEntry). one.dir) (find (leads_to number) (tree.names ++ entry ∷ [])) ≡ Some parent
up_stays tree entry number parent up = rw find-append (by (find (leads_to number) tree.names) up)
  where
    by : (found : Option DirEntry) → option_map (λ (one : DirEntry). one.dir) found ≡ Some parent
        → option_map (λ (one : DirEntry). one.dir) (option_or found (find (leads_to number) (entry ∷ []))) ≡ Some parent
    by None none = absurd (cc)
    by (Some one) some = some

-- the way up from the inode that it leads to begins with its directory
made_rooted : (tree : TreeState) (dir : ℕ) (name : List ℕ) (about : About)
    → IsTree tree → CanAdd tree dir name about.fs
    → IsRooted (with_entry tree dir name about) (record { number = tree.next; fs = about.fs; dir = about.dir })
made_rooted tree dir name about is can =
    let new : TreeState = with_entry tree dir name about in
    let entry : DirEntry = record { dir = dir; name = name; inode = tree.next } in
    let none : find (leads_to tree.next) tree.names ≡ None =
    find_none (leads_to tree.next) tree.names
    (All-weaker (λ (one : DirEntry). one.inode < tree.next) (λ one. leads_to tree.next one ≡ false)
    (λ one below. grind (arith, nat_tests, below)) tree.names (names_below tree is)) in
    let here : leads_to tree.next entry ≡ true = grind (arith, nat_tests) in
    let up : parent_of new tree.next ≡ Some dir = rw find-append (rw (none, here) refl) in
    let way = within_root tree dir about.fs can.parent is.rooted can.there can.fs_is in (
      suc way.0,
      one_more new way.0 tree.next (about.fs + 1) dir up
          (ancestor_kept tree new way.0 dir (about.fs + 1) (up_stays tree entry) way.1),
    )

-- an entry more, and the inode that it leads to
pub added_is : (tree : TreeState) (dir : ℕ) (name : List ℕ) (about : About)
    → IsTree tree → CanAdd tree dir name about.fs → IsTree (with_entry tree dir name about)
added_is tree dir name about is can =
    let new : TreeState = with_entry tree dir name about in
    let made : Inode = record { number = tree.next; fs = about.fs; dir = about.dir } in
    let entry : DirEntry = record { dir = dir; name = name; inode = tree.next } in
    let parent = inode_of_is tree dir can.parent is can.there in
    let later : tree.next ≤ tree.next + 1 = omega arith in
    let most : tree.next + 1 ≤ 65536 = omega (arith, can.room) in
    let after : tree.next ≤ tree.next = omega arith in
    let fs : IsObject about.fs = rw can.fs_is at parent.fs in
    let up = rw can.fs_is at parent.after in
    let above : about.fs + 1 < tree.next = omega (arith, up, parent.drawn) in
    let one : IsInode (tree.next + 1) made = record {
      number = (omega (arith, is.some), can.room);
      drawn = omega arith;
      fs = fs;
      after = omega (arith, above);
      root = λ root. absurd (grind (arith, nat_tests, above, root));
    } in
    let keeps : Keeps tree new = keeps_inodes tree new made is refl later most after one in
    let leads : IsEntry new entry = record {
      parent = can.parent;
      inode = made;
      in_dir = keeps.inodes dir can.parent can.there;
      leads_to = finds_inode tree new made is refl later most after one;
      is_dir = can.is_dir;
      same_fs = sym can.fs_is;
      no_root = grind (arith, nat_tests, above);
    } in
    let apart = apart_from tree.names entry can.free in
    record {
      each = each_inode tree new made is refl later most after one;
      rises = all_rise tree new made is refl later most after one;
      entries = All-push (IsEntry new) tree.names entry
          (each_entry tree new made is refl later most after one) leads;
      unique = all_pairs_push AreApart tree.names entry is.unique (λ k d within. apart k d within);
      one_name = all_pairs_push LeadsBelow tree.names entry is.one_name
          (λ k d within. names_below tree is k d within);
      rooted = each_rooted tree new made is refl later most after one (up_stays tree entry)
          (made_rooted tree dir name about is can);
      some = omega (arith, is.some);
      most = most;
    }

-- a number more that is drawn
pub later_is : (tree : TreeState) → IsTree tree → tree.next ≤ max_object
    → IsTree (record tree { next = tree.next + 1 })
later_is tree is room =
    let new : TreeState = record tree { next = tree.next + 1 } in
    let later : tree.next ≤ tree.next + 1 = omega arith in
    record {
      each = All-weaker (IsInode tree.next) (IsInode new.next)
          (λ other was. inode_kept tree.next new.next other later was) tree.inodes is.each;
      rises = is.rises;
      entries = All-weaker (IsEntry tree) (IsEntry new)
          (λ entry was. entry_kept tree new entry (record { inodes = λ number inode at. at }) was) tree.names
          is.entries;
      unique = is.unique;
      one_name = is.one_name;
      rooted = All-weaker (IsRooted tree) (IsRooted new)
          (λ inode was. (was.0, ancestor_kept tree new was.0 inode.number (inode.fs + 1) (λ number parent up. up) was.1))
          tree.inodes is.rooted;
      some = omega (arith, is.some);
      most = omega (arith, room);
    }

-- all inodes have numbers below the next one, and those above it
pub inodes_below : (tree : TreeState) (number : ℕ)
    → IsTree tree → tree.next ≤ number → All (λ inode. inode.number < number) tree.inodes
inodes_below tree number is above =
    All-weaker (IsInode tree.next) (λ inode. inode.number < number)
    (λ inode one. omega (arith, one.drawn, above)) tree.inodes is.each
