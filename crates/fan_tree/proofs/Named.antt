-- Entries in slots, and what is found among them.
use Rattle.std.proofs.Common.{◌≡◌, ◌≢◌, ◌∙◌, ℕ, ◌<◌, ◌≤◌, Bool, true, false, List, [], ◌∷◌, ◌++◌, Option, Some, None, refl, ap, sym, arith, suc, zero}
use Rattle.std.specs.List.{AllPairs, list_any}
use Rattle.std.specs.Prelude.{IfNone, IfSome, count_by, find, nat_lt, option_map, slice_index}
use Rattle.std.proofs.lemmas.Bool.Decides.{nat_tests}
use Rattle.fan_lists.proofs.Counts.{any_from_count, count_from_any}
use Rattle.fan_lists.proofs.Finds.{find_passes}
use Rattle.fan_tree.specs.Ancestors.{leads_to}
use Rattle.fan_tree.specs.Entries.{ArePadded, AreUnique, Entries, NameIn, entries_of, entry_at, is_name, leads, slot_of}
use Rattle.fan_tree.specs.Table.{AreKept, TableState, is_in, is_known}
use Rattle.fan_tree.specs.Tree.{DirEntry, is_named}
use Rattle.fan_tree.specs.Whole.{AreApart}
use Rattle.fan_tree.proofs.EntryLemmas.{named_is}
use Rattle.fan_tree.proofs.SlotLemmas.{StandsAt, AllPairs-in_slots, find-in_slots, find_at, find_only, in_slots-pad, slot_within}
use Rattle.fan_tree.proofs.TableLemmas.{has_own_name, name_is}

-- the number that an entry leads to
abbrev inode_in : DirEntry → ℕ
inode_in entry = entry.inode

-- slots with none behind them
pub padded-refl : (entries : Entries) → ArePadded entries entries
padded-refl entries = record { entries = refl; slots = λ number. refl }

-- an empty slot more
slot-padded : (entries : Entries) (number : ℕ) → slot_of (entries ++ None ∷ []) number ≡ slot_of entries number
slot-padded [] zero = refl
slot-padded [] (suc number) = refl
slot-padded (slot ∷ more) zero = refl
slot-padded (slot ∷ more) (suc number) = slot-padded more number

pub padded-one : (old new : Entries) → ArePadded old new → ArePadded old (new ++ None ∷ [])
padded-one old new padded = record {
  entries = in_slots-pad entry_at 0 1 new ∙ padded.entries;
  slots = λ number. slot-padded new number ∙ padded.slots number;
}

-- entries that are apart have different names in their slots
pub are_unique : (entries : Entries) → AllPairs AreApart (entries_of entries) → AreUnique entries
are_unique entries apart = record {
  same = λ one other a b here there dirs names.
      by one other a b here there dirs names (nat_lt one other) refl (nat_lt other one) refl;
}
  where
    by : (one other : ℕ) (a b : NameIn) → slot_of entries one ≡ Some a → slot_of entries other ≡ Some b
        → a.dir ≡ b.dir → a.name ≡ b.name → (below : Bool) → nat_lt one other ≡ below
        → (above : Bool) → nat_lt other one ≡ above → one ≡ other
    by one other a b here there dirs names true is above at =
        let less : one < other = grind (arith, nat_tests, is) in
        absurd (AllPairs-in_slots entry_at AreApart 0 one other entries a b apart less here there dirs names)
    by one other a b here there dirs names false is true at =
        let less : other < one = grind (arith, nat_tests, at) in
        absurd (AllPairs-in_slots entry_at AreApart 0 other one entries b a apart less there here (sym dirs) (sym names))
    by one other a b here there dirs names false is false at = grind (arith, nat_tests, is, at)

-- what was found stands in the slot of its number
stands : (entries : Entries) (p : DirEntry → Bool) (found : DirEntry)
    → find p (entries_of entries) ≡ Some found
    → slot_of entries found.inode ≡ Some (record { dir = found.dir; name = found.name })
stands entries p found is =
    by (find-in_slots entry_at p 0 entries found is)
  where
    by : StandsAt entry_at 0 entries found
        → slot_of entries found.inode ≡ Some (record { dir = found.dir; name = found.name })
    by at =
        let index : at.index ≡ found.inode = omega (arith, ap inode_in at.is) in
        let one : at.one ≡ record { dir = found.dir; name = found.name } =
        ap (λ (entry : DirEntry). record { dir = entry.dir; name = entry.name }) at.is in
        ap (slot_of entries) (sym index) ∙ at.there ∙ ap Some one

pub slot_found : (entries : Entries) (dir : ℕ) (name : List ℕ) (number : ℕ)
    → find (is_named dir name) (entries_of entries) ≡ Some (record { dir = dir; name = name; inode = number })
    → slot_of entries number ≡ Some (record { dir = dir; name = name })
slot_found entries dir name number is = stands entries (is_named dir name) _ is

-- a name that leads to a number is found with it
pub found_where : (entries : Entries) (dir : ℕ) (name : List ℕ) (number : ℕ)
    → AllPairs AreApart (entries_of entries) → leads entries dir name number ≡ true
    → find (is_named dir name) (entries_of entries) ≡ Some (record { dir = dir; name = name; inode = number })
found_where entries dir name number apart is = by (slot_of entries number) refl is
  where
    never : (x y : DirEntry) → AreApart x y → is_named dir name x ≡ true → is_named dir name y ≡ true → ⊥
    never x y differ one other =
        let first = named_is x dir name one in
        let second = named_is y dir name other in
        differ (first.0 ∙ sym second.0) (first.1 ∙ sym second.1)

    by : (slot : Option NameIn) → slot_of entries number ≡ slot → is_name dir name slot ≡ true
        → find (is_named dir name) (entries_of entries) ≡ Some (record { dir = dir; name = name; inode = number })
    by None there has = absurd (cc)
    by (Some entry) there has =
        let found = find_only entry_at (is_named dir name) AreApart never 0 number number entries entry
        (omega arith) apart there has in
        let same = name_is dir name entry has in
        rw (same.0, same.1) at found

-- a name that leads nowhere is not found, if all entries are known
pub none_found : (entries : Entries) (table : TableState) (counts : List ℕ) (dir : ℕ) (name : List ℕ)
    → AreKept entries table counts
    → ((number : ℕ) → is_known table number (record { dir = dir; name = name }) ≡ true
    → leads entries dir name number ≡ false)
    → find (is_named dir name) (entries_of entries) ≡ None
none_found entries table counts dir name kept none = by (find (is_named dir name) (entries_of entries)) refl
  where
    by : (found : Option DirEntry) → find (is_named dir name) (entries_of entries) ≡ found → found ≡ None
    by None is = refl
    by (Some entry) is =
        let there = stands entries (is_named dir name) entry is in
        let named = named_is entry dir name (find_passes (is_named dir name) (entries_of entries) entry is) in
        let own : slot_of entries entry.inode ≡ Some (record { dir = dir; name = name }) =
        rw (named.0, named.1) at there in
        let other : entry.inode ≢ 0 = λ zeroth.
        absurd (let never = sym kept.first ∙ ap (slot_of entries) (sym zeroth) ∙ own in cc) in
        let known = kept.known.each entry.inode (record { dir = dir; name = name }) other
        (slot_within entries entry.inode _ own) own in
        let never : leads entries dir name entry.inode ≡ false = none entry.inode known in
        let has = has_own_name (record { dir = dir; name = name }) in
        absurd (let wrong = sym never ∙ ap (is_name dir name) own ∙ has in cc)

-- so what the table finds is what is found among the entries
pub got : (entries : Entries) (table : TableState) (counts : List ℕ) (dir : ℕ) (name : List ℕ) (found : Option ℕ)
    → AreKept entries table counts → AllPairs AreApart (entries_of entries)
    → IfSome found (λ number. leads entries dir name number ≡ true)
    → IfNone found ((number : ℕ) → is_known table number (record { dir = dir; name = name }) ≡ true
    → leads entries dir name number ≡ false)
    → found ≡ option_map (λ entry. entry.inode) (find (is_named dir name) (entries_of entries))
got entries table counts dir name None kept apart some none =
    rw (none_found entries table counts dir name kept none) refl
got entries table counts dir name (Some number) kept apart some none =
    rw (found_where entries dir name number apart some) refl

-- the entry of an inode stands in the slot of its number
pub parent_is : (entries : Entries) (number : ℕ)
    → option_map (λ entry. entry.dir) (find (leads_to number) (entries_of entries))
    ≡ option_map (λ entry. entry.dir) (slot_of entries number)
parent_is entries number =
    ap (option_map (λ (entry : DirEntry). entry.dir))
    (find_at entry_at inode_in (λ number one. refl) 0 number number entries (omega arith))
    ∙ by (slot_of entries number)
  where
    by : (slot : Option NameIn)
        → option_map (λ (entry : DirEntry). entry.dir) (option_map (entry_at number) slot)
        ≡ option_map (λ (entry : NameIn). entry.dir) slot
    by None = refl
    by (Some entry) = refl

-- a directory has an entry exactly if one is counted
pub any_counted : (entries : Entries) (table : TableState) (counts : List ℕ) (dir count : ℕ)
    → AreKept entries table counts → count ≡ slice_index counts dir
    → nat_lt 0 count ≡ list_any (is_in dir) (entries_of entries)
any_counted entries table counts dir count kept is = by (nat_lt 0 count) refl (list_any (is_in dir) all) refl
  where
    all : List DirEntry
    all = entries_of entries

    by : (more : Bool) → nat_lt 0 count ≡ more → (some : Bool) → list_any (is_in dir) all ≡ some → more ≡ some
    by true more true some = refl
    by false more false some = refl
    by true more false none =
        let here : 1 ≤ count_by (is_in dir) all = grind (arith, nat_tests, more, is, kept.counted dir) in
        absurd (let wrong = any_from_count (is_in dir) all here in cc)
    by false none true some =
        let here = count_from_any (is_in dir) all some in
        absurd (let zero : count ≡ 0 = grind (arith, nat_tests, none) in omega (arith, here, is, kept.counted dir, zero))
