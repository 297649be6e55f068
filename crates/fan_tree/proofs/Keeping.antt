-- What is kept of the entries of a tree after each change of them.
use Rattle.std.proofs.Common.{◌≡◌, ◌≢◌, ◌∙◌, ℕ, ◌+◌, ◌-◌, ◌<◌, ◌≤◌, ◌^◌, ◌==◌, Bool, true, false, not, cond, List, [], ◌∷◌, ◌++◌, Option, Some, None, All, map, refl, ap, sym, arith, length, slice_set, suc, zero}
use Rattle.std.specs.List.{AllPairs}
use Rattle.std.specs.Prelude.{count_by, filter, find, slice_index}
use Rattle.std.proofs.lemmas.Bool.{false_from_ne_true}
use Rattle.std.proofs.lemmas.Bool.Decides.{nat_tests}
use Rattle.std.proofs.lemmas.List.{get_or-set_other, get_or-set_same, length-set}
use Rattle.std.proofs.lemmas.List.Elements.{All-head, All-tail, All-weaker}
use Rattle.std.proofs.lemmas.List.Sums.{count_by-le-length}
use Rattle.fan_lists.proofs.Filters.{filter_agree_on}
use Rattle.fan_tree.specs.Changes.{moved}
use Rattle.fan_tree.specs.Entries.{ArePadded, Entries, NameIn, entries_of, entry_at, has_name, slot_of}
use Rattle.fan_tree.specs.Table.{AreKept, AreKnown, KeepsOthers, TableState, is_in, is_known}
use Rattle.fan_tree.specs.Tree.{DirEntry, is_named}
use Rattle.fan_tree.specs.Whole.{AreApart}
use Rattle.fan_tree.proofs.Lists.{each_fails}
use Rattle.fan_tree.proofs.Named.{are_unique, padded-refl, slot_found}
use Rattle.fan_tree.proofs.SlotLemmas.{All-from_slots, All-in_slots, count_by-set, counted, in_slots-emptied, in_slots-few, in_slots-last, in_slots-replaced, replaced, slot_within}
use Rattle.fan_tree.proofs.TableLemmas.{has_own_name, name_is}

-- the number that an entry leads to
abbrev inode_in : DirEntry → ℕ
inode_in entry = entry.inode

-- empty slots, and room for counts, change nothing
pub kept_padded : (entries padded : Entries) (table : TableState) (counts room : List ℕ)
    → AreKept entries table counts → ArePadded entries padded → length padded ≤ 2 ^ 32
    → ((dir : ℕ) → slice_index room dir ≡ slice_index counts dir) → AreKept padded table room
kept_padded entries padded table counts room kept same few counted = record {
  few = few;
  first = same.slots 0 ∙ kept.first;
  known = record {
    each = λ number entry other below there.
        let here = sym (same.slots number) ∙ there in
        kept.known.each number entry other (slot_within entries number entry here) here;
  };
  counted = λ dir.
      counted dir ∙ kept.counted dir ∙ ap (count_by (is_in dir)) (sym same.entries);
}

-- a table that knows the same entries may take the place of another
pub kept_known : (entries : Entries) (table later : TableState) (counts : List ℕ)
    → AreKept entries table counts → AreKnown entries later (length entries) → AreKept entries later counts
kept_known entries table later counts kept known =
    record { few = kept.few; first = kept.first; known = known; counted = kept.counted }

-- no slot has a name that is not found
no_slot : (entries : Entries) (dir : ℕ) (name : List ℕ) → find (is_named dir name) (entries_of entries) ≡ None
    → (number : ℕ) (entry : NameIn) → slot_of entries number ≡ Some entry → has_name dir name entry ≡ false
no_slot entries dir name free number entry there =
    All-in_slots entry_at (λ one. is_named dir name one ≡ false) 0 number number entries entry (omega arith)
    (each_fails (is_named dir name) (entries_of entries) free) there

-- a table keeps all entries where no entry has the name that is left out
pub kept_others : (entries : Entries) (table later : TableState) (counts : List ℕ) (dir : ℕ) (name : List ℕ)
    → AreKept entries table counts → find (is_named dir name) (entries_of entries) ≡ None
    → KeepsOthers entries dir name table later → AreKept entries later counts
kept_others entries table later counts dir name kept free keeps =
    kept_known entries table later counts kept (record {
      each = λ number entry other below there.
          keeps.each number entry other there (no_slot entries dir name free number entry there)
          (kept.known.each number entry other below there);
    })

-- slots and counts have room for a name that isn't there, the table is as large, and knows all but that name
pub kept_ready : (entries padded : Entries) (table grown noted : TableState) (counts room : List ℕ)
    (dir : ℕ) (name : List ℕ)
    → AreKept entries table counts → ArePadded entries padded → length padded ≤ 2 ^ 32
    → ((other : ℕ) → slice_index room other ≡ slice_index counts other)
    → AreKnown padded grown (length padded) → find (is_named dir name) (entries_of entries) ≡ None
    → KeepsOthers padded dir name grown noted → AreKept padded noted room
kept_ready entries padded table grown noted counts room dir name kept same few counted known free keeps =
    let wider = kept_padded entries padded table counts room kept same few counted in
    kept_others padded grown noted room dir name (kept_known padded table grown room wider known)
    (rw same.entries free) keeps

-- the same, where the slots stay as they are
pub kept_renamed : (entries : Entries) (table noted : TableState) (counts room : List ℕ) (dir : ℕ) (name : List ℕ)
    → AreKept entries table counts → ((other : ℕ) → slice_index room other ≡ slice_index counts other)
    → find (is_named dir name) (entries_of entries) ≡ None → KeepsOthers entries dir name table noted
    → AreKept entries noted room
kept_renamed entries table noted counts room dir name kept counted free keeps =
    kept_ready entries entries table table noted counts room dir name kept (padded-refl entries) kept.few counted
    kept.known free keeps

-- a slot that is written: its entry is known if it has one, the others stay known, and both are counted
set_kept : (entries : Entries) (table later : TableState) (counts new_counts : List ℕ) (number : ℕ)
    (new : Option NameIn)
    → AreKept entries table counts → number ≢ 0 → number < length entries
    → ((other : ℕ) (entry : NameIn) → other ≢ 0 → other ≢ number → slot_of entries other ≡ Some entry
    → is_known later other entry ≡ true)
    → ((entry : NameIn) → new ≡ Some entry → is_known later number entry ≡ true)
    → ((dir : ℕ) → slice_index new_counts dir + counted entry_at (is_in dir) number (slot_of entries number)
    ≡ slice_index counts dir + counted entry_at (is_in dir) number new)
    → AreKept (slice_set entries number new) later new_counts
set_kept entries table later counts new_counts number new kept first within others own counts_are = record {
  few = rw length-set kept.few;
  first = get_or-set_other entries number 0 new None (λ same. first (sym same)) ∙ kept.first;
  known = record { each = λ other entry apart below there. by other entry apart there (other == number) refl };
  counted = λ dir.
      let set = count_by-set entry_at (is_in dir) 0 number number entries new (omega arith) within in
      omega (arith, set, counts_are dir, kept.counted dir);
}
  where
    by : (other : ℕ) (entry : NameIn) → other ≢ 0 → slot_of (slice_set entries number new) other ≡ Some entry
        → (b : Bool) → (other == number) ≡ b → is_known later other entry ≡ true
    by other entry apart there true is =
        let same : other ≡ number = grind (arith, nat_tests, is) in
        let now : slot_of (slice_set entries number new) number ≡ Some entry = rw same at there in
        rw same (own entry (sym (get_or-set_same entries number new None within) ∙ now))
    by other entry apart there false is =
        let differs : other ≢ number = grind (arith, nat_tests, is) in
        others other entry apart differs (sym (get_or-set_other entries number other new None differs) ∙ there)

-- the count of a directory, one more
counted_more : (counts : List ℕ) (dir other : ℕ) → dir < length counts
    → slice_index (slice_set counts dir (slice_index counts dir + 1)) other
    ≡ slice_index counts other + cond (dir == other) 1 0
counted_more counts dir other within = by (dir == other) refl
  where
    by : (b : Bool) → (dir == other) ≡ b
        → slice_index (slice_set counts dir (slice_index counts dir + 1)) other
        ≡ slice_index counts other + cond b 1 0
    by true is =
        let same : other ≡ dir = grind (arith, nat_tests, is) in
        rw same (get_or-set_same counts dir (slice_index counts dir + 1) 0 within)
    by false is =
        let differs : other ≢ dir = grind (arith, nat_tests, is) in
        get_or-set_other counts dir other (slice_index counts dir + 1) 0 differs ∙ omega arith

-- a directory that has a count has room for it
pub count_within : (counts : List ℕ) (dir : ℕ) → 0 < slice_index counts dir → dir < length counts
count_within [] dir some = absurd (omega (arith, some))
count_within (count ∷ more) zero some = omega arith
count_within (count ∷ more) (suc dir) some = omega (arith, count_within more dir some)

-- and one less
counted_less : (counts : List ℕ) (dir other : ℕ) → 0 < slice_index counts dir
    → slice_index (slice_set counts dir (slice_index counts dir - 1)) other + cond (dir == other) 1 0
    ≡ slice_index counts other
counted_less counts dir other some = by (dir == other) refl
  where
    by : (b : Bool) → (dir == other) ≡ b
        → slice_index (slice_set counts dir (slice_index counts dir - 1)) other + cond b 1 0
        ≡ slice_index counts other
    by true is =
        let same : other ≡ dir = grind (arith, nat_tests, is) in
        let at = get_or-set_same counts dir (slice_index counts dir - 1) 0 (count_within counts dir some) in
        rw same (omega (arith, at, some))
    by false is =
        let differs : other ≢ dir = grind (arith, nat_tests, is) in
        let at = get_or-set_other counts dir other (slice_index counts dir - 1) 0 differs in
        omega (arith, at)

-- there are few entries of each directory
pub few_counted : (entries : Entries) (table : TableState) (counts : List ℕ) (dir : ℕ)
    → AreKept entries table counts → slice_index counts dir ≤ 2 ^ 32
few_counted entries table counts dir kept =
    omega (
      arith,
      kept.few,
      kept.counted dir,
      count_by-le-length (is_in dir) (entries_of entries),
      in_slots-few entry_at 0 entries,
    )

-- ---- a name was added

module _ (entries : Entries) (table : TableState) (counts : List ℕ) (dir : ℕ) (name : List ℕ) (number : ℕ)
    (kept : AreKept entries table counts) (first : 0 < number) (within : number < length entries)
    (last : All (λ entry. entry.inode < number) (entries_of entries)) where
  abbrev added : NameIn
  added = record { dir = dir; name = name }

  slot_free : slot_of entries number ≡ None
  slot_free = by (slot_of entries number) refl
    where
      by : (slot : Option NameIn) → slot_of entries number ≡ slot → slot ≡ None
      by None is = refl
      by (Some entry) is =
          let below = All-in_slots entry_at (λ one. one.inode < number) 0 number number entries entry (omega arith)
          last is in
          absurd (omega (arith, below))

  pub added_kept : dir < length counts → is_known table number added ≡ true
      → AreKept (slice_set entries number (Some added)) table
      (slice_set counts dir (slice_index counts dir + 1))
  added_kept room known =
      set_kept entries table table counts (slice_set counts dir (slice_index counts dir + 1)) number (Some added)
      kept (λ zeroth. omega (arith, first, zeroth)) within
      (λ other entry apart differs there.
      kept.known.each other entry apart (slot_within entries other entry there) there)
      (λ entry is. let same : entry ≡ added = cc in rw same known)
      (λ other.
      let more = counted_more counts dir other room in
      let free = ap (counted entry_at (is_in other) number) slot_free in
      omega (arith, more, free))

  pub added_order : entries_of (slice_set entries number (Some added))
      ≡ entries_of entries ++ record { dir = dir; name = name; inode = number } ∷ []
  added_order = in_slots-last entry_at inode_in (λ number one. refl) 0 number number entries added (omega arith)
      within last

-- ---- a name was taken away, or moved

-- two tests that agree on all elements leave the same of a list
map_agree : {X : Type 0} (f g : X → X) (xs : List X) → All (λ x. f x ≡ g x) xs → map f xs ≡ map g xs
map_agree f g [] same = refl
map_agree {X = X} f g (x ∷ xs) same =
    let here = All-head (λ (y : X). f y ≡ g y) x xs same in
    let rest = map_agree f g xs (All-tail (λ (y : X). f y ≡ g y) x xs same) in
    rw (here, rest) refl

module _ (entries : Entries) (table : TableState) (counts : List ℕ) (dir : ℕ) (name : List ℕ) (number : ℕ)
    (kept : AreKept entries table counts) (apart : AllPairs AreApart (entries_of entries))
    (there : find (is_named dir name) (entries_of entries)
    ≡ Some (record { dir = dir; name = name; inode = number })) where
  abbrev here : NameIn
  here = record { dir = dir; name = name }

  pub own_slot : slot_of entries number ≡ Some here
  own_slot = slot_found entries dir name number there

  pub own_within : number < length entries
  own_within = slot_within entries number here own_slot

  own_other : number ≢ 0
  own_other = λ zeroth.
      absurd (let never = sym kept.first ∙ ap (slot_of entries) (sym zeroth) ∙ own_slot in cc)

  -- its directory has a count
  pub own_counted : 0 < slice_index counts dir
  own_counted =
      let set = count_by-set entry_at (is_in dir) 0 number number entries None (omega arith) own_within in
      let own = ap (counted entry_at (is_in dir) number) own_slot in
      let same : (dir == dir) ≡ true = grind (arith, nat_tests) in
      let one : ℕ = 1 in
      let here_one : cond (dir == dir) one 0 ≡ one = rw same refl in
      omega (arith, set, own, here_one, kept.counted dir)

  -- another slot has another name
  other_slot : (other : ℕ) (entry : NameIn) → other ≢ number → slot_of entries other ≡ Some entry
      → has_name dir name entry ≡ false
  other_slot other entry differs at = false_from_ne_true _ (λ has.
      let same = name_is dir name entry has in
      differs ((are_unique entries apart).same other number entry here at own_slot same.0 same.1))

  -- an entry has the name exactly if it leads to the number
  by_number : All (λ one. is_named dir name one ≡ (one.inode == number)) (entries_of entries)
  by_number =
      All-from_slots entry_at (λ one. is_named dir name one ≡ (one.inode == number)) 0 entries
      (λ other index entry is at.
      let same : other ≡ index = omega (arith, is) in
      by other entry (ap (slot_of entries) same ∙ at) (other == number) refl)
    where
      by : (other : ℕ) (entry : NameIn) → slot_of entries other ≡ Some entry → (b : Bool) → (other == number) ≡ b
          → has_name dir name entry ≡ b
      by other entry at true is =
          let same : other ≡ number = grind (arith, nat_tests, is) in
          let both : Some entry ≡ Some here = sym at ∙ ap (slot_of entries) same ∙ own_slot in
          let entry_is : entry ≡ here = cc in
          rw entry_is (has_own_name here)
      by other entry at false is =
          let differs : other ≢ number = grind (arith, nat_tests, is) in other_slot other entry differs at

  -- all other entries are still known
  others_known : (later : TableState) → KeepsOthers entries dir name table later
      → (other : ℕ) (entry : NameIn) → other ≢ 0 → other ≢ number → slot_of entries other ≡ Some entry
      → is_known later other entry ≡ true
  others_known later keeps other entry first differs at =
      keeps.each other entry first at (other_slot other entry differs at)
      (kept.known.each other entry first (slot_within entries other entry at) at)

  abbrev less : List ℕ
  less = slice_set counts dir (slice_index counts dir - 1)

  pub left_kept : (later : TableState) → KeepsOthers entries dir name table later
      → AreKept (slice_set entries number None) later less
  left_kept later keeps =
      set_kept entries table later counts less number None kept own_other own_within (others_known later keeps)
      (λ entry is. absurd (cc))
      (λ other.
      let fewer = counted_less counts dir other own_counted in
      let own = ap (counted entry_at (is_in other) number) own_slot in
      omega (arith, fewer, own))

  pub left_order : entries_of (slice_set entries number None)
      ≡ filter (λ one. not (is_named dir name one)) (entries_of entries)
  left_order =
      in_slots-emptied entry_at inode_in (λ number one. refl) 0 number number entries (omega arith)
      ∙ filter_agree_on (λ (one : DirEntry). not (one.inode == number)) (λ one. not (is_named dir name one))
      (entries_of entries)
      (All-weaker (λ (one : DirEntry). is_named dir name one ≡ (one.inode == number))
      (λ one. not (one.inode == number) ≡ not (is_named dir name one)) (λ one same. ap not (sym same))
      (entries_of entries) by_number)

  -- the entry under a new name
  module _ (to : ℕ) (new_name : List ℕ) (free : find (is_named to new_name) (entries_of entries) ≡ None) where
    abbrev new : NameIn
    new = record { dir = to; name = new_name }

    -- the new name is another
    new_differs : has_name dir name new ≡ false
    new_differs = false_from_ne_true _ (λ has.
        let same = name_is dir name new has in
        let other : has_name to new_name here ≡ false = no_slot entries to new_name free number here own_slot in
        let own : has_name dir name here ≡ true = has_own_name here in
        absurd (let never = rw (same.0, same.1) at other in let wrong = sym never ∙ own in cc))

    -- there are few entries of its directory once the old one is gone
    pub few_less : slice_index less to + 1 < 2 ^ 64
    few_less =
        omega (arith, counted_less counts dir to own_counted, few_counted entries table counts to kept)

    pub moved_kept : (later : TableState) → ((all : Entries) → KeepsOthers all dir name table later)
        → is_known table number new ≡ true → to < length counts
        → AreKept (slice_set entries number (Some new)) later (slice_set less to (slice_index less to + 1))
    moved_kept later keeps known room =
        set_kept entries table later counts (slice_set less to (slice_index less to + 1)) number (Some new) kept
        own_other own_within (others_known later (keeps entries))
        (λ entry is.
        let same : entry ≡ new = cc in
        rw same
        ((keeps (slice_set entries number (Some new))).each number new own_other
        (get_or-set_same entries number (Some new) None own_within) new_differs known))
        (λ other.
        let fewer = counted_less counts dir other own_counted in
        let more = counted_more less to other (rw length-set room) in
        let own = ap (counted entry_at (is_in other) number) own_slot in
        omega (arith, fewer, more, own))

    pub moved_order : entries_of (slice_set entries number (Some new))
        ≡ map (moved dir name to new_name) (entries_of entries)
    moved_order =
        in_slots-replaced entry_at inode_in (λ number one. refl) 0 number number entries here new (omega arith)
        own_slot
        ∙ map_agree (replaced entry_at inode_in number new) (moved dir name to new_name) (entries_of entries)
        (All-weaker (λ (one : DirEntry). is_named dir name one ≡ (one.inode == number))
        (λ one. replaced entry_at inode_in number new one ≡ moved dir name to new_name one)
        (λ one same. by one (is_named dir name one) refl (sym same))
        (entries_of entries) by_number)
      where
        by : (one : DirEntry) (b : Bool) → is_named dir name one ≡ b → (one.inode == number) ≡ is_named dir name one
            → cond (one.inode == number) (entry_at number new) one
            ≡ cond (is_named dir name one) (record one { dir = to; name = new_name }) one
        by one true named same =
            let passes : (one.inode == number) ≡ true = same ∙ named in
            let inode : one.inode ≡ number = grind (arith, nat_tests, passes) in
            rw (passes, named, inode) refl
        by one false named same = let fails : (one.inode == number) ≡ false = same ∙ named in rw (fails, named) refl
