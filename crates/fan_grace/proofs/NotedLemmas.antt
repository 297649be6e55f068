-- Notes of the objects on which groups have marks: what changes leave noted, and the span of a change.
use Rattle.std.proofs.Common.{◌≡◌, ◌≢◌, ◌∙◌, ℕ, ◌+◌, ◌*◌, ◌<◌, ◌≤◌, Bool, true, false, cond, List, [], ◌∷◌, ◌++◌, Option, Some, None, ◌⊎◌, inl, inr, append_assoc, get_or, map, refl, ap, sym, subst, arith, nat_lt}
use Rattle.std.specs.Prelude.{All, IfSome, ◌&&◌, ◌==◌, filter, if◌then◌else◌, not, take_while}
use Rattle.std.specs.BTreeMap.{is_at}
use Rattle.std.specs.List.{list_any}
use Rattle.std.specs.List.Sorted.{IsStrictlySortedBy}
use Rattle.std.specs.Map.{keys_of}
use Rattle.std.specs.Ordering.{is_le, nat_cmp}
use Rattle.std.specs.declared.cmp.Ordering.TheVariants.{Less}
use Rattle.std.proofs.lemmas.Bool.Decides.{nat_tests}
use Rattle.std.proofs.lemmas.List.{append-nil}
use Rattle.std.proofs.lemmas.List.Elements.{All-append, All-filter, All-map, All-weaker, filter_passes}
use Rattle.std.proofs.lemmas.List.Sums.{take_while-cons}
use Rattle.std.proofs.lemmas.Option.{IfSome_then}
use Rattle.fan_bits.specs.declared.change.Change.{Change}
use Rattle.fan_bits.specs.declared.change.Change.TheVariants.{Put, Flush, Clear, DropGroup, DropObject}
use Rattle.fan_bits.specs.declared.class.Class.{Class}
use Rattle.fan_bits.specs.declared.kind.Kind.{Kind}
use Rattle.fan_bits.specs.declared.kind.Kind.TheVariants as kinds
use Rattle.fan_bits.specs.declared.mark.Mark.{Mark}
use Rattle.fan_bits.specs.declared.mark_call.MarkWords.{MarkWords}
use Rattle.fan_bits.specs.Marks.{IsMarkList, IsPut, changed, cleared, is_before, is_behind, listed, mark_of, or_blank, order_number, put_mark, same_kind, stands}
use Rattle.fan_bits.proofs.MarkLists.{cleared_keeps, listed_all}
use Rattle.fan_bits.proofs.Updates.{Keeps, put_mark_keeps}
use Rattle.fan_lists.proofs.Filters.{filter_agree_on}
use Rattle.fan_lists.proofs.Finds.{IfSome-find}
use Rattle.fan_map.proofs.Keys.{filter_group, is_le-nat_cmp}
use Rattle.fan_rows.specs.Coding.{kind_number}
use Rattle.fan_rows.specs.Trees.{Tree}
use Rattle.fan_rows.proofs.Codes.{kind_small}
use Rattle.fan_grace.specs.Dropping.{IsDrop, selected}
use Rattle.fan_grace.specs.Noted.{AreNoted, end_place, first_place, is_within, noted_at, place_of}
use Rattle.fan_grace.specs.declared.noted.Span.{Span}
use Rattle.fan_grace.specs.Stored.{CanMake, CanMakeEach, StoredState, objects_of}
use Rattle.fan_grace.proofs.Dropping.{drop_is, drop_on_objects}

-- ---- what changes leave noted

-- a mark is noted
abbrev pub IsNoted : List (ℕ × ℕ) → Mark → Type 0
IsNoted entries mark = noted_at entries (place_of mark.group mark.kind mark.object) ≡ Some mark.object

-- a mark that keeps its group, object and kind stays noted
noted_kept : (entries : List (ℕ × ℕ)) (old new : Mark) → Keeps old new → IsNoted entries old
    → IsNoted entries new
noted_kept entries old new keeps noted = rw (keeps.group, keeps.kind, keeps.object) noted

-- at one place there is one object
one_object : (a b o p : ℕ) → o ≤ 65535 → p ≤ 65535 → a * 65536 + o ≡ b * 65536 + p → o ≡ p
one_object a b o p first second same = omega arith

module _ (entries later : List (ℕ × ℕ)) (group : ℕ) (kind : Kind) (object : ℕ)
    (noted : (q : ℕ) → noted_at later q
    ≡ (if q == place_of group kind object then Some object else noted_at entries q)) where
  -- when an object is noted, what was noted still is
  still_noted : (mark : Mark) → mark.object ≤ 65535 → object ≤ 65535 → IsNoted entries mark
      → IsNoted later mark
  still_noted mark small placed was =
      let place = place_of mark.group mark.kind mark.object in
      noted place ∙ by (place == place_of group kind object) refl
    where
      by : (b : Bool) → (place_of mark.group mark.kind mark.object == place_of group kind object) ≡ b
          → (if b then Some object
          else noted_at entries (place_of mark.group mark.kind mark.object)) ≡ Some mark.object
      by true same =
          let places : place_of mark.group mark.kind mark.object ≡ place_of group kind object =
          grind (arith, nat_tests, same) in
          ap Some (one_object (group * 4 + kind_number kind) (mark.group * 4 + kind_number mark.kind) object
          mark.object placed small (sym places))
      by false other = was

  -- the mark from which a Put starts is noted
  blank_noted : (old : Option Mark) (class : Class) → IfSome old (IsNoted later)
      → IsNoted later (or_blank old group class kind object)
  blank_noted None class was =
      noted (place_of group kind object) ∙ grind (arith, nat_tests)
  blank_noted (Some mark) class was = was

-- a list of marks is noted after a Put is noted
pub note_put : (entries later : List (ℕ × ℕ)) (marks : List Mark) (group : ℕ) (class : Class)
    (words : MarkWords) (object : ℕ)
    → IsMarkList marks → IsPut marks group class words object
    → ((q : ℕ) → noted_at later q
    ≡ (if q == place_of group words.kind object then Some object else noted_at entries q))
    → AreNoted entries marks → AreNoted later (changed marks (Put group class words object))
unfolding changed
note_put entries later marks group class words object list put noted were =
    let order = order_number class group in
    let still : All (IsNoted later) marks = λ k d within.
    still_noted entries later group words.kind object noted (get_or marks k d)
    (list.each k d within).object.1 put.placed.1 (were k d within) in
    let old = mark_of marks group object in
    let found : IfSome old (IsNoted later) =
    IfSome_then old (IfSome-find (λ mark. mark.group == group && mark.object == object) (IsNoted later) marks
    still)
    (λ mark is. is.0) in
    let before = or_blank old group class words.kind object in
    let left = put_mark old group class words object in
    let new : IfSome left (IsNoted later) =
    IfSome_then left (put_mark_keeps old group class words object)
    (λ mark keeps. noted_kept later before mark keeps
    (blank_noted entries later group words.kind object noted old class found)) in
    All-append (IsNoted later) (filter (is_before object order) marks ++ listed left)
    (filter (is_behind object order) marks)
    (All-append (IsNoted later) (filter (is_before object order) marks) (listed left)
    (All-filter (is_before object order) (IsNoted later) marks still)
    (listed_all (IsNoted later) left new))
    (All-filter (is_behind object order) (IsNoted later) marks still)

-- when a file is written to, its marks stay noted
pub note_clear : (entries : List (ℕ × ℕ)) (marks : List Mark) (object : ℕ) → AreNoted entries marks
    → AreNoted entries (changed marks (Clear object))
unfolding changed
note_clear entries marks object were =
    All-filter stands (IsNoted entries) (map (cleared object) marks)
    (All-map (IsNoted entries) (cleared object) marks
    (All-weaker (IsNoted entries) (λ mark. IsNoted entries (cleared object mark))
    (λ mark was. noted_kept entries mark (cleared object mark) (cleared_keeps object mark) was) marks were))

-- when an object is gone, the marks on others stay noted
pub note_drop_object : (entries : List (ℕ × ℕ)) (marks : List Mark) (object : ℕ) → AreNoted entries marks
    → AreNoted entries (changed marks (DropObject object))
unfolding changed
note_drop_object entries marks object were =
    All-filter (λ mark. not (mark.object == object)) (IsNoted entries) marks were

-- so after either
pub note_object : (entries : List (ℕ × ℕ)) (marks : List Mark) (change : Change)
    → ((object : ℕ) × change ≡ Clear object) ⊎ ((object : ℕ) × change ≡ DropObject object)
    → AreNoted entries marks → AreNoted entries (changed marks change)
note_object entries marks change (inl (object, is)) were =
    subst (λ change. AreNoted entries (changed marks change)) (sym is) (note_clear entries marks object were)
note_object entries marks change (inr (object, is)) were =
    subst (λ change. AreNoted entries (changed marks change)) (sym is) (note_drop_object entries marks object were)

-- ---- the span of a change

-- two kinds are the same exactly if their numbers are
same_kind_is : (k l : Kind) → same_kind k l ≡ (kind_number k == kind_number l)
same_kind_is kinds.Inode kinds.Inode = refl
same_kind_is kinds.Inode kinds.Mount = refl
same_kind_is kinds.Inode kinds.Filesystem = refl
same_kind_is kinds.Mount kinds.Inode = refl
same_kind_is kinds.Mount kinds.Mount = refl
same_kind_is kinds.Mount kinds.Filesystem = refl
same_kind_is kinds.Filesystem kinds.Inode = refl
same_kind_is kinds.Filesystem kinds.Mount = refl
same_kind_is kinds.Filesystem kinds.Filesystem = refl

-- two numbers that are the same, by the test
both_same : (g k x l : ℕ) → (x == g && l == k) ≡ true → (x ≡ g) × (l ≡ k)
both_same g k x l same = (grind (arith, nat_tests), grind (arith, nat_tests))

-- the places of one kind of a group, by numbers
in_kind : (g k x l o : ℕ) → x ≡ g → l ≡ k → o ≤ 65535
    → ((g * 4 + k) * 65536 + 0 ≤ (x * 4 + l) * 65536 + o)
    × ((x * 4 + l) * 65536 + o < (g * 4 + k) * 65536 + 0 + 65536)
in_kind g k x l o group kind small = (omega arith, omega arith)

in_group : (g x l o : ℕ) → x ≡ g → l < 4 → o ≤ 65535
    → (g * 4 * 65536 ≤ (x * 4 + l) * 65536 + o) × ((x * 4 + l) * 65536 + o < (g + 1) * 4 * 65536)
in_group g x l o group kind small = (omega arith, omega arith)

only_kind : (g k x l o : ℕ) → k < 4 → l < 4 → o ≤ 65535
    → (g * 4 + k) * 65536 + 0 ≤ (x * 4 + l) * 65536 + o
    → (x * 4 + l) * 65536 + o < (g * 4 + k) * 65536 + 0 + 65536 → (x ≡ g) × (l ≡ k)
only_kind g k x l o kind other small from before = (omega arith, omega arith)

only_group : (g x l o : ℕ) → l < 4 → o ≤ 65535 → g * 4 * 65536 ≤ (x * 4 + l) * 65536 + o
    → (x * 4 + l) * 65536 + o < (g + 1) * 4 * 65536 → x ≡ g
only_group g x l o kind small from before = omega arith

-- the place of a mark that a change takes away is within the change's span
pub in_span : (change : Change) (mark : Mark) → mark.object ≤ 65535 → selected change mark ≡ true
    → (first_place change ≤ place_of mark.group mark.kind mark.object)
    × (place_of mark.group mark.kind mark.object < end_place change)
in_span (Flush group kind) mark small chosen =
    let same = both_same group (kind_number kind) mark.group (kind_number mark.kind)
    (sym (ap (λ same. mark.group == group && same) (same_kind_is mark.kind kind)) ∙ chosen) in
    in_kind group (kind_number kind) mark.group (kind_number mark.kind) mark.object same.0 same.1 small
in_span (DropGroup group) mark small chosen =
    let same : mark.group ≡ group = grind (arith, nat_tests, chosen) in
    in_group group mark.group (kind_number mark.kind) mark.object same (kind_small mark.kind) small
in_span (Put group class words object) mark small chosen = absurd cc
in_span (Clear object) mark small chosen = absurd cc
in_span (DropObject object) mark small chosen = absurd cc

-- that of another mark is not
pub out_of_span : (change : Change) (mark : Mark) (place : ℕ) → mark.object ≤ 65535 → IsDrop change
    → selected change mark ≡ false → first_place change ≤ place → place < end_place change
    → place_of mark.group mark.kind mark.object ≢ place
out_of_span (Flush group kind) mark place small drop left from before same =
    let is = only_kind group (kind_number kind) mark.group (kind_number mark.kind) mark.object
    (kind_small kind) (kind_small mark.kind) small (rw (← same) at from) (rw (← same) at before) in
    let other : (mark.group == group && kind_number mark.kind == kind_number kind) ≡ false =
    sym (ap (λ same. mark.group == group && same) (same_kind_is mark.kind kind)) ∙ left in
    grind (arith, nat_tests, is.0, is.1, other)
out_of_span (DropGroup group) mark place small drop left from before same =
    let is = only_group group mark.group (kind_number mark.kind) mark.object (kind_small mark.kind) small
    (rw (← same) at from) (rw (← same) at before) in
    grind (arith, nat_tests, is, left)
out_of_span (Put group class words object) mark place small drop left from before same = absurd drop
out_of_span (Clear object) mark place small drop left from before same = absurd drop
out_of_span (DropObject object) mark place small drop left from before same = absurd drop

-- what holds of each mark that fails a test holds of all that are left without those that pass
kept_all : (test : Mark → Bool) (P : Mark → Type 0) (marks : List Mark)
    → All (λ mark. test mark ≡ false → P mark) marks → All P (filter (λ mark. not (test mark)) marks)
kept_all test P marks each k d within =
    let left : Mark → Bool = λ mark. not (test mark) in
    All-filter left (λ mark. test mark ≡ false → P mark) marks each k d within
    (grind (arith, filter_passes left marks k d within))

-- ---- the entries of a span

module _ (span : Span) where
  -- behind a place that isn't before the end, none is
  none_behind : (x y : ℕ) → is_le (nat_cmp span.first x) ≡ true → nat_lt x span.end ≡ false
      → nat_cmp x y ≡ Less → nat_lt y span.end ≡ false
  none_behind x y from past less = grind (arith, nat_tests)

  -- the entries from the first place on, while they are before the end, are those of the span
  pub walk_within : (entries : List (ℕ × ℕ)) → IsStrictlySortedBy nat_cmp (keys_of entries)
      → take_while (λ e. nat_lt e.0 span.end) (filter (λ e. is_le (nat_cmp span.first e.0)) entries)
      ≡ filter (λ e. is_within span e.0) entries
  walk_within entries sorted =
      let from : ℕ → Bool = λ q. is_le (nat_cmp span.first q) in
      let before : ℕ → Bool = λ q. nat_lt q span.end in
      sym (filter_group nat_cmp from before none_behind entries sorted)
      ∙ filter_agree_on (λ e. from e.0 && before e.0) (λ e. is_within span e.0) entries
      (λ k d within. ap (λ (b : Bool). b && before (get_or entries k d).0)
      (is_le-nat_cmp span.first (get_or entries k d).0))

  -- one more entry of a walk
  pub walk_next : (found more it next : List (ℕ × ℕ)) (e : ℕ × ℕ) → it ≡ e ∷ next → e.0 < span.end
      → more ≡ found ++ e ∷ []
      → more ++ take_while (λ e. nat_lt e.0 span.end) next
      ≡ found ++ take_while (λ e. nat_lt e.0 span.end) it
  walk_next found more it next e it_is before pushed =
      let test : ℕ × ℕ → Bool = λ e. nat_lt e.0 span.end in
      let passes : test e ≡ true = grind (arith, nat_tests, before) in
      let rest = take_while test next in
      let head : take_while test it ≡ e ∷ rest = ap (take_while test) it_is ∙ take_while-cons test e next
      ∙ ap (λ b. cond b (e ∷ rest) []) passes in
      ap (λ items. items ++ rest) pushed ∙ append_assoc found (e ∷ []) rest
      ∙ ap (λ rest. found ++ rest) (sym head)

  -- at the end of the entries, or at one that isn't before the end of the span, all were found
  pub walk_over : (found all it : List (ℕ × ℕ)) → found ++ take_while (λ e. nat_lt e.0 span.end) it ≡ all
      → take_while (λ e. nat_lt e.0 span.end) it ≡ [] → found ≡ all
  walk_over found all it walked none =
      sym (append-nil found) ∙ ap (λ rest. found ++ rest) (sym none) ∙ walked

  pub past_end : (it next : List (ℕ × ℕ)) (e : ℕ × ℕ) → it ≡ e ∷ next → span.end ≤ e.0
      → take_while (λ e. nat_lt e.0 span.end) it ≡ []
  past_end it next e it_is past =
      let test : ℕ × ℕ → Bool = λ e. nat_lt e.0 span.end in
      let fails : test e ≡ false = grind (arith, nat_tests, past) in
      ap (take_while test) it_is ∙ take_while-cons test e next
      ∙ ap (λ b. cond b (e ∷ take_while test next) []) fails

  -- what is noted at a place of the span is among them
  pub all_within : (entries : List (ℕ × ℕ)) (q o : ℕ) → span.first ≤ q → q < span.end
      → noted_at entries q ≡ Some o
      → list_any (λ object. object == o) (map (λ e. e.1) (filter (λ e. is_within span e.0) entries)) ≡ true
  all_within [] q o from before noted = absurd cc
  all_within (e ∷ es) q o from before noted =
      by (is_at (nat_cmp q) e.0) refl noted (all_within es q o from before)
    where
      any : List (ℕ × ℕ) → Bool
      any found = list_any (λ object. object == o) (map (λ e. e.1) found)

      by : (b : Bool) → is_at (nat_cmp q) e.0 ≡ b → cond b (Some e.1) (noted_at es q) ≡ Some o
          → (noted_at es q ≡ Some o → any (filter (λ e. is_within span e.0) es) ≡ true)
          → any (filter (λ e. is_within span e.0) (e ∷ es)) ≡ true
      by true at is ih =
          let object : e.1 ≡ o = cc in
          let here : is_within span e.0 ≡ true = grind (arith, nat_tests, at, from, before) in
          rw here (grind (arith, nat_tests, object))
      by false other is ih = by_test (is_within span e.0) refl
        where
          by_test : (b : Bool) → is_within span e.0 ≡ b
              → any (cond b (e ∷ filter (λ e. is_within span e.0) es) (filter (λ e. is_within span e.0) es))
              ≡ true
          by_test true test = grind (arith, ih is)
          by_test false test = ih is

  -- and they have places of the span
  pub inside_span : (entries : List (ℕ × ℕ))
      → All (λ e. (span.first ≤ e.0) × (e.0 < span.end)) (filter (λ e. is_within span e.0) entries)
  inside_span entries =
      let P : ℕ × ℕ → Type 0 = λ e. is_within span e.0 ≡ true in
      All-weaker P (λ e. (span.first ≤ e.0) × (e.0 < span.end))
      (λ e passes. (grind (arith, nat_tests, passes), grind (arith, nat_tests, passes)))
      (filter (λ e. is_within span e.0) entries) (filter_passes (λ e. is_within span e.0) entries)

-- ---- places that are forgotten

module _ (old new : List (ℕ × ℕ)) (place : ℕ)
    (found : (q : ℕ) → noted_at new q ≡ (if is_at (nat_cmp q) place then None else noted_at old q)) where
  -- when a place is forgotten, what is noted at others stays
  pub others_stay : (q : ℕ) → q ≢ place → noted_at new q ≡ noted_at old q
  others_stay q other =
      let apart : is_at (nat_cmp q) place ≡ false = grind (arith, nat_tests, other) in
      found q ∙ ap (λ b. cond b None (noted_at old q)) apart

  -- at it nothing is noted, nor where nothing was
  pub gone_there : noted_at new place ≡ None
  gone_there =
      let at : is_at (nat_cmp place) place ≡ true = grind (arith, nat_tests) in
      found place ∙ ap (λ b. cond b None (noted_at old place)) at

  pub gone_before : (q : ℕ) → noted_at old q ≡ None → noted_at new q ≡ None
  gone_before q gone = grind (arith, found q, gone)

-- ---- flushes, and the end of a group

module _ (entries : List (ℕ × ℕ)) (marks : List Mark) (change : Change) (found : List (ℕ × ℕ))
    (list : IsMarkList marks) (were : AreNoted entries marks) where
  -- the marks that a change takes away are on the objects of its span
  pub selected_found : ((q o : ℕ) → first_place change ≤ q → q < end_place change → noted_at entries q ≡ Some o
      → list_any (λ object. object == o) (map (λ e. e.1) found) ≡ true)
      → All (λ mark. selected change mark ≡ true
      → list_any (λ object. object == mark.object) (map (λ e. e.1) found) ≡ true) marks
  selected_found all k d within chosen =
      let mark = get_or marks k d in
      let span = in_span change mark (list.each k d within).object.1 chosen in
      all (place_of mark.group mark.kind mark.object) mark.object span.0 span.1 (were k d within)

  -- a mark that stays is still noted when places of the span are forgotten
  stays_noted : (later : List (ℕ × ℕ)) → IsDrop change
      → All (λ e. (first_place change ≤ e.0) × (e.0 < end_place change)) found
      → ((q : ℕ) → All (λ e. q ≢ e.0) found → noted_at later q ≡ noted_at entries q)
      → All (λ mark. selected change mark ≡ false → IsNoted later mark) marks
  stays_noted later drop inside others k d within left =
      let mark = get_or marks k d in
      let apart : All (λ e. place_of mark.group mark.kind mark.object ≢ e.0) found = λ i e there.
      out_of_span change mark (get_or found i e).0 (list.each k d within).object.1 drop left
      (inside i e there).0 (inside i e there).1 in
      others (place_of mark.group mark.kind mark.object) apart ∙ were k d within

  -- so what the change leaves is noted
  pub note_drop : (later : List (ℕ × ℕ)) → IsDrop change
      → All (λ e. (first_place change ≤ e.0) × (e.0 < end_place change)) found
      → ((q : ℕ) → All (λ e. q ≢ e.0) found → noted_at later q ≡ noted_at entries q)
      → AreNoted later (changed marks change)
  note_drop later drop inside others =
      subst (AreNoted later) (sym (drop_is marks change drop))
      (kept_all (λ mark. selected change mark) (IsNoted later) marks
      (stays_noted later drop inside others))

  -- and it can be made on these objects
  pub can_each : (stored : StoredState) (root : ℕ) (tree : Tree) → CanMake stored root marks tree change
      → IsDrop change
      → ((q o : ℕ) → first_place change ≤ q → q < end_place change → noted_at entries q ≡ Some o
      → list_any (λ object. object == o) (map (λ e. e.1) found) ≡ true)
      → CanMakeEach stored root marks tree change (objects_of found)
  can_each stored root tree can drops all = record {
    can = can;
    drops = drops;
    there = drop_on_objects marks change (objects_of found) drops (selected_found all);
  }
