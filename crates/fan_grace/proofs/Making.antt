-- A change of the marks that are pictured from a root: room is made, and then it is published.
use Rattle.std.proofs.Common.{◌≡◌, ◌∙◌, ℕ, ◌+◌, ◌-◌, ◌*◌, ◌/◌, ◌%◌, ◌<◌, ◌≤◌, List, ◌++◌, None, length, replicate, refl, sym, ap, subst, arith, slice_get, length-append}
use Rattle.std.proofs.lemmas.List.{length-replicate}
use Rattle.std.proofs.lemmas.List.FromFn.{length-range_with_len}
use Rattle.std.proofs.lemmas.Option.{slice_get_past}
use Rattle.std.specs.List.{range_with_len}
use Rattle.fan_bits.specs.declared.change.Change.{Change}
use Rattle.fan_bits.specs.declared.mark.Mark.{Mark}
use Rattle.fan_bits.specs.Marks.{IsMarkList, gone}
use Rattle.fan_rows.specs.Rows.{times}
use Rattle.fan_rows.specs.Trees.{Pictures, PicturesBy, Tree, rows_of}
use Rattle.fan_rows.proofs.Chains.{times_append}
use Rattle.fan_rows.proofs.SameLists.{one_list}
use Rattle.fan_rows.proofs.TreeLemmas.{one_tree}
use Rattle.fan_build.specs.Needs.{needed_between}
use Rattle.fan_build.specs.Publishing.{CanChange, Reaches, Wrote, given_since, retired_since}
use Rattle.fan_build.specs.Publishing as publishing
use Rattle.fan_grace.specs.declared.made.Made.{Made}
use Rattle.fan_grace.specs.Stored.{CanMake, Extends, IsMade, IsStored, StoredState, given_below, listed_rows, row_count}
use Rattle.fan_grace.proofs.Frames.{still_pictures, tree_pictures}
use Rattle.fan_grace.proofs.Numbers.{range_before, range_behind, ranges_apart}
use Rattle.fan_grace.proofs.Words.{ended, front}

pub can_change : (stored : StoredState) (root : ℕ) (marks : List Mark) (tree : Tree) (change : Change)
    → CanMake stored root marks tree change → CanChange (slice_get stored.words) root marks change
can_change stored root marks tree change can = record {
  pictured = (tree, can.kept.pictured);
  list = can.kept.list;
  allowed = can.allowed;
}

-- free rows were added
pub record Roomy (old mid : StoredState) (count : ℕ) : Type 0 where
  pub words : mid.words ≡ old.words ++ replicate (4 * count) 0
  pub next : mid.next ≡ old.next
  pub retired : mid.retired ≡ old.retired

pub room_made : (old mid : StoredState) (count needed : ℕ) → count ≡ needed
    → mid.words ≡ old.words ++ replicate (4 * count) 0 → mid.next ≡ old.next → mid.retired ≡ old.retired
    → Roomy old mid needed
room_made old mid count needed is words next retired = record {
  words = subst (λ n. mid.words ≡ old.words ++ replicate (4 * n) 0) is words;
  next = next;
  retired = retired;
}

module _ (old mid : StoredState) (root : ℕ) (marks after : List Mark) (tree : Tree) (change : Change)
    (can : CanMake old root marks tree change) (above : 1 ≤ old.next)
    (roomy : Roomy old mid (needed_between marks after)) where
  abbrev needed : ℕ
  needed = needed_between marks after

  length_mid : length mid.words ≡ 4 * (old.next + needed)
  length_mid =
      let zeros : List ℕ = replicate (4 * needed) 0 in
      let added : length {A = ℕ} zeros ≡ 4 * needed = length-replicate (4 * needed) 0 in
      let all : length mid.words ≡ length old.words + length {A = ℕ} zeros =
      ap length roomy.words ∙ length-append old.words zeros in
      omega (arith, can.kept.full)

  free_is : (listed_rows mid).free ≡ range_with_len old.next needed
  free_is =
      let next = roomy.next in
      let many : row_count mid.words - mid.next ≡ needed = omega (arith, length_mid) in
      rw (many, next) refl

  pub extends_mid : Extends old.words mid.words
  extends_mid place small =
      ap (λ words. slice_get words place) roomy.words
      ∙ front old.words (replicate (4 * needed) 0) place small

  pictured_mid : PicturesBy (slice_get mid.words) root tree marks
  pictured_mid = tree_pictures old.words mid.words old.next can.kept.full extends_mid root tree marks can.kept.pictured

  pub can_publish : publishing.CanMake (slice_get mid.words) (listed_rows mid) root marks change after
  can_publish = record {
    possible = record { pictured = (tree, pictured_mid); list = can.kept.list; allowed = can.allowed };
    enough =
        let many : length (listed_rows mid).free ≡ needed =
        ap length free_is ∙ length-range_with_len old.next needed in
        omega arith;
    apart = λ reached (other, lies, top_is, rows_are) row.
        let one : other ≡ tree = one_tree (slice_get mid.words) other tree 8 lies pictured_mid.lies
        (top_is ∙ sym pictured_mid.root_is) in
        let rows : rows_of tree ≡ reached = ap rows_of (sym one) ∙ rows_are in
        let counts : times row reached + times row old.retired ≡ times row (given_below old.next) =
        subst (λ all. times row all + times row old.retired ≡ times row (given_below old.next)) rows
        (can.kept.counts row) in
        let gone : times row mid.retired ≡ times row old.retired = ap (times row) roomy.retired in
        let free : times row (listed_rows mid).free ≡ times row (range_with_len old.next needed) =
        ap (times row) free_is in
        omega (arith, ranges_apart row old.next needed above);
  }

-- what publishing tells
pub record Published (mid new : StoredState) (root : ℕ) (marks after : List Mark) (made : Made)
    : Type 0 where
  pub pictures : Pictures (slice_get new.words) made.root after
  pub wrote : Wrote (slice_get mid.words) (slice_get new.words) (listed_rows mid) (listed_rows new)
  pub needed : length (given_since (listed_rows mid) (listed_rows new)) ≡ needed_between marks after
  pub marks_is : made.marks ≡ length (gone marks after)
  pub same : after ≡ marks → made.root ≡ root
  pub once : (before behind : List ℕ) → Reaches (slice_get mid.words) root before
      → Reaches (slice_get new.words) made.root behind → (row : ℕ)
      → times row before + times row (given_since (listed_rows mid) (listed_rows new))
      ≡ times row behind + times row (retired_since (listed_rows mid) (listed_rows new))

module _ (old mid new : StoredState) (root : ℕ) (marks after : List Mark) (tree : Tree) (change : Change)
    (made : Made) (can : CanMake old root marks tree change) (above : 1 ≤ old.next)
    (roomy : Roomy old mid (needed_between marks after)) (is : Published mid new root marks after made)
    (list : IsMarkList after) (stored : IsStored new) where
  abbrev taken : ℕ
  taken = needed_between marks after

  abbrev since : List ℕ
  since = given_since (listed_rows mid) (listed_rows new)

  abbrev left : List ℕ
  left = retired_since (listed_rows mid) (listed_rows new)

  -- all rows that were added were given out
  next_new : new.next ≡ old.next + taken
  next_new =
      let all : length (given_below new.next) ≡ length (given_below mid.next) + length since =
      ap length is.wrote.given_on ∙ length-append (given_below mid.next) since in
      let first = length-range_with_len 1 (new.next - 1) in
      let second = length-range_with_len 1 (mid.next - 1) in
      let next = roomy.next in
      omega (arith, is.needed, stored.above)

  -- a row that wasn't free wasn't given out
  not_given : (row : ℕ) → times row (range_with_len old.next taken) ≡ 0 → times row since ≡ 0
  not_given row none =
      let free : times row (listed_rows mid).free ≡ 0 =
      ap (times row) (free_is old mid root marks after tree change can above roomy) ∙ none in
      omega (arith, is.wrote.from_free row)

  length_new : length new.words ≡ 4 * new.next
  length_new =
      let end = old.next + taken in
      let none = not_given end (range_behind end old.next taken (omega arith)) in
      let count = length_mid old mid root marks after tree change can above roomy in
      let last : slice_get new.words (4 * end + 0) ≡ None =
      is.wrote.others end 0 (omega arith) none ∙ slice_get_past mid.words (4 * end + 0) (omega arith) in
      omega (arith, ended new.words (4 * end + 0) last, next_new, stored.within, stored.whole)

  untouched : (row place : ℕ) → row < old.next → place < 4
      → slice_get new.words (4 * row + place) ≡ slice_get mid.words (4 * row + place)
  untouched row place small four =
      is.wrote.others row place four (not_given row (range_before row old.next taken small))

  extends_new : Extends old.words new.words
  extends_new place small =
      let at : 4 * (place / 4) + place % 4 ≡ place = omega arith in
      subst (λ p. slice_get new.words p ≡ slice_get mid.words p) at
      (untouched (place / 4) (place % 4) (omega (arith, can.kept.full)) (omega arith))
      ∙ extends_mid old mid root marks after tree change can above roomy place small

  counts_new : (row : ℕ) → times row (rows_of is.pictures.0) + times row new.retired
      ≡ times row (given_below new.next)
  counts_new row =
      let before = pictured_mid old mid root marks after tree change can above roomy in
      let after = is.pictures.1 in
      let moved = is.once (rows_of tree) (rows_of is.pictures.0) (tree, before.lies, before.root_is, refl)
      (is.pictures.0, after.lies, after.root_is, refl) row in
      let given : times row (given_below new.next) ≡ times row (given_below mid.next) + times row since =
      ap (times row) is.wrote.given_on ∙ times_append row (given_below mid.next) since in
      let retired : times row new.retired ≡ times row mid.retired + times row left =
      ap (times row) is.wrote.retired_on ∙ times_append row mid.retired left in
      let was : times row mid.retired ≡ times row old.retired = ap (times row) roomy.retired in
      let first : times row (given_below mid.next) ≡ times row (given_below old.next) =
      ap (λ next. times row (given_below next)) roomy.next in
      omega (arith, can.kept.counts row)

  pub made_of : IsMade old new root marks after made
  made_of = record {
    tree = is.pictures.0;
    kept = record { full = length_new; pictured = is.pictures.1; list = list; counts = counts_new };
    grown = record {
      longer = omega (arith, length_new, next_new, can.kept.full);
      extends = extends_new;
      more = left;
      retired = is.wrote.retired_on ∙ ap (λ rows. rows ++ left) roomy.retired;
    };
    same = is.same;
    differs = λ root_is. one_list (slice_get new.words) root after marks
        (subst (λ r. Pictures (slice_get new.words) r after) root_is is.pictures)
        (still_pictures old.words new.words old.next can.kept.full extends_new root marks
        (tree, can.kept.pictured))
        list can.kept.list;
    gone_are = is.marks_is;
  }
