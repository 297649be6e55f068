-- Changes that take marks of a group away, at once and on one object after the other.
use Rattle.std.proofs.Common.{◌≡◌, ◌≢◌, ◌∙◌, ℕ, ◌+◌, ◌≤◌, Bool, true, false, List, [], ◌∷◌, get_or, length, refl, sym, ap, subst, arith, eqb-true, eq-eqb}
use Rattle.std.proofs.lemmas.Bool.{false≢true}
use Rattle.std.proofs.lemmas.Bool.Decides.{nat_tests}
use Rattle.std.proofs.lemmas.List.Elements.{All-append, All-filter, All-nil, Contains-get_or, filter_passes}
use Rattle.std.proofs.lemmas.List.Filters.{length-filter_both}
use Rattle.std.proofs.lemmas.List.Folds.{list_any_at}
use Rattle.std.proofs.lemmas.Map.Views.{Contains-from_any}
use Rattle.std.specs.List.{Contains, list_any}
use Rattle.std.specs.Prelude.{All, filter, not, ◌==◌, ◌||◌}
use Rattle.fan_lists.proofs.Filters.{filter_agree_on, filter_all, filter_none}
use Rattle.fan_lists.proofs.Pairs.{Contains-filter}
use Rattle.fan_bits.specs.declared.change.Change.{Change}
use Rattle.fan_bits.specs.declared.change.Change.TheVariants.{Put, Flush, Clear, DropGroup, DropObject}
use Rattle.fan_bits.specs.declared.mark.Mark.{Mark}
use Rattle.fan_bits.specs.Marks.{IsChange, IsMarkList, changed, gone, on, same_mark}
use Rattle.fan_bits.proofs.Lists.{Contains-filtered, filter_within, filters_swap}
use Rattle.fan_bits.proofs.MarkLists.{IsMarkList-filter}
use Rattle.fan_rows.specs.Costs.{altered}
use Rattle.fan_rows.proofs.SameLists.{same_list}
use Rattle.fan_build.specs.Objects.{IsNoPut, IsOnObjects, changed_on, changed_on_all}
use Rattle.fan_build.proofs.Objects.{changed_on_keeps_list, elsewhere_on, here_on}
use Rattle.fan_build.proofs.SameMarks.{same_mark_exact, same_mark_itself}
use Rattle.fan_grace.specs.Dropping.{IsDrop, selected}

-- ---- the marks that a filter takes away

-- a mark that is in a list is there by the test of sameness
there : (mark : Mark) (marks : List Mark) → Contains marks mark → list_any (same_mark mark) marks ≡ true
there mark marks (at, within, is) =
    list_any_at (same_mark mark) marks at mark within (ap (same_mark mark) is ∙ same_mark_itself mark)

not_twice : (b : Bool) → b ≡ not (not b)
not_twice true = refl
not_twice false = refl

module _ (p : Mark → Bool) (marks : List Mark) where
  -- a mark is among those that are kept if it passes
  kept_if : (mark : Mark) → Contains marks mark → (b : Bool) → p mark ≡ b → (stays : Bool)
      → list_any (same_mark mark) (filter p marks) ≡ stays → stays ≡ b
  kept_if mark in_it true passes stays is =
      sym is ∙ there mark (filter p marks) (Contains-filter p mark marks in_it passes)
  kept_if mark in_it false fails false is = refl
  kept_if mark in_it false fails true is =
      let found = Contains-filtered p mark marks (Contains-from_any same_mark_exact mark (filter p marks) is) in
      absurd (false≢true (sym fails ∙ found.1))

  -- so those that fail are gone
  gone_fail : gone marks (filter p marks) ≡ filter (λ mark. not (p mark)) marks
  gone_fail =
      filter_agree_on (λ mark. not (list_any (same_mark mark) (filter p marks))) (λ mark. not (p mark)) marks
      (λ k d within.
      let mark = get_or marks k d in
      ap not (kept_if mark (Contains-get_or marks k d within) (p mark) refl
      (list_any (same_mark mark) (filter p marks)) refl))

  -- and none is new
  none_new : gone (filter p marks) marks ≡ []
  none_new =
      filter_none (λ mark. not (list_any (same_mark mark) marks)) (filter p marks) (λ k d within.
      let mark = get_or (filter p marks) k d in
      let found = Contains-filtered p mark marks (Contains-get_or (filter p marks) k d within) in
      ap not (there mark marks found.0))

  -- the marks that go, and those that stay, are all
  gone_counts : length (gone marks (filter p marks)) + length (filter p marks) ≡ length marks
  gone_counts =
      rw gone_fail (length-filter_both (λ mark. not (p mark)) p (λ mark. not_twice (p mark)) marks)

-- ---- a change that takes marks of a group away

pub drop_no_put : (change : Change) → IsDrop change → IsNoPut change
drop_no_put (Put group class words object) is = absurd is
drop_no_put (Flush group kind) is = tt
drop_no_put (Clear object) is = tt
drop_no_put (DropGroup group) is = tt
drop_no_put (DropObject object) is = tt

pub drop_can : (marks : List Mark) (change : Change) → IsDrop change → IsChange marks change
drop_can marks (Put group class words object) is = absurd is
drop_can marks (Flush group kind) is = tt
drop_can marks (Clear object) is = tt
drop_can marks (DropGroup group) is = tt
drop_can marks (DropObject object) is = tt

-- it is a filter
pub drop_is : (marks : List Mark) (change : Change) → IsDrop change
    → changed marks change ≡ filter (λ mark. not (selected change mark)) marks
unfolding changed
drop_is marks (Put group class words object) is = absurd is
drop_is marks (Flush group kind) is = refl
drop_is marks (Clear object) is = absurd is
drop_is marks (DropGroup group) is = refl
drop_is marks (DropObject object) is = absurd is

-- where each selected mark is on one of some objects, each altered one is
pub drop_on_objects : (marks : List Mark) (change : Change) (objects : List ℕ) → IsDrop change
    → All (λ mark. selected change mark ≡ true → list_any (λ object. object == mark.object) objects ≡ true)
    marks
    → IsOnObjects marks change objects
drop_on_objects marks change objects is each =
    let stays : Mark → Bool = λ mark. not (selected change mark) in
    let OnOne : Mark → Type 0 = λ mark. list_any (λ object. object == mark.object) objects ≡ true in
    let kept = filter stays marks in
    let lost = filter (λ mark. not (stays mark)) marks in
    let old : All OnOne lost = λ k d within.
    All-filter (λ mark. not (stays mark)) (λ mark. selected change mark ≡ true → OnOne mark) marks each k d within
    (not_twice (selected change (get_or lost k d)) ∙ filter_passes (λ mark. not (stays mark)) marks k d within) in
    subst (λ new. All OnOne (altered marks new)) (sym (drop_is marks change is))
    (All-append OnOne (gone marks kept) (gone kept marks)
    (subst (λ l. All OnOne l) (sym (gone_fail stays marks)) old)
    (subst (λ l. All OnOne l) (sym (none_new stays marks)) (All-nil OnOne)))

-- the marks that go, and those that stay, are all
pub drop_counts : (marks : List Mark) (change : Change) → IsDrop change
    → length (gone marks (changed marks change)) + length (changed marks change) ≡ length marks
drop_counts marks change is =
    subst (λ new. length (gone marks new) + length new ≡ length marks) (sym (drop_is marks change is))
    (gone_counts (λ mark. not (selected change mark)) marks)

-- ---- on one object

-- it passes the marks elsewhere, and those that aren't selected
stays_on : Change → ℕ → Mark → Bool
stays_on change object mark = not (mark.object == object) || not (selected change mark)

module _ (marks : List Mark) (change : Change) (object : ℕ) where
  -- the marks that it leaves on the object
  left_here : IsDrop change → on object (changed_on marks change object)
      ≡ on object (filter (stays_on change object) marks)
  unfolding stays_on
  left_here is =
      let test : Mark → Bool = λ mark. mark.object == object in
      let stays : Mark → Bool = λ mark. not (selected change mark) in
      here_on marks change object
      ∙ ap (on object) (drop_is marks change is)
      ∙ filters_swap test stays marks
      ∙ filter_within stays (stays_on change object) test (λ mark here. rw here refl) marks
      ∙ sym (filters_swap test (stays_on change object) marks)

  -- and on another
  left_elsewhere : (other : ℕ) → other ≢ object → on other (changed_on marks change object)
      ≡ on other (filter (stays_on change object) marks)
  unfolding stays_on
  left_elsewhere other differs =
      let test : Mark → Bool = λ mark. mark.object == other in
      let all : filter (stays_on change object) (on other marks) ≡ on other marks =
      filter_all (stays_on change object) (on other marks) (λ k d within.
      let at = filter_passes test marks k d within in grind (arith, nat_tests, differs, at)) in
      elsewhere_on marks change object other differs
      ∙ sym (filters_swap test (stays_on change object) marks ∙ all)

  -- so it is a filter on one object too
  drop_on_is : IsMarkList marks → IsDrop change
      → changed_on marks change object ≡ filter (stays_on change object) marks
  drop_on_is list is =
      same_list (changed_on marks change object) (filter (stays_on change object) marks)
      (changed_on_keeps_list marks change object list (drop_can marks change is))
      (IsMarkList-filter (stays_on change object) marks list)
      (λ other bound. by other (object == other) refl)
    where
      by : (other : ℕ) (same : Bool) → (object == other) ≡ same
          → on other (changed_on marks change object) ≡ on other (filter (stays_on change object) marks)
      by other true at =
          subst (λ o. on o (changed_on marks change object) ≡ on o (filter (stays_on change object) marks))
          (eqb-true object other at) (left_here is)
      by other false off =
          left_elsewhere other (λ same. false≢true (sym off ∙ eq-eqb object other (sym same)))

  -- the marks that go, and those that stay, are all
  pub drop_on_counts : IsMarkList marks → IsDrop change
      → length (gone marks (changed_on marks change object)) + length (changed_on marks change object)
      ≡ length marks
  drop_on_counts list is =
      subst (λ new. length (gone marks new) + length new ≡ length marks) (sym (drop_on_is list is))
      (gone_counts (stays_on change object) marks)

  -- where it takes none away, it takes none away on an object
  pub drop_on_same : IsMarkList marks → IsDrop change → changed marks change ≡ marks
      → changed_on marks change object ≡ marks
  unfolding stays_on
  drop_on_same list is same =
      let stays : Mark → Bool = λ mark. not (selected change mark) in
      let each : All (λ mark. stays mark ≡ true) marks =
      subst (All (λ mark. stays mark ≡ true)) (sym (drop_is marks change is) ∙ same) (filter_passes stays marks) in
      drop_on_is list is
      ∙ filter_all (stays_on change object) marks (λ k d within.
      let one = each k d within in grind (arith, nat_tests, one))

-- on one object after the other marks only go
pub drop_all_fewer : (objects : List ℕ) (marks : List Mark) (change : Change) → IsMarkList marks → IsDrop change
    → length (changed_on_all marks change objects) ≤ length marks
drop_all_fewer [] marks change list is = omega arith
drop_all_fewer (object ∷ objects) marks change list is =
    let counts = drop_on_counts marks change object list is in
    let rest = drop_all_fewer objects (changed_on marks change object) change
    (changed_on_keeps_list marks change object list (drop_can marks change is)) is in
    omega (arith, counts, rest)
