-- The marks that matter at a place are those with which its objects answer.
use Rattle.std.proofs.Common.{◌≡◌, ◌∙◌, ℕ, ◌<◌, ◌≤◌, ◌==◌, ◌&&◌, ◌||◌, Bool, true, false, List, [], ◌∷◌, Option, Some, None, get_or, suc, refl, sym, ap, arith, inl, inr, subst, ⊎_elim, eqb-true, eq-eqb}
use Rattle.std.specs.Prelude.{All, nat_lt, if◌then◌else◌, IfSome, ◌⊎◌}
use Rattle.std.specs.List.{Contains, fold, list_any}
use Rattle.std.specs.Option.{option_to_list}
use Rattle.std.proofs.lemmas.Bool.{and_parts, false≢true, or_cases}
use Rattle.std.proofs.lemmas.Bool.Decides.{nat_tests}
use Rattle.std.proofs.lemmas.List.Elements.{All-cons, All-contains, All-contains_itself, All-filter, All-map, All-nil}
use Rattle.std.proofs.lemmas.Option.{IfSome_then}
use Rattle.std.proofs.lemmas.List.Folds.{Any-from_list_any, list_any-from_Any}
use Rattle.fan_bits.specs.declared.mark.Mark.{Mark}
use Rattle.fan_bits.specs.declared.place.Happening.{Happening}
use Rattle.fan_bits.specs.declared.place.Place.{Place}
use Rattle.fan_bits.specs.Interest.{concerns, ignores, is_on_place, near, wanted, wants}
use Rattle.fan_bits.specs.Places.{is_parent}
use Rattle.fan_bits.specs.Marks.{IsMarkList, Rises, next_on, on, order_of}
use Rattle.fan_bits.proofs.InterestLaws.{concerns_near, ignores_near}
use Rattle.fan_bits.proofs.InterestLemmas.{bits_that_agree}
use Rattle.fan_bits.proofs.Interests.{one_order}
use Rattle.fan_lists.proofs.Finds.{IfSome-find}
use Rattle.fan_lists.proofs.Pairs.{Contains-filter, Contains-first, Contains-later, Contains-map}
use Rattle.fan_bits.proofs.MarkLists.{rises-on}
use Rattle.fan_bits.proofs.Masks.{same_tests}
use Rattle.fan_bits.proofs.Rising.{find_upto}
use Rattle.fan_decide.specs.Answers.{answers, earlier, first_of, objects}
use Rattle.fan_decide.specs.Words.{answer_concerns, answer_ignores, answers_want, wanted_by}

-- ---- the first of some answers

-- the mark of an answer has this order or a greater one
abbrev AtLeast : ℕ → Option Mark → Type 0
AtLeast order answer = IfSome answer (λ mark. order ≤ order_of mark)

earlier_is : (answer other : Option Mark) (mark : Mark) → earlier answer other ≡ Some mark
    → (answer ≡ Some mark) ⊎ (other ≡ Some mark)
earlier_is None other mark is = inr is
earlier_is (Some one) None mark is = inl is
earlier_is (Some one) (Some second) mark is =
    elim (nat_lt (order_of second) (order_of one)) as
    (λ less. (if less then Some second else Some one) ≡ Some mark
    → (Some one ≡ Some mark) ⊎ (Some second ≡ Some mark)) [
      | true ↦ λ is. inr is
      | false ↦ λ is. inl is
    ] is

earlier_least : (answer other : Option Mark) (order : ℕ) → AtLeast order (earlier answer other)
    → AtLeast order answer × AtLeast order other
earlier_least None other order least = (tt, least)
earlier_least (Some one) None order least = (least, tt)
earlier_least (Some one) (Some second) order least =
    elim (nat_lt (order_of second) (order_of one)) as (λ less. nat_lt (order_of second) (order_of one) ≡ less
    → AtLeast order (if less then Some second else Some one) → (order ≤ order_of one)
    × (order ≤ order_of second)) [
      | true ↦ λ less least. (grind (arith, nat_tests), least)
      | false ↦ λ no_less least. (least, grind (arith, nat_tests))
    ] refl least

earlier_none : (answer other : Option Mark) → earlier answer other ≡ None → (answer ≡ None) × (other ≡ None)
earlier_none None other none = (refl, none)
earlier_none (Some one) None none = absurd cc
earlier_none (Some one) (Some second) none =
    elim (nat_lt (order_of second) (order_of one)) as (λ less. (if less then Some second else Some one) ≡ None
    → (Some one ≡ None) × (Some second ≡ None)) [
      | true ↦ λ none. absurd cc
      | false ↦ λ none. absurd cc
    ] none

-- a mark is among some answers, and no other has a lesser order
pub record IsFirst (given : List (Option Mark)) (mark : Mark) : Type 0 where
  pub among : Contains given (Some mark)
  pub least : All (AtLeast (order_of mark)) given

fold_first : (answer : Option Mark) (given : List (Option Mark)) (mark : Mark) → fold earlier answer given
    ≡ Some mark
    → ((answer ≡ Some mark) ⊎ Contains given (Some mark)) × AtLeast (order_of mark) answer
    × All (AtLeast (order_of mark)) given
fold_first answer [] mark is = (inl is, rw is (omega arith), All-nil (AtLeast (order_of mark)))
fold_first answer (next ∷ more) mark is =
    let rest = fold_first (earlier answer next) more mark is in
    let least = earlier_least answer next (order_of mark) rest.1 in (
      ⊎_elim (λ here. ⊎_elim (λ one. inl one)
          (λ second. inr (subst (λ a. Contains (a ∷ more) (Some mark)) (sym second)
          (Contains-first (Some mark) more)))
          (earlier_is answer next mark here))
          (λ later. inr (Contains-later (Some mark) next more later)) rest.0,
      least.0,
      All-cons (AtLeast (order_of mark)) next more least.1 rest.2,
    )

fold_none : (answer : Option Mark) (given : List (Option Mark)) → fold earlier answer given ≡ None
    → (answer ≡ None) × All (λ a. a ≡ None) given
fold_none answer [] none = (none, All-nil (λ a. a ≡ None))
fold_none answer (next ∷ more) none =
    let rest = fold_none (earlier answer next) more none in
    let both = earlier_none answer next rest.0 in
    (both.0, All-cons (λ a. a ≡ None) next more both.1 rest.1)

-- what is found first is first
pub first_of-Some : (given : List (Option Mark)) (mark : Mark) → first_of given ≡ Some mark
    → IsFirst given mark
first_of-Some given mark is =
    let found = fold_first None given mark is in
    record { among = ⊎_elim (λ none. absurd cc) (λ has. has) found.0; least = found.2 }

-- if none is found, no answer has a mark
pub first_of-None : (given : List (Option Mark)) → first_of given ≡ None → (mark : Mark)
    → Contains given (Some mark) → ⊥
first_of-None given none mark has =
    let is : Some mark ≡ None =
    All-contains (λ a. a ≡ None) given (Some mark) (fold_none None given none).1 has in cc

-- ---- the objects of a place

parent_above : (number : ℕ) (parent : Option ℕ) → is_parent number parent ≡ true
    → Contains (option_to_list parent) number
parent_above number None is = absurd cc
parent_above number (Some parent) is = (0, omega arith, sym (eqb-true _ _ is))

-- a mark that is near a place is on one of its objects
pub near_object : (mark : Mark) (place : Place) → near place mark ≡ true
    → Contains (objects place) mark.object
near_object mark place is_near =
    let on_inode = mark.object == place.inode in
    let on_mount = mark.object == place.mount in
    let on_fs = mark.object == place.fs in
    ⊎_elim (λ here. ⊎_elim (λ two. ⊎_elim (λ inode. (0, omega arith, sym (eqb-true _ _ inode)))
    (λ mount. (1, omega arith, sym (eqb-true _ _ mount))) (or_cases on_inode on_mount two))
    (λ fs. (2, omega arith, sym (eqb-true _ _ fs))) (or_cases (on_inode || on_mount) on_fs here))
    (λ parent. let is = parent_above mark.object place.parent parent in
    (suc (suc (suc is.0)), omega (arith, is.1), is.2))
    (or_cases (is_on_place mark place) (is_parent mark.object place.parent) is_near)

-- ---- what the objects answer of a list of marks

-- an answer is a mark of the list, and after the order
next_on_is : (marks : List Mark) (after object : ℕ)
    → IfSome (next_on marks object after) (λ mark. Contains marks mark × (after < order_of mark))
next_on_is marks after object =
    IfSome_then (next_on marks object after)
    (IfSome-find (λ mark. nat_lt after (order_of mark)) (Contains marks) (on object marks)
    (All-filter (λ mark. mark.object == object) (Contains marks) marks (All-contains_itself marks)))
    (λ mark found. (found.0, grind (arith, nat_tests, found.1)))

-- each mark of an answer is one of the list, and behind the order
pub answer_is : (marks : List Mark) (asked : List ℕ) (after : ℕ) (mark : Mark)
    → Contains (answers marks asked after) (Some mark) → Contains marks mark × (after < order_of mark)
answer_is marks asked after mark has =
    let P : Option Mark → Type 0 = λ answer.
    IfSome answer (λ mark. Contains marks mark × (after < order_of mark)) in
    let each : All P (answers marks asked after) =
    All-map P (λ object. next_on marks object after) asked
    (λ k d within. next_on_is marks after (get_or asked k d)) in
    All-contains P (answers marks asked after) (Some mark) each has

-- a mark behind the order on an object that is asked is an answer, or one with a lesser order is
pub answer_upto : (marks : List Mark) (asked : List ℕ) (after : ℕ) (mark : Mark) → Rises marks
    → Contains marks mark
    → Contains asked mark.object → after < order_of mark
    → (first : Mark) × Contains (answers marks asked after) (Some first)
    × ((first ≡ mark) ⊎ (order_of first < order_of mark))
answer_upto marks asked after mark rises has asks behind =
    let there : Contains (on mark.object marks) mark =
    Contains-filter (λ m. m.object == mark.object) mark marks has (eq-eqb mark.object mark.object refl) in
    let found = find_upto order_of after mark (on mark.object marks)
    (rises-on mark.object marks rises) there behind in
    let answer : Contains (answers marks asked after) (next_on marks mark.object after) =
    Contains-map (λ object. next_on marks object after) mark.object asked asks in
    (found.0, subst (Contains (answers marks asked after)) found.1 answer, found.2)

module _ (marks : List Mark) (is_list : IsMarkList marks) (asked : List ℕ) (after : ℕ) where
  abbrev given : List (Option Mark)
  given = answers marks asked after

  -- a mark behind the order on an object that is asked has the order of the first, or a greater one
  pub first_before : (first : Mark) → IsFirst given first → (mark : Mark) → Contains marks mark
      → Contains asked mark.object → after < order_of mark → order_of first ≤ order_of mark
  first_before first is_first mark has asks behind =
      let found = answer_upto marks asked after mark is_list.rises has asks behind in
      let least : order_of first ≤ order_of found.0 =
      All-contains (AtLeast (order_of first)) given (Some found.0) is_first.least found.1 in
      ⊎_elim (λ is. omega (arith, least, ap order_of is)) (λ less. omega (arith, least, less)) found.2

  -- the marks of the first one's group that are on an object that is asked are answers
  group_answers : (first : Mark) → IsFirst given first → (mark : Mark) → Contains marks mark
      → Contains asked mark.object → mark.group ≡ first.group → Contains given (Some mark)
  group_answers first is_first mark has asks same =
      let one = answer_is marks asked after first is_first.among in
      let order : order_of mark ≡ order_of first = one_order marks is_list mark first has one.0 same in
      let found = answer_upto marks asked after mark is_list.rises has asks (omega (arith, one.1, order)) in
      let least : order_of first ≤ order_of found.0 =
      All-contains (AtLeast (order_of first)) given (Some found.0) is_first.least found.1 in
      ⊎_elim (λ is. subst (λ m. Contains given (Some m)) is found.1)
      (λ less. absurd (omega (arith, least, less, order))) found.2

  -- a test that passes at an answer passes at its mark
  from_answer : (by_answer : Option Mark → Bool) (by_mark : Mark → Bool) → by_answer None ≡ false
      → ((mark : Mark) → by_answer (Some mark) ≡ by_mark mark) → (answer : Option Mark)
      → Contains given answer
      → by_answer answer ≡ true → list_any by_mark marks ≡ true
  from_answer by_answer by_mark at_none at_some None has passes = absurd (false≢true (sym at_none ∙ passes))
  from_answer by_answer by_mark at_none at_some (Some mark) has passes =
      let there = (answer_is marks asked after mark has).0 in
      list_any-from_Any by_mark marks (there.0, mark, there.1, there.2, sym (at_some mark) ∙ passes)

  -- so a test that only marks on these objects pass, passes at one of its marks if it does at an answer
  same_any : (first : Mark) → IsFirst given first → (test : Mark → Bool) (by_answer : Option Mark → Bool)
      → by_answer None ≡ false →
      ((mark : Mark) → by_answer (Some mark) ≡ (mark.group == first.group && test mark))
      → ((mark : Mark) → test mark ≡ true → Contains asked mark.object)
      → list_any by_answer given ≡ list_any (λ mark. mark.group == first.group && test mark) marks
  same_any first is_first test by_answer at_none at_some asks =
      let by_mark = λ (mark : Mark). mark.group == first.group && test mark in
      same_tests (list_any by_answer given) (list_any by_mark marks)
      (λ passes.
      let found = Any-from_list_any by_answer given passes in
      from_answer by_answer by_mark at_none at_some found.1 (found.0, found.2, found.3) found.4)
      (λ passes.
      let found = Any-from_list_any by_mark marks passes in
      let mark = found.1 in
      let both = and_parts (mark.group == first.group) (test mark) found.4 in
      let answer = group_answers first is_first mark (found.0, found.2, found.3) (asks mark both.1)
      (eqb-true _ _ both.0) in
      list_any-from_Any by_answer given (answer.0, Some mark, answer.1, answer.2, at_some mark ∙ found.4))

module _ (marks : List Mark) (is_list : IsMarkList marks) (happening : Happening) (after : ℕ) where
  abbrev place_answers : List (Option Mark)
  place_answers = answers marks (objects happening.place) after

  -- what the group of the first mark wants by the answers is what it wants by all marks
  pub same_wanted : (first : Mark) → IsFirst place_answers first
      → wanted_by place_answers first.group happening ≡ wanted marks first.group happening
  unfolding wanted wanted_by
  same_wanted first is_first =
      bits_that_agree 32 (answers_want place_answers first.group happening)
      (wants marks first.group happening)
      (λ event below.
      let concerned = same_any marks is_list (objects happening.place) after first is_first
      (λ mark. concerns mark happening event) (answer_concerns first.group happening event)
      refl (λ mark. refl)
      (λ mark passes. near_object mark happening.place (concerns_near mark happening event passes)) in
      let ignored = same_any marks is_list (objects happening.place) after first is_first
      (λ mark. ignores mark happening event) (answer_ignores first.group happening event)
      refl (λ mark. refl)
      (λ mark passes. near_object mark happening.place (ignores_near mark happening event passes)) in
      rw (concerned, ignored) refl)
