-- The part of a change on one object, and changes that are made object by object.
use Rattle.std.proofs.Common.{◌≡◌, ◌≢◌, ◌∙◌, ℕ, ◌<◌, Bool, true, false, List, [], ◌∷◌, ◌++◌, ◌⊎◌, get_or, inl, inr, ⊎_elim, map, refl, sym, ap, subst, arith, append-nil, eqb-true, eq-eqb}
use Rattle.std.proofs.lemmas.Bool.{false≢true}
use Rattle.std.proofs.lemmas.Bool.Decides.{nat_tests}
use Rattle.std.proofs.lemmas.List.Elements.{All-append, All-contains, All-filter, All-head, All-map, All-tail, All-weaker, Contains-append_left, Contains-append_right, Contains-get_or, filter-append, filter_passes}
use Rattle.std.proofs.lemmas.Map.Views.{Contains-from_any}
use Rattle.std.specs.List.{Contains, list_any}
use Rattle.std.specs.Prelude.{All, filter, nat_lt, not, ◌==◌, ◌&&◌}
use Rattle.fan_bits.specs.declared.change.Change.{Change}
use Rattle.fan_bits.specs.declared.change.Change.TheVariants.{Put, Flush, Clear, DropGroup, DropObject}
use Rattle.fan_bits.specs.declared.mark.Mark.{Mark}
use Rattle.fan_bits.specs.Marks.{IsChange, IsMark, IsMarkList, Rises, changed, cleared, gone, is_before, is_behind, listed, mark_of, on, order_number, order_of, put_mark, same_kind, same_mark, stands}
use Rattle.fan_bits.proofs.Lists.{Contains-filtered, filters_swap}
use Rattle.fan_bits.proofs.MarkLists.{AgreesWith, IsBefore, IsNew, Rises-append, Rises-filter, changed_keeps_list, cleared_keeps, listed_all, rises-on}
use Rattle.fan_bits.proofs.OnObjects.{clear_on, drop_group_on, drop_object_on, flush_on}
use Rattle.fan_bits.proofs.Rising.{same_elements}
use Rattle.fan_bits.proofs.Updates.{mark_of_is, put_mark_is}
use Rattle.fan_lists.proofs.Filters.{filter_all, filter_none}
use Rattle.fan_lists.proofs.Pairs.{Contains-filter}
use Rattle.fan_rows.specs.Costs.{altered}
use Rattle.fan_rows.proofs.SameLists.{same_list}
use Rattle.fan_build.specs.Objects.{IsNoPut, IsOnObjects, changed_on, changed_on_all}
use Rattle.fan_build.proofs.SameMarks.{same_mark_exact}

-- ---- the marks of a changed list agree with those before

changed_agrees : (marks : List Mark) (change : Change) → IsMarkList marks → IsChange marks change
    → All (AgreesWith marks) (changed marks change)
unfolding changed
changed_agrees marks (Put group class words object) list is =
    let order = order_number class group in
    let front = filter (is_before object order) marks in
    let new = put_mark (mark_of marks group object) group class words object in
    let fresh = put_mark_is (mark_of marks group object) group class words object is.mask
    (mark_of_is marks group class object list.each is.classes) in
    All-append (AgreesWith marks) (front ++ listed new) (filter (is_behind object order) marks)
    (All-append (AgreesWith marks) front (listed new)
    (All-filter (is_before object order) (AgreesWith marks) marks list.classes)
    (All-weaker (IsNew group class object) (AgreesWith marks)
    (λ mark of k d within same. of.0.of_class ∙ sym (is.classes k d within (sym same ∙ of.0.of_group)))
    (listed new) (listed_all (IsNew group class object) new fresh)))
    (All-filter (is_behind object order) (AgreesWith marks) marks list.classes)
changed_agrees marks (Flush group kind) list is =
    All-filter (λ mark. not (mark.group == group && same_kind mark.kind kind)) (AgreesWith marks) marks list.classes
changed_agrees marks (Clear object) list is =
    All-filter stands (AgreesWith marks) (map (cleared object) marks)
    (All-map (AgreesWith marks) (cleared object) marks
    (All-weaker (AgreesWith marks) (λ mark. AgreesWith marks (cleared object mark)) (λ mark agrees k d within same.
    let keeps = cleared_keeps object mark in
    keeps.class ∙ agrees k d within (sym keeps.group ∙ same)) marks list.classes))
changed_agrees marks (DropGroup group) list is =
    All-filter (λ mark. not (mark.group == group)) (AgreesWith marks) marks list.classes
changed_agrees marks (DropObject object) list is =
    All-filter (λ mark. not (mark.object == object)) (AgreesWith marks) marks list.classes

-- ---- the list after the part on one object

module _ (marks : List Mark) (change : Change) (object : ℕ) where
  abbrev before : Mark → Bool
  before mark = nat_lt mark.object object

  abbrev behind : Mark → Bool
  behind mark = nat_lt object mark.object

  abbrev here : List Mark
  here = on object (changed marks change)

  parts_on : (other : ℕ) → on other (changed_on marks change object)
      ≡ on other (filter before marks) ++ on other here ++ on other (filter behind marks)
  unfolding changed_on
  parts_on other =
      let test : Mark → Bool = λ mark. mark.object == other in
      filter-append test (filter before marks ++ here) (filter behind marks)
      ∙ ap (λ l. l ++ on other (filter behind marks)) (filter-append test (filter before marks) here)

  -- on the object the marks are those of the changed list
  pub here_on : on object (changed_on marks change object) ≡ here
  here_on =
      let test : Mark → Bool = λ mark. mark.object == object in
      let none_before : on object (filter before marks) ≡ [] = filter_none test (filter before marks) (λ k d within.
      let less = filter_passes before marks k d within in grind (arith, nat_tests)) in
      let none_behind : on object (filter behind marks) ≡ [] = filter_none test (filter behind marks) (λ k d within.
      let more = filter_passes behind marks k d within in grind (arith, nat_tests)) in
      let all : on object here ≡ here = filter_all test here (filter_passes test (changed marks change)) in
      parts_on object ∙ rw (none_before, none_behind, all) (append-nil here)

  -- on any other they stay
  pub elsewhere_on : (other : ℕ) → other ≢ object → on other (changed_on marks change object) ≡ on other marks
  elsewhere_on other differs =
      let none : on other here ≡ [] = filter_none test here (λ k d within.
      let at = filter_passes (λ (mark : Mark). mark.object == object) (changed marks change) k d within in
      grind (arith, nat_tests, differs)) in
      parts_on other ∙ by (nat_lt other object) refl none
    where
      test : Mark → Bool
      test mark = mark.object == other

      by : (less : Bool) → nat_lt other object ≡ less → on other here ≡ []
          → on other (filter before marks) ++ on other here ++ on other (filter behind marks) ≡ on other marks
      by true is none =
          let all : on other (filter before marks) ≡ on other marks =
          filters_swap test before marks ∙ filter_all before (on other marks) (λ k d within.
          let at = filter_passes test marks k d within in grind (arith, nat_tests, is)) in
          let rest : on other (filter behind marks) ≡ [] = filter_none test (filter behind marks) (λ k d within.
          let more = filter_passes behind marks k d within in grind (arith, nat_tests, is)) in
          rw (all, none, rest) (append-nil (on other marks ++ []) ∙ append-nil (on other marks))
      by false is none =
          let rest : on other (filter behind marks) ≡ on other marks =
          filters_swap test behind marks ∙ filter_all behind (on other marks) (λ k d within.
          let at = filter_passes test marks k d within in grind (arith, nat_tests, is, differs)) in
          let none_before : on other (filter before marks) ≡ [] = filter_none test (filter before marks) (λ k d within.
          let less = filter_passes before marks k d within in grind (arith, nat_tests, is)) in
          rw (none_before, none, rest) refl

  -- what holds of the old marks and of the changed ones holds of all
  pub changed_on_all_of : (P : Mark → Type 0) → All P marks → All P (changed marks change)
      → All P (changed_on marks change object)
  unfolding changed_on
  changed_on_all_of P old new =
      let front = filter before marks in
      All-append P (front ++ here) (filter behind marks)
      (All-append P front here (All-filter before P marks old)
      (All-filter (λ mark. mark.object == object) P (changed marks change) new))
      (All-filter behind P marks old)

  lesser : (x y : Mark) → x.object < y.object → IsBefore x y
  lesser x y less = grind (arith, nat_tests, less)

  changed_on_rises : IsMarkList marks → IsMarkList (changed marks change)
      → Rises (changed_on marks change object)
  unfolding changed_on
  changed_on_rises old new =
      let front = filter before marks in
      let back = filter behind marks in
      let test : Mark → Bool = λ mark. mark.object == object in
      let less = filter_passes before marks in
      let at = filter_passes test (changed marks change) in
      let more = filter_passes behind marks in
      Rises-append (front ++ here) back
      (Rises-append front here (Rises-filter before marks old.rises)
      (Rises-filter test (changed marks change) new.rises)
      (λ i d left. λ j e right. lesser (get_or front i d) (get_or here j e)
      (let one = less i d left in let two = at j e right in grind (arith, nat_tests))))
      (Rises-filter behind marks old.rises)
      (All-append (λ x. All (IsBefore x) back) front here
      (λ i d left. λ j e right. lesser (get_or front i d) (get_or back j e)
      (let one = less i d left in let two = more j e right in grind (arith, nat_tests)))
      (λ i d left. λ j e right. lesser (get_or here i d) (get_or back j e)
      (let one = at i d left in let two = more j e right in grind (arith, nat_tests))))

  -- it is a list of marks
  pub changed_on_keeps_list : IsMarkList marks → IsChange marks change
      → IsMarkList (changed_on marks change object)
  changed_on_keeps_list list is = record {
    each = changed_on_all_of IsMark list.each new.each;
    rises = changed_on_rises list new;
    classes = All-weaker Good (AgreesWith (changed_on marks change object))
        (λ mark good. changed_on_all_of (Agree mark) good.0 good.1) (changed_on marks change object)
        (changed_on_all_of Good (λ k d within. (
          list.classes k d within,
          λ j e inside same.
              sym (agrees j e inside k d within (sym same)),
        ))
        (λ k d within. (agrees k d within, new.classes k d within)));
  }
    where
      new : IsMarkList (changed marks change)
      new = changed_keeps_list marks change is list

      agrees : All (AgreesWith marks) (changed marks change)
      agrees = changed_agrees marks change list is

      Agree : Mark → Mark → Type 0
      Agree mark other = mark.group ≡ other.group → mark.class ≡ other.class

      Good : Mark → Type 0
      Good mark = AgreesWith marks mark × AgreesWith (changed marks change) mark

-- ---- marks on an object on which a change alters none

-- marks that aren't gone are still there
still_there : (object : ℕ) (old new : List Mark) → ((mark : Mark) → Contains (gone old new) mark → mark.object ≢ object)
    → All (Contains (on object new)) (on object old)
still_there object old new lost = λ k d within.
    let mark = get_or (on object old) k d in
    let found = Contains-filtered test mark old (Contains-get_or (on object old) k d within) in
    by mark found.0 found.1 (list_any (same_mark mark) new) refl
  where
    test : Mark → Bool
    test mark = mark.object == object

    by : (mark : Mark) → Contains old mark → test mark ≡ true → (stays : Bool)
        → list_any (same_mark mark) new ≡ stays → Contains (on object new) mark
    by mark was at true is =
        Contains-filter test mark new (Contains-from_any same_mark_exact mark new is) at
    by mark was at false is =
        let left = Contains-filter (λ one. not (list_any (same_mark one) new)) mark old was (rw is refl) in
        absurd (lost mark left (eqb-true mark.object object at))

-- so if none is altered, they are the same
pub unaltered_on : (object : ℕ) (old new : List Mark) → IsMarkList old → IsMarkList new
    → ((mark : Mark) → Contains (altered old new) mark → mark.object ≢ object) → on object new ≡ on object old
unaltered_on object old new was is none =
    same_elements order_of (on object new) (on object old) (rises-on object new is.rises)
    (rises-on object old was.rises)
    (still_there object new old
    (λ mark lost. none mark (Contains-append_right (gone old new) (gone new old) mark lost)))
    (still_there object old new
    (λ mark lost. none mark (Contains-append_left (gone old new) (gone new old) mark lost)))

-- ---- changes object by object

-- a change other than a Put makes of the marks on an object what it makes of these alone
change_on : (marks : List Mark) (change : Change) → IsNoPut change → (object : ℕ)
    → on object (changed marks change) ≡ changed (on object marks) change
change_on marks (Put group class words own) never object = absurd never
change_on marks (Flush group kind) is object = flush_on marks object group kind
change_on marks (Clear own) is object = clear_on marks object own
change_on marks (DropGroup group) is object = drop_group_on marks object group
change_on marks (DropObject own) is object = drop_object_on marks object own

-- a mark that was cleared stays as it is
cleared_stays : (object : ℕ) (mark : Mark) → cleared object (cleared object mark) ≡ cleared object mark
cleared_stays object mark = by (mark.object == object && not mark.survives) refl
  where
    by : (b : Bool) → (mark.object == object && not mark.survives) ≡ b
        → cleared object (cleared object mark) ≡ cleared object mark
    by true is = rw (is, is) refl
    by false is = rw (is, is) refl

map_same : (f : Mark → Mark) (marks : List Mark) → All (λ mark. f mark ≡ mark) marks → map f marks ≡ marks
map_same f [] same = refl
map_same f (mark ∷ marks) same =
    rw (
      All-head (λ one. f one ≡ one) mark marks same,
      map_same f marks (All-tail (λ one. f one ≡ one) mark marks same),
    ) refl

-- it changes nothing a second time
twice : (marks : List Mark) (change : Change) → IsNoPut change
    → changed (changed marks change) change ≡ changed marks change
unfolding changed
twice marks (Put group class words own) never = absurd never
twice marks (Flush group kind) is =
    let p : Mark → Bool = λ mark. not (mark.group == group && same_kind mark.kind kind) in
    filter_all p (filter p marks) (filter_passes p marks)
twice marks (Clear own) is =
    let all = map (cleared own) marks in
    let Stays : Mark → Type 0 = λ mark. cleared own mark ≡ mark in
    let same = map_same (cleared own) (filter stands all) (All-filter stands Stays all
    (All-map Stays (cleared own) marks (λ k d within. cleared_stays own (get_or marks k d)))) in
    ap (filter stands) same ∙ filter_all stands (filter stands all) (filter_passes stands all)
twice marks (DropGroup group) is =
    let p : Mark → Bool = λ mark. not (mark.group == group) in
    filter_all p (filter p marks) (filter_passes p marks)
twice marks (DropObject own) is =
    let p : Mark → Bool = λ mark. not (mark.object == own) in
    filter_all p (filter p marks) (filter_passes p marks)

no_put : (marks : List Mark) (change : Change) → IsNoPut change → IsChange marks change
no_put marks (Put group class words own) never = absurd never
no_put marks (Flush group kind) is = tt
no_put marks (Clear own) is = tt
no_put marks (DropGroup group) is = tt
no_put marks (DropObject own) is = tt

-- an object is one of some
abbrev among : List ℕ → ℕ → Bool
among objects object = list_any (λ other. other == object) objects

-- where a change alters no mark, off the objects, the marks stay
off_objects : (marks : List Mark) (change : Change) (objects : List ℕ) → IsMarkList marks
    → IsChange marks change → IsOnObjects marks change objects → (object : ℕ) → among objects object ≡ false
    → on object (changed marks change) ≡ on object marks
off_objects marks change objects list is there object off =
    unaltered_on object marks (changed marks change) list (changed_keeps_list marks change is list)
    (λ mark in_it same.
    let on_one = All-contains (λ (one : Mark). among objects one.object ≡ true)
    (altered marks (changed marks change)) mark there in_it in
    false≢true (sym off ∙ ap (among objects) (sym same) ∙ on_one))

module _ (marks : List Mark) (change : Change) (list : IsMarkList marks) where
  -- the marks on an object are changed, or they are yet to be
  abbrev Progress : List Mark → List ℕ → ℕ → Type 0
  Progress now objects object =
      (on object now ≡ on object (changed marks change))
      ⊎ ((among objects object ≡ true) × (on object now ≡ on object marks))

  start : (objects : List ℕ) → IsChange marks change → IsOnObjects marks change objects → (object : ℕ)
      → Progress marks objects object
  start objects is there object = by (among objects object) refl
    where
      by : (one : Bool) → among objects object ≡ one → Progress marks objects object
      by true on_one = inr (on_one, refl)
      by false off = inl (sym (off_objects marks change objects list is there object off))

  step : IsNoPut change → (now : List Mark) (first : ℕ) (objects : List ℕ) (object : ℕ)
      → Progress now (first ∷ objects) object → (here : Bool) → (first == object) ≡ here
      → Progress (changed_on now change first) objects object
  step is now first objects object progress true at =
      let made : on object (changed_on now change first) ≡ changed (on object now) change =
      subst (λ o. on o (changed_on now change first) ≡ changed (on o now) change) (eqb-true first object at)
      (here_on now change first ∙ change_on now change is first) in
      let whole = change_on marks change is object in
      inl (made ∙ ⊎_elim
      (λ done. ap (λ l. changed l change) (done ∙ whole) ∙ twice (on object marks) change is ∙ sym whole)
      (λ due. ap (λ l. changed l change) due.1 ∙ sym whole) progress)
  step is now first objects object progress false off =
      let stays : on object (changed_on now change first) ≡ on object now =
      elsewhere_on now change first object (λ same. false≢true (sym off ∙ eq-eqb first object (sym same))) in
      ⊎_elim (λ done. inl (stays ∙ done)) (λ due. inr (rw off at due.0, stays ∙ due.1)) progress

  walk : IsNoPut change → (objects : List ℕ) (now : List Mark) → IsMarkList now
      → ((object : ℕ) → Progress now objects object)
      → changed_on_all now change objects ≡ changed marks change
  walk is [] now now_list progress =
      same_list now (changed marks change) now_list
      (changed_keeps_list marks change (no_put marks change is) list)
      (λ object bound. ⊎_elim (λ done. done) (λ due. absurd (false≢true due.0)) (progress object))
  walk is (first ∷ objects) now now_list progress =
      walk is objects (changed_on now change first)
      (changed_on_keeps_list now change first now_list (no_put now change is))
      (λ object. step is now first objects object (progress object) (first == object) refl)

  pub all_objects : IsNoPut change → (objects : List ℕ) → IsOnObjects marks change objects
      → changed_on_all marks change objects ≡ changed marks change
  all_objects is objects there = walk is objects marks list (start objects (no_put marks change is) there)

  pub one_object : IsChange marks change → (object : ℕ) → IsOnObjects marks change (object ∷ [])
      → changed_on marks change object ≡ changed marks change
  one_object is object there =
      same_list (changed_on marks change object) (changed marks change)
      (changed_on_keeps_list marks change object list is) (changed_keeps_list marks change is list)
      (λ other bound. by other (object == other) refl)
    where
      by : (other : ℕ) (same : Bool) → (object == other) ≡ same
          → on other (changed_on marks change object) ≡ on other (changed marks change)
      by other true at =
          subst (λ o. on o (changed_on marks change object) ≡ on o (changed marks change))
          (eqb-true object other at) (here_on marks change object)
      by other false off =
          elsewhere_on marks change object other
          (λ same. false≢true (sym off ∙ eq-eqb object other (sym same)))
          ∙ sym (off_objects marks change (object ∷ []) list is there other (rw off refl))
