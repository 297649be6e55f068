-- What a change makes of the marks on one object.
use Rattle.std.proofs.Common.{◌≡◌, ◌≢◌, ◌∙◌, ℕ, Bool, true, false, cond, List, [], ◌∷◌, ◌++◌, Option, Some, None, map, refl, sym, ap, arith, append-nil, eq-eqb, eqb-true}
use Rattle.std.specs.Prelude.{IfSome, filter, not, nat_lt, ◌&&◌, ◌==◌}
use Rattle.std.proofs.lemmas.Bool.{and_parts, cond_both, ne_eqb}
use Rattle.std.proofs.lemmas.Bool.Decides.{nat_tests}
use Rattle.std.proofs.lemmas.List.Elements.{filter-append, filter_agree}
use Rattle.std.proofs.lemmas.Option.{IfSome_then}
use Rattle.fan_bits.specs.declared.change.Change.TheVariants.{Put, Flush, Clear, DropGroup, DropObject}
use Rattle.fan_bits.specs.declared.class.Class.{Class}
use Rattle.fan_bits.specs.declared.kind.Kind.{Kind}
use Rattle.fan_bits.specs.declared.mark.Mark.{Mark}
use Rattle.fan_bits.specs.declared.mark_call.MarkWords.{MarkWords}
use Rattle.fan_bits.specs.Marks.{changed, cleared, is_before, is_behind, listed, mark_of, on, or_blank, order_number, order_of, put_mark, same_kind, stands, updated}
use Rattle.fan_lists.proofs.Filters.{filter-map}
use Rattle.fan_lists.proofs.Finds.{IfSome-find, find_wider}
use Rattle.fan_bits.proofs.Lists.{filter_within, filters_swap}
use Rattle.fan_bits.proofs.MarkLists.{cleared_keeps}
use Rattle.fan_bits.proofs.Updates.{put_mark_keeps}

-- a group's mark on an object is found among the marks on the object
pub mark_of_on : (marks : List Mark) (group object : ℕ) → mark_of (on object marks) group object
    ≡ mark_of marks group object
mark_of_on marks group object =
    find_wider (λ mark. mark.group == group && mark.object == object) (λ mark. mark.object == object)
    (λ mark passes. (and_parts (mark.group == group) (mark.object == object) passes).1) marks

-- the mark that a Put starts from is on its object
blank_object : (old : Option Mark) (group : ℕ) (class : Class) (kind : Kind) (object : ℕ)
    → IfSome old (λ mark. mark.object ≡ object) → (or_blank old group class kind object).object ≡ object
blank_object (Some mark) group class kind object here = here
blank_object None group class kind object here = refl

-- all marks, or none
filter_constant : (b : Bool) (marks : List Mark) → filter (λ mark. b) marks ≡ cond b marks []
filter_constant b [] = cond_both b [] [] (λ kept. [] ≡ kept) (λ is. refl) (λ fails. refl)
filter_constant true (mark ∷ more) = ap (λ rest. mark ∷ rest) (filter_constant true more)
filter_constant false (mark ∷ more) = filter_constant false more

one_side : (b : Bool) (marks : List Mark) → cond b marks [] ++ [] ++ cond (not b) marks [] ≡ marks
one_side true marks = simp append-nil
one_side false marks = refl

module _ (marks : List Mark) (group : ℕ) (class : Class) (words : MarkWords) (object : ℕ) where
  abbrev order : ℕ
  order = order_number class group

  abbrev new : Option Mark
  new = put_mark (mark_of marks group object) group class words object

  -- the mark that a Put leaves is on its object
  new_on_object : IfSome new (λ mark. mark.object ≡ object)
  new_on_object =
      let old = mark_of marks group object in
      let here : IfSome old (λ mark. mark.object ≡ object) =
      IfSome_then old
      (IfSome-find (λ mark. mark.group == group && mark.object == object) (λ mark. Unit {0}) marks
      (λ k d within. tt))
      (λ mark found. eqb-true _ _ (and_parts (mark.group == group) (mark.object == object) found.1).1) in
      IfSome_then new (put_mark_keeps old group class words object)
      (λ mark keeps. keeps.object ∙ blank_object old group class words.kind object here)

  -- before and behind the Put's place there are, on its object, the marks of groups before and behind
  before_here : on object (filter (is_before object order) marks)
      ≡ filter (λ mark. nat_lt (order_of mark) order) (on object marks)
  before_here =
      filters_swap (λ mark. mark.object == object) (is_before object order) marks
      ∙ filter_within (is_before object order) (λ mark. nat_lt (order_of mark) order)
      (λ mark. mark.object == object) (λ mark here. grind (arith, nat_tests)) marks

  behind_here : on object (filter (is_behind object order) marks)
      ≡ filter (λ mark. nat_lt order (order_of mark)) (on object marks)
  behind_here =
      filters_swap (λ mark. mark.object == object) (is_behind object order) marks
      ∙ filter_within (is_behind object order) (λ mark. nat_lt order (order_of mark))
      (λ mark. mark.object == object) (λ mark here. grind (arith, nat_tests)) marks

  listed_here : (left : Option Mark) → IfSome left (λ mark. mark.object ≡ object)
      → on object (listed left) ≡ listed left
  listed_here None here = refl
  listed_here (Some mark) here = rw (eq-eqb mark.object object here) refl

  listed_elsewhere : (other : ℕ) → other ≢ object → (left : Option Mark)
      → IfSome left (λ mark. mark.object ≡ object) → on other (listed left) ≡ []
  listed_elsewhere other differs None here = refl
  listed_elsewhere other differs (Some mark) here =
      rw (ne_eqb mark.object other (λ same. differs (sym same ∙ here))) refl

  -- on the object of a Put, its mark takes its place among the others
  pub put_here : on object (changed marks (Put group class words object))
      ≡ filter (λ mark. nat_lt (order_of mark) order) (on object marks)
      ++ listed (updated (mark_of (on object marks) group object) (Put group class words object))
      ++ filter (λ mark. nat_lt order (order_of mark)) (on object marks)
  unfolding changed updated
  put_here =
      let test : Mark → Bool = λ mark. mark.object == object in
      let front = filter (is_before object order) marks in
      rw (mark_of_on marks group object)
      (filter-append test (front ++ listed new) (filter (is_behind object order) marks)
      ∙ rw (
        filter-append test front (listed new),
        before_here,
        behind_here,
        listed_here new new_on_object,
      ) refl)

  -- on another object all marks stay
  pub put_elsewhere : (other : ℕ) → other ≢ object
      → on other (changed marks (Put group class words object)) ≡ on other marks
  unfolding changed
  put_elsewhere other differs =
      let test : Mark → Bool = λ mark. mark.object == other in
      let front = filter (is_before object order) marks in
      let back = filter (is_behind object order) marks in
      let before : on other front ≡ cond (nat_lt other object) (on other marks) [] =
      filters_swap test (is_before object order) marks
      ∙ filter_within (is_before object order) (λ mark. nat_lt other object) test
      (λ mark here. grind (arith, nat_tests, differs)) marks
      ∙ filter_constant (nat_lt other object) (on other marks) in
      let behind : on other back ≡ cond (not (nat_lt other object)) (on other marks) [] =
      filters_swap test (is_behind object order) marks
      ∙ filter_within (is_behind object order) (λ mark. not (nat_lt other object)) test
      (λ mark here. grind (arith, nat_tests, differs)) marks
      ∙ filter_constant (not (nat_lt other object)) (on other marks) in
      filter-append test (front ++ listed new) back
      ∙ rw (
        filter-append test front (listed new),
        before,
        behind,
        listed_elsewhere other differs new new_on_object,
      )
      (one_side (nat_lt other object) (on other marks))

-- each other change of the marks on an object is that change of them alone
pub flush_on : (marks : List Mark) (object group : ℕ) (kind : Kind)
    → on object (changed marks (Flush group kind)) ≡ changed (on object marks) (Flush group kind)
unfolding changed
flush_on marks object group kind =
    filters_swap (λ mark. mark.object == object)
    (λ mark. not (mark.group == group && same_kind mark.kind kind)) marks

pub clear_on : (marks : List Mark) (object other : ℕ)
    → on object (changed marks (Clear other)) ≡ changed (on object marks) (Clear other)
unfolding changed
clear_on marks object other =
    filters_swap (λ mark. mark.object == object) stands (map (cleared other) marks)
    ∙ rw (
      filter-map (λ mark. mark.object == object) (cleared other) marks,
      filter_agree (λ mark. (cleared other mark).object == object) (λ mark. mark.object == object)
          (λ mark. rw (cleared_keeps other mark).object refl) marks,
    ) refl

pub drop_group_on : (marks : List Mark) (object group : ℕ)
    → on object (changed marks (DropGroup group)) ≡ changed (on object marks) (DropGroup group)
unfolding changed
drop_group_on marks object group =
    filters_swap (λ mark. mark.object == object) (λ mark. not (mark.group == group)) marks

pub drop_object_on : (marks : List Mark) (object other : ℕ)
    → on object (changed marks (DropObject other)) ≡ changed (on object marks) (DropObject other)
unfolding changed
drop_object_on marks object other =
    filters_swap (λ mark. mark.object == object) (λ mark. not (mark.object == other)) marks
