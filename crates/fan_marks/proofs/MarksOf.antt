-- The mark of a group on an object, by its key.
use Rattle.std.proofs.Common.{◌≡◌, ◌∙◌, ℕ, ◌<◌, ◌^◌, Bool, true, false, List, Option, Some, None, get_or, refl, ap, arith}
use Rattle.std.specs.Prelude.{All, find, ◌==◌, ◌&&◌}
use Rattle.std.specs.Option.{IsSomeAnd}
use Rattle.std.specs.Ordering.{is_eq, nat_cmp, ordering_then}
use Rattle.std.proofs.lemmas.Bool.Decides.{nat_tests}
use Rattle.std.proofs.lemmas.List.Elements.{All-weaker}
use Rattle.fan_lists.proofs.Finds.{find_agree, find_none}
use Rattle.fan_bits.specs.declared.class.Class.{Class}
use Rattle.fan_bits.specs.declared.mark.Mark.{Mark}
use Rattle.fan_bits.specs.Marks.{IsMark, IsMarkList, mark_of, order_number, order_of}
use Rattle.fan_marks.specs.declared.keys.ObjectKey.{ObjectKey}
use Rattle.fan_marks.specs.declared.selection.Selection.TheVariants.{OfGroup}
use Rattle.fan_marks.specs.Keys.{has_object_key, key_at}
use Rattle.fan_marks.specs.Selected.{IsOneOf, is_selected}
use Rattle.fan_marks.proofs.StoredLemmas.{storable_at}

same_test : (object order group x y z : ℕ) → (z ≡ group → y ≡ order) → (y ≡ order → z ≡ group)
    → is_eq (ordering_then (nat_cmp object x) (nat_cmp order y)) ≡ (z == group && x == object)
same_test object order group x y z forth back = by (z == group) refl
  where
    by : (b : Bool) → (z == group) ≡ b
        → is_eq (ordering_then (nat_cmp object x) (nat_cmp order y)) ≡ (b && x == object)
    by true same = let e : y ≡ order = forth (grind (arith, nat_tests, same)) in grind (arith, nat_tests, e)
    by false other = by_order (y == order) refl
      where
        by_order : (b : Bool) → (y == order) ≡ b
            → is_eq (ordering_then (nat_cmp object x) (nat_cmp order y)) ≡ false
        by_order true same =
            let e : z ≡ group = back (grind (arith, nat_tests, same)) in absurd (grind
            (arith, nat_tests, other, e))
        by_order false apart = grind (arith, nat_tests, apart)

-- the mark with the key of a group on an object is the group's mark there
pub mark_at : (marks : List Mark) (group : ℕ) (class : Class) (object : ℕ) → All IsMark marks
    → All (λ mark. mark.group ≡ group → mark.class ≡ class) marks → group < 2 ^ 32
    → find (has_object_key (key_at object class group)) marks ≡ mark_of marks group object
mark_at marks group class object each classes small =
    find_agree (has_object_key (key_at object class group))
    (λ mark. mark.group == group && mark.object == object)
    marks (λ k d within. same (get_or marks k d) (each k d within) (classes k d within))
  where
    same : (mark : Mark) → IsMark mark → (mark.group ≡ group → mark.class ≡ class)
        → has_object_key (key_at object class group) mark ≡ (mark.group == group && mark.object == object)
    same mark is classes =
        let bound = is.group.1 in
        same_test object (order_number class group) group mark.object (order_of mark) mark.group
        (λ of_group. rw (classes of_group, of_group) refl) (λ order. omega (arith, bound, small, order))

-- a group without a mark has none on an object
pub none_of : (marks : List Mark) (group object : ℕ) → IsOneOf (is_selected (OfGroup group)) marks None
    → mark_of marks group object ≡ None
none_of marks group object none =
    find_none (λ mark. mark.group == group && mark.object == object) marks
    (All-weaker (λ mark. (mark.group == group) ≡ false) (λ mark.
    (mark.group == group && mark.object == object) ≡ false)
    (λ mark other. grind (arith, other)) marks none)

-- by the order of any of its marks
pub one_of : (marks : List Mark) (group object : ℕ) (first : ObjectKey) → IsMarkList marks
    → IsOneOf (is_selected (OfGroup group)) marks (Some first)
    → find (has_object_key (record { object = object; order = first.order })) marks
    ≡ mark_of marks group object
one_of marks group object first list there = by (find (has_object_key first) marks) refl there
  where
    by : (found : Option Mark) → find (has_object_key first) marks ≡ found
        → IsSomeAnd found (λ mark. is_selected (OfGroup group) mark ≡ true)
        → find (has_object_key (record { object = object; order = first.order })) marks
        ≡ mark_of marks group object
    by None found is = absurd is
    by (Some mark) found selected =
        let fits = storable_at marks first mark list found in
        let of_group : mark.group ≡ group = grind (arith, nat_tests, selected) in
        let bound = fits.0.is.group.1 in
        ap (λ (key : ObjectKey). find (has_object_key
        (record { object = object; order = key.order })) marks) fits.1
        ∙ mark_at marks mark.group mark.class object list.each fits.0.agrees bound
        ∙ ap (λ group. mark_of marks group object) of_group
