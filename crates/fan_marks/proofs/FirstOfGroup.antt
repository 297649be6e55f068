-- The first entry of the second index from a group and a kind on, and the marks of that group.
use Rattle.std.proofs.Common.{◌≡◌, ◌∙◌, ℕ, Bool, true, false, cond, List, [], ◌∷◌, Option, Some, None, get_or, refl, ap, sym, subst, arith}
use Rattle.std.specs.Prelude.{All, find, ◌==◌, ◌&&◌}
use Rattle.std.specs.BTreeMap.{is_at}
use Rattle.std.specs.List.Sorted.{IsStrictlySortedBy}
use Rattle.std.specs.Map.{keys_of, lookup}
use Rattle.std.specs.Option.{IsSomeAnd, option_map}
use Rattle.std.specs.Ordering.{is_eq, is_le, nat_cmp, ordering_then}
use Rattle.std.specs.declared.cmp.Ordering.TheVariants.{Less}
use Rattle.std.proofs.lemmas.Bool.Decides.{nat_tests}
use Rattle.fan_lists.proofs.Finds.{find_passes}
use Rattle.fan_map.specs.Joined.{if_passes}
use Rattle.fan_map.proofs.Keys.{find_in_group, past_first_le}
use Rattle.fan_bits.specs.declared.class.Class.{Class}
use Rattle.fan_bits.specs.declared.kind.Kind.{Kind}
use Rattle.fan_bits.specs.declared.mark.Mark.{Mark}
use Rattle.fan_marks.specs.declared.keys.GroupKey.{GroupKey}
use Rattle.fan_marks.specs.declared.keys.ObjectKey.{ObjectKey}
use Rattle.fan_marks.specs.declared.selection.Selection.{Selection}
use Rattle.fan_marks.specs.declared.selection.Selection.TheVariants.{OfKind, OfGroup, OnObject}
use Rattle.fan_marks.specs.Keys.{group_cmp, group_key, has_group_key, has_object_key, key_at, object_key}
use Rattle.fan_marks.specs.Selected.{IsOneOf, IsStart, is_selected, selected_key, selects}
use Rattle.fan_marks.specs.Stored.{AreStored}
use Rattle.fan_marks.proofs.Found.{none_passes}
use Rattle.fan_marks.proofs.Orders.{group_exact, group_itself, group_order, kind_number, same_kind_is}
use Rattle.fan_marks.proofs.Replaced.{found_at_key}
use Rattle.fan_marks.proofs.StoredLemmas.{class_of}

over_kind : (g k xg xk xo yg yk yo : ℕ)
    → is_le (ordering_then (nat_cmp g xg) (ordering_then (nat_cmp k xk) (nat_cmp 0 xo))) ≡ true
    → (xg == g && xk == k) ≡ false
    → ordering_then (nat_cmp xg yg) (ordering_then (nat_cmp xk yk) (nat_cmp xo yo)) ≡ Less
    → (yg == g && yk == k) ≡ false
over_kind g k xg xk xo yg yk yo from other less = grind (arith, nat_tests)

start_kind : (g sg xg k sk xk o : ℕ) → sg ≡ g → sk ≡ k → (xg == g && xk == k) ≡ true
    → is_le (ordering_then (nat_cmp sg xg) (ordering_then (nat_cmp sk xk) (nat_cmp 0 o))) ≡ true
start_kind g sg xg k sk xk o group kind passes = grind (arith, nat_tests)

start_group : (g sg xg sk xk o : ℕ) → sg ≡ g → sk ≡ 0 → (xg == g) ≡ true
    → is_le (ordering_then (nat_cmp sg xg) (ordering_then (nat_cmp sk xk) (nat_cmp 0 o))) ≡ true
start_group g sg xg sk xk o group kind passes = grind (arith, nat_tests)

abbrev start : ℕ → Kind → GroupKey
start group kind = record { group = group; kind = kind; object = 0 }

in_kind : (g : ℕ) (k : Kind) (x : GroupKey)
    → selects (OfKind g k) x ≡ (x.group == g && kind_number x.kind == kind_number k)
in_kind g k x = ap (λ same. x.group == g && same) (same_kind_is x.kind k)

-- behind a key that isn't selected, from the start on, none is
over : (selection : Selection) (group : ℕ) (kind : Kind) → IsStart selection group kind → (x y : GroupKey)
    → is_le (group_cmp (start group kind) x) ≡ true → selects selection x ≡ false → group_cmp x y ≡ Less
    → selects selection y ≡ false
over (OfKind g k) group kind is x y from other less =
    let numbers = sym (ap is_le (group_order (start group kind) x)) ∙ from in
    in_kind g k y
    ∙ over_kind g (kind_number k) x.group (kind_number x.kind) x.object y.group (kind_number y.kind) y.object
    (rw (is.0, is.1) at numbers) (sym (in_kind g k x) ∙ other) (sym (group_order x y) ∙ less)
over (OfGroup g) group kind is x y from other less =
    let numbers = sym (ap is_le (group_order (start group kind) x)) ∙ from in
    past_first_le g x.group y.group _ _ (rw is.0 at numbers) other (sym (group_order x y) ∙ less)
over (OnObject o) group kind is x y from other less = absurd is

-- what is selected is not before the start
from_start : (selection : Selection) (group : ℕ) (kind : Kind) → IsStart selection group kind → (x : GroupKey)
    → selects selection x ≡ true → is_le (group_cmp (start group kind) x) ≡ true
from_start (OfKind g k) group kind is x passes =
    ap is_le (group_order (start group kind) x)
    ∙ start_kind g group x.group (kind_number k) (kind_number kind) (kind_number x.kind) x.object is.0
    (ap kind_number is.1) (sym (in_kind g k x) ∙ passes)
from_start (OfGroup g) group kind is x passes =
    ap is_le (group_order (start group kind) x)
    ∙ start_group g group x.group (kind_number kind) (kind_number x.kind) x.object is.0
    (ap kind_number is.1) passes
from_start (OnObject o) group kind is x passes = absurd is

-- where no key passes a test, none that would is there
none_first : (t : GroupKey → Bool) (key : GroupKey) (es : List (GroupKey × Class)) → t key ≡ true
    → find (λ e. t e.0) es ≡ None → lookup (is_at (group_cmp key)) es ≡ None
none_first t key [] passes none = refl
none_first t key (x ∷ xs) passes none =
    let same : is_eq (group_cmp key x.0) ≡ true → t key ≡ t x.0 = λ at. ap t (group_exact key x.0 at) in
    grind (arith, none, passes, same, none_first t key xs passes)

-- the first key that passes is at its place
first_at : (t : GroupKey → Bool) (e : GroupKey × Class) (es : List (GroupKey × Class)) → t e.0 ≡ true
    → find (λ e. t e.0) es ≡ Some e → lookup (is_at (group_cmp e.0)) es ≡ Some e.1
first_at t e [] passes found = absurd cc
first_at t e (x ∷ xs) passes found =
    let same : is_eq (group_cmp e.0 x.0) ≡ true → t e.0 ≡ t x.0 = λ at. ap t (group_exact e.0 x.0 at) in
    grind (arith, found, passes, same, group_itself e.0, first_at t e xs passes)

no_class : (found : Option Mark) → class_of found ≡ None → found ≡ None
no_class None none = refl
no_class (Some mark) none = absurd cc

-- the key of an entry's mark
abbrev key_of : GroupKey × Class → ObjectKey
key_of entry = key_at entry.0.object entry.1 entry.0.group

selected_is : (selection : Selection) (first : Option (GroupKey × Class))
    → selected_key selection first ≡ option_map key_of (if_passes (λ e. selects selection e.0) first)
selected_is selection None = refl
selected_is selection (Some e) = elim (selects selection e.0) as (λ test. cond test (Some (key_of e)) None
    ≡ option_map key_of (cond test (Some e) None)) [ true ↦ refl | false ↦ refl ]

module _ {marks : List Mark} {entries : List (ObjectKey × Mark)} {keys : List (GroupKey × Class)}
    {counts : List (ℕ × ℕ)} (is : AreStored marks entries keys counts) (selection : Selection) (group : ℕ)
    (kind : Kind)
    (begins : IsStart selection group kind) where
  abbrev test : GroupKey → Bool
  test key = is_le (group_cmp (start group kind) key) && selects selection key

  -- where no entry passes, no mark is selected
  none_selected : find (λ e. test e.0) keys ≡ None → All (λ mark. is_selected selection mark ≡ false) marks
  none_selected none k d within = by (is_selected selection (get_or marks k d)) refl
    where
      by : (b : Bool) → is_selected selection (get_or marks k d) ≡ b → b ≡ false
      by false fails = refl
      by true passes =
          let key = group_key (get_or marks k d) in
          let from = from_start selection group kind begins key passes in
          let here : test key ≡ true = rw (from, passes) refl in
          let absent = no_class (find (has_group_key key) marks)
          (sym (is.indexed key) ∙ none_first test key keys here none) in
          sym (group_itself key) ∙ none_passes (has_group_key key) marks absent k d within

  -- one that passes is the entry of a mark that is selected
  one_selected : (e : GroupKey × Class) → find (λ e. test e.0) keys ≡ Some e
      → IsSomeAnd (find (has_object_key (key_of e)) marks) (λ mark. is_selected selection mark ≡ true)
  one_selected e found = by (find (has_group_key e.0) marks) refl
      (sym (is.indexed e.0) ∙ first_at test e keys passes found)
    where
      passes : test e.0 ≡ true
      passes = find_passes (λ e. test e.0) keys e found

      chosen : selects selection e.0 ≡ true
      chosen = grind (arith, passes)

      by : (there : Option Mark) → find (has_group_key e.0) marks ≡ there → class_of there ≡ Some e.1
          → IsSomeAnd (find (has_object_key (key_of e)) marks) (λ mark. is_selected selection mark ≡ true)
      by None none class = absurd cc
      by (Some mark) there class =
          let its_class : mark.class ≡ e.1 = cc in
          let same : e.0 ≡ group_key mark =
          group_exact e.0 (group_key mark) (find_passes (has_group_key e.0) marks mark there) in
          let key : key_of e ≡ object_key mark = ap (λ (key : GroupKey). key_at key.object e.1 key.group) same
          ∙ ap (λ class. key_at mark.object class mark.group) (sym its_class) in
          let at = ap (λ (key : ObjectKey). find (has_object_key key) marks) key
          ∙ found_at_key (has_group_key e.0) marks mark is.whole.list.rises there in
          subst (λ found. IsSomeAnd found (λ mark. is_selected selection mark ≡ true)) (sym at)
          (ap (selects selection) (sym same) ∙ chosen)

  -- the key that the first entry from the start on gives is that of a mark that is selected, if one is
  pub first_selected : (first : Option (GroupKey × Class)) → IsStrictlySortedBy group_cmp (keys_of keys)
      → first ≡ find (λ e. is_le (group_cmp (start group kind) e.0)) keys
      → IsOneOf (is_selected selection) marks (selected_key selection first)
  first_selected first sorted searched =
      let same : selected_key selection first ≡ option_map key_of (find (λ e. test e.0) keys) =
      selected_is selection first ∙ ap (λ found. option_map key_of (if_passes
      (λ e. selects selection e.0) found)) searched
      ∙ ap (option_map key_of) (sym (find_in_group group_cmp (λ key. is_le (group_cmp (start group kind) key))
      (selects selection) (over selection group kind begins) keys sorted)) in
      subst (IsOneOf (is_selected selection) marks) (sym same) (by (find (λ e. test e.0) keys) refl)
    where
      by : (found : Option (GroupKey × Class)) → find (λ e. test e.0) keys ≡ found
          → IsOneOf (is_selected selection) marks (option_map key_of found)
      by None none = none_selected none
      by (Some e) found = one_selected e found
