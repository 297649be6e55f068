-- What the first entry of an index from a key on says of the marks.
use Rattle.std.proofs.Common.{◌≡◌, ◌∙◌, ℕ, Bool, true, false, cond, List, [], ◌∷◌, Option, Some, None, get_or, refl, append_assoc, length, ap, sym, subst, eq-eqb, arith, ◌++◌, ◌<◌, ◌≤◌}
use Rattle.std.specs.Prelude.{All, filter, find, nat_lt, take_while, ◌==◌, ◌&&◌}
use Rattle.std.specs.List.Sorted.{IsStrictlySortedBy}
use Rattle.std.specs.Map.{keys_of, values_of}
use Rattle.std.specs.Option.{IsSomeAnd, option_map}
use Rattle.std.specs.Ordering.{is_le, is_lt, nat_cmp, ordering_then}
use Rattle.std.specs.declared.cmp.Ordering.TheVariants.{Less}
use Rattle.std.proofs.lemmas.Bool.Decides.{nat_tests}
use Rattle.std.proofs.lemmas.List.{length-append}
use Rattle.std.proofs.lemmas.List.Elements.{All-cons, All-nil, All-weaker}
use Rattle.std.proofs.lemmas.List.Sums.{take_while-cons}
use Rattle.fan_lists.proofs.Choices.{choice_none, choice_some}
use Rattle.fan_lists.proofs.Filters.{filter-map, filter_agree_on}
use Rattle.fan_lists.proofs.Finds.{find_agree, find_passes, find-map}
use Rattle.fan_map.specs.Joined.{if_passes}
use Rattle.fan_map.proofs.Keys.{filter_group, find_in_group, past_first_le, past_first_lt}
use Rattle.fan_bits.specs.declared.mark.Mark.{Mark}
use Rattle.fan_bits.specs.Marks.{IsMark, IsMarkList, Rises, is_before, next_on, on, order_of}
use Rattle.fan_marks.specs.declared.keys.ObjectKey.{ObjectKey}
use Rattle.fan_marks.specs.Keys.{has_object_key, object_cmp, object_key}
use Rattle.fan_marks.specs.declared.selection.Selection.{Selection}
use Rattle.fan_marks.specs.declared.selection.Selection.TheVariants.{OnObject}
use Rattle.fan_marks.specs.Selected.{IsOneOf, is_selected, on_object}
use Rattle.fan_marks.specs.Stored.{keyed}
use Rattle.fan_marks.proofs.Replaced.{found_at_key, values-keyed}

-- a search in a filter is one for what passes both
pub find-filter : {X : Type 0} (p q : X → Bool) (xs : List X)
    → find p (filter q xs) ≡ find (λ x. q x && p x) xs
find-filter p q [] = refl
find-filter p q (x ∷ xs) = grind (arith, find-filter p q xs)

-- where none is found, all fail
pub none_passes : (p : Mark → Bool) (marks : List Mark) → find p marks ≡ None
    → All (λ mark. p mark ≡ false) marks
none_passes p [] none = All-nil (λ mark. p mark ≡ false)
none_passes p (x ∷ xs) none =
    choice_none (p x) (Some x) (find p xs) none (λ passes some. absurd cc)
    (λ fails rest. All-cons (λ mark. p mark ≡ false) x xs fails (none_passes p xs rest))

-- the mark of an entry that was found, if one was
abbrev pub mark_in : Option (ObjectKey × Mark) → Option Mark
mark_in found = option_map (λ e. e.1) found

mark_in-keyed : (found : Option Mark) → mark_in (option_map (λ mark. (object_key mark, mark)) found) ≡ found
mark_in-keyed None = refl
mark_in-keyed (Some mark) = refl

-- a search among keyed marks is one among the marks
pub find-keyed : (p : ObjectKey → Bool) (marks : List Mark)
    → mark_in (find (λ e. p e.0) (keyed marks)) ≡ find (λ mark. p (object_key mark)) marks
find-keyed p marks =
    ap mark_in (find-map (λ e. p e.0) (λ mark. (object_key mark, mark)) marks)
    ∙ mark_in-keyed (find (λ mark. p (object_key mark)) marks)

module _ (object after : ℕ) where
  abbrev key : ObjectKey
  key = record { object = object; order = record { 0 = after } }

  abbrev is_behind_key : ObjectKey → Bool
  is_behind_key other = is_lt (object_cmp key other)

  over : (x y : ObjectKey) → is_behind_key x ≡ true → (x.object == object) ≡ false → object_cmp x y ≡ Less
      → (y.object == object) ≡ false
  over x y from other less =
      past_first_lt object x.object y.object (nat_cmp after x.order.0)
      (nat_cmp x.order.0 y.order.0) from other less

  next_test : (a b x y : ℕ) → (is_lt (ordering_then (nat_cmp a x) (nat_cmp b y)) && x == a) ≡
      (x == a && nat_lt b y)
  next_test a b x y = grind (arith, nat_tests)

  on_object_is : (first : Option (ObjectKey × Mark))
      → on_object object first ≡ mark_in (if_passes (λ e. e.0.object == object) first)
  on_object_is None = refl
  on_object_is (Some e) = elim (e.0.object == object) as (λ test. cond test (Some e.1) None
      ≡ mark_in (cond test (Some e) None)) [ true ↦ refl | false ↦ refl ]

  -- the first entry behind a key, if it is on the object, is the next mark there
  pub next_found : (marks : List Mark) (entries : List (ObjectKey × Mark)) (first : Option (ObjectKey × Mark))
      → entries ≡ keyed marks → IsStrictlySortedBy object_cmp (keys_of entries)
      → first ≡ find (λ e. is_behind_key e.0) entries
      → on_object object first ≡ next_on marks object after
  next_found marks entries first same sorted is =
      let here : ObjectKey → Bool = λ other. other.object == object in
      on_object_is first ∙ ap (λ found. mark_in (if_passes (λ e. here e.0) found)) is
      ∙ ap mark_in (sym (find_in_group object_cmp is_behind_key here over entries sorted))
      ∙ ap (λ all. mark_in (find (λ e. is_behind_key e.0 && here e.0) all)) same
      ∙ find-keyed (λ other. is_behind_key other && here other) marks
      ∙ find_agree (λ mark. is_behind_key (object_key mark) && mark.object == object)
      (λ mark. mark.object == object && nat_lt after (order_of mark)) marks
      (λ k d within. next_test object after (get_or marks k d).object (order_of (get_or marks k d)))
      ∙ sym (find-filter (λ mark. nat_lt after (order_of mark)) (λ mark. mark.object == object) marks)

module _ (object : ℕ) (marks : List Mark) (entries : List (ObjectKey × Mark)) (same : entries ≡ keyed marks)
    (sorted : IsStrictlySortedBy object_cmp (keys_of entries)) where
  abbrev start : ObjectKey
  start = record { object = object; order = record { 0 = 0 } }

  abbrev from_start : ObjectKey → Bool
  from_start key = is_le (object_cmp start key)

  abbrev here : ObjectKey → Bool
  here key = key.object == object

  over_here : (x y : ObjectKey) → from_start x ≡ true → here x ≡ false → object_cmp x y ≡ Less
      → here y ≡ false
  over_here x y from other less =
      past_first_le object x.object y.object (nat_cmp 0 x.order.0)
      (nat_cmp x.order.0 y.order.0) from other less

  on_test : (a x y : ℕ) → (is_le (ordering_then (nat_cmp a x) (nat_cmp 0 y)) && x == a) ≡ (x == a)
  on_test a x y = grind (arith, nat_tests)

  -- the entries from an object on, while they are on it, are those of the marks there
  pub walk_is : values_of (take_while (λ e. here e.0) (filter (λ e. from_start e.0) entries))
      ≡ on object marks
  walk_is =
      let both : ObjectKey → Bool = λ key. from_start key && here key in
      ap values_of (sym (filter_group object_cmp from_start here over_here entries sorted))
      ∙ ap (λ all. values_of (filter (λ e. both e.0) all)) same
      ∙ ap values_of (filter-map (λ e. both e.0) (λ mark. (object_key mark, mark)) marks)
      ∙ values-keyed (filter (λ mark. both (object_key mark)) marks)
      ∙ filter_agree_on (λ mark. both (object_key mark)) (λ mark. mark.object == object) marks
      (λ k d within. on_test object (get_or marks k d).object (order_of (get_or marks k d)))

-- a mark is the first on an object behind an order
pub record IsNext (marks : List Mark) (object after : ℕ) (mark : Mark) : Type 0 where
  pub here : mark.object ≡ object
  pub later : after < order_of mark
  pub keyed : find (has_object_key (object_key mark)) marks ≡ Some mark
  pub first : All (λ other. other.object ≡ object → after < order_of other
      → order_of mark ≤ order_of other) marks

module _ (object after : ℕ) where
  abbrev passes : Mark → Bool
  passes mark = mark.object == object && nat_lt after (order_of mark)

  search_is : (marks : List Mark) → next_on marks object after ≡ find passes marks
  search_is marks = find-filter (λ mark. nat_lt after (order_of mark)) (λ mark. mark.object == object) marks

  past : (x y : Mark) → passes x ≡ true → is_before y.object (order_of y) x ≡ true → y.object ≡ object
      → order_of x ≤ order_of y
  past x y is before here = grind (arith, nat_tests)

  first_is : (marks : List Mark) (mark : Mark) → Rises marks → find passes marks ≡ Some mark
      → All (λ other. other.object ≡ object → after < order_of other → order_of mark ≤ order_of other) marks
  first_is [] mark rises found = absurd cc
  first_is (x ∷ xs) mark rises found =
      let P : Mark → Type 0 = λ other. other.object ≡ object → after < order_of other
      → order_of mark ≤ order_of other in
      choice_some (passes x) (Some x) (find passes xs) mark found
      (λ is here. let one : x ≡ mark = cc in
      All-cons P x xs (λ on later. omega (arith, ap order_of one))
      (All-weaker (λ y. is_before y.object (order_of y) x ≡ true) P
      (λ y before on later. omega (arith, ap order_of one, past x y is before on)) xs rises.0))
      (λ fails rest. All-cons P x xs (λ on later. absurd (grind (arith, nat_tests, fails)))
      (first_is xs mark rises.1 rest))

  pub next_is : (marks : List Mark) (mark : Mark) → Rises marks → next_on marks object after ≡ Some mark
      → IsNext marks object after mark
  next_is marks mark rises next =
      let found = sym (search_is marks) ∙ next in
      let is : passes mark ≡ true = find_passes passes marks mark found in
      record {
        here = grind (arith, nat_tests, is);
        later = grind (arith, nat_tests, is);
        keyed = found_at_key passes marks mark rises found;
        first = first_is marks mark rises found;
      }

  upto : (mark : Mark) → passes mark ≡ false → mark.object ≡ object → order_of mark ≤ after
  upto mark fails here = grind (arith, nat_tests)

  -- where there is none, all marks on the object have orders up to that
  pub none_next : (marks : List Mark) → next_on marks object after ≡ None
      → All (λ mark. mark.object ≡ object → order_of mark ≤ after) marks
  none_next marks none =
      All-weaker (λ mark. passes mark ≡ false) (λ mark. mark.object ≡ object
      → order_of mark ≤ after) upto marks
      (none_passes passes marks (sym (search_is marks) ∙ none))

module _ (selection : Selection) (object : ℕ) (marks : List Mark) (selected : selection ≡ OnObject object)
    (list : IsMarkList marks) where
  abbrev Chosen : Mark → Type 0
  Chosen mark = is_selected selection mark ≡ true

  -- where no mark is on an object, none is selected there
  pub none_on : (found : Option ObjectKey) → next_on marks object 0 ≡ None → found ≡ None
      → IsOneOf (is_selected selection) marks found
  none_on found none is =
      rw (is, selected)
      (λ k d within. elsewhere (get_or marks k d) (list.each k d within)
      (none_next object 0 marks none k d within))
    where
      elsewhere : (mark : Mark) → IsMark mark → (mark.object ≡ object → order_of mark ≤ 0)
          → (mark.object == object) ≡ false
      elsewhere mark is upto =
          let group = is.group.0 in grind (arith, nat_tests, upto, group)

  -- the first one there is selected
  pub one_on : (key : ObjectKey) (mark : Mark) → next_on marks object 0 ≡ Some mark → key ≡ object_key mark
      → IsSomeAnd (find (has_object_key key) marks) Chosen
  one_on key mark next own =
      let is = next_is object 0 marks mark list.rises next in
      let here : (mark.object == object) ≡ true = grind (arith, nat_tests, is.here) in
      let chosen : Chosen mark = rw selected here in
      subst (λ found. IsSomeAnd found Chosen)
      (sym (ap (λ (key : ObjectKey). find (has_object_key key) marks) own ∙ is.keyed)) chosen

-- the head of a walk that is on an object
walk_head : (object : ℕ) (it next : List (ObjectKey × Mark)) (e : ObjectKey × Mark) → it ≡ e ∷ next
    → e.0.object ≡ object
    → take_while (λ e. e.0.object == object) it ≡ e ∷ take_while (λ e. e.0.object == object) next
walk_head object it next e it_is on_it =
    let q : ObjectKey × Mark → Bool = λ e. e.0.object == object in
    ap (take_while q) it_is ∙ take_while-cons q e next
    ∙ ap (λ test. cond test (e ∷ take_while q next) []) (eq-eqb e.0.object object on_it)

-- one more mark of a walk on an object
pub walk_step : (object : ℕ) (out more : List Mark) (it next : List (ObjectKey × Mark)) (e : ObjectKey × Mark)
    → it ≡ e ∷ next → e.0.object ≡ object → more ≡ out ++ e.1 ∷ []
    → more ++ values_of (take_while (λ e. e.0.object == object) next)
    ≡ out ++ values_of (take_while (λ e. e.0.object == object) it)
walk_step object out more it next e it_is on_it pushed =
    let rest = values_of (take_while (λ e. e.0.object == object) next) in
    ap (λ items. items ++ rest) pushed ∙ append_assoc out (e.1 ∷ []) rest
    ∙ ap (λ rest. out ++ values_of rest) (sym (walk_head object it next e it_is on_it))

-- before it there are fewer than at the end
pub walk_left : (object : ℕ) (out all : List Mark) (it next : List (ObjectKey × Mark)) (e : ObjectKey × Mark)
    → it ≡ e ∷ next → e.0.object ≡ object
    → out ++ values_of (take_while (λ e. e.0.object == object) it) ≡ all → length out < length all
walk_left object out all it next e it_is on_it is =
    let rest = values_of (take_while (λ e. e.0.object == object) it) in
    omega (
      arith,
      ap length is,
      length-append out rest,
      ap length (ap values_of (walk_head object it next e it_is on_it)),
    )
