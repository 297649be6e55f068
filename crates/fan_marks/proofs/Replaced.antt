-- The marks before a key, at it and behind it.
use Rattle.std.proofs.Common.{◌≡◌, ◌∙◌, ℕ, ◌+◌, ◌||◌, Bool, true, false, cond, List, [], ◌∷◌, ◌++◌, Option, Some, None, length, refl, ap, sym, arith}
use Rattle.std.specs.Prelude.{All, count_by, filter, find}
use Rattle.std.specs.BTreeMap.{insert_entry, is_at}
use Rattle.std.specs.Map.{lookup, remove_entry, set_value, values_of}
use Rattle.std.specs.Option.{option_or}
use Rattle.std.specs.declared.cmp.Ordering.{Ordering}
use Rattle.std.specs.declared.cmp.Ordering.TheVariants.{Less, Equal, Greater}
use Rattle.std.proofs.lemmas.Bool.Decides.{nat_tests}
use Rattle.std.proofs.lemmas.List.{length-append}
use Rattle.std.proofs.lemmas.List.Elements.{All-filter, All-head, All-tail, All-weaker, filter_passes}
use Rattle.std.proofs.lemmas.List.Folds.{find-append}
use Rattle.std.proofs.lemmas.List.Sums.{sum_by-append}
use Rattle.fan_bits.specs.declared.mark.Mark.{Mark}
use Rattle.fan_bits.specs.Marks.{Rises, is_before, is_behind, listed, order_of}
use Rattle.fan_marks.specs.declared.keys.ObjectKey.{ObjectKey}
use Rattle.fan_marks.specs.Keys.{before, behind, between, has_object_key, object_cmp, object_key, replaced}
use Rattle.fan_marks.specs.Stored.{keyed}
use Rattle.fan_lists.proofs.Filters.{filter_all, filter_none}
use Rattle.fan_lists.proofs.Choices.{choice_some}
use Rattle.fan_lists.proofs.Finds.{All-find, find_none}
use Rattle.fan_marks.proofs.Orders.{object_itself, order_is}

-- the values of keyed marks are the marks
pub values-keyed : (marks : List Mark) → values_of (keyed marks) ≡ marks
values-keyed [] = refl
values-keyed (x ∷ xs) = ap (λ more. x ∷ more) (values-keyed xs)

-- a look-up among keyed marks is a search among the marks
pub lookup-keyed : (test : ObjectKey → Bool) (marks : List Mark)
    → lookup test (keyed marks) ≡ find (λ mark. test (object_key mark)) marks
lookup-keyed test [] = refl
lookup-keyed test (x ∷ xs) = grind (arith, lookup-keyed test xs)

find-between : (p : Mark → Bool) (front : List Mark) (here : Option Mark) (back : List Mark)
    → find p (between front here back) ≡ option_or (option_or (find p front) (find p (listed here)))
    (find p back)
find-between p front here back =
    find-append p (front ++ listed here) back
    ∙ ap (λ first. option_or first (find p back)) (find-append p front (listed here))

count-between : (p : Mark → Bool) (front : List Mark) (here : Option Mark) (back : List Mark)
    → count_by p (between front here back) ≡ count_by p front + count_by p (listed here) + count_by p back
count-between p front here back =
    let weight : Mark → ℕ = λ mark. cond (p mark) 1 0 in
    omega (arith, sum_by-append weight (front ++ listed here) back, sum_by-append weight front (listed here))

or_none : (found : Option Mark) → option_or found None ≡ found
or_none None = refl
or_none (Some mark) = refl

module _ (key : ObjectKey) where
  abbrev front : Mark → Bool
  front mark = is_before key.object key.order.0 mark

  abbrev back : Mark → Bool
  back mark = is_behind key.object key.order.0 mark

  not_both : (mark : Mark) → back mark ≡ true → front mark ≡ false
  not_both mark is = grind (arith, nat_tests)

  behind_too : (x y : Mark) → front x ≡ false → is_before y.object (order_of y) x ≡ true → back y ≡ true
  behind_too x y not_front less = grind (arith, nat_tests)

  -- the marks behind one that isn't before the key
  rest_behind : (x : Mark) (xs : List Mark) → front x ≡ false → Rises (x ∷ xs) → All (λ y. back y ≡ true) xs
  rest_behind x xs not_front rises =
      All-weaker (λ y. is_before y.object (order_of y) x ≡ true) (λ y. back y ≡ true)
      (λ y less. behind_too x y not_front less) xs rises.0

  at_front : (mark : Mark) → object_cmp key (object_key mark) ≡ Greater
      → (front mark ≡ true) × (back mark ≡ false)
  at_front mark is = grind (arith, nat_tests, is, order_is key mark, not_both mark)

  at_key : (mark : Mark) → object_cmp key (object_key mark) ≡ Equal
      → (front mark ≡ false) × (back mark ≡ false)
  at_key mark is = grind (arith, nat_tests, is, order_is key mark)

  at_back : (mark : Mark) → object_cmp key (object_key mark) ≡ Less
      → (front mark ≡ false) × (back mark ≡ true)
  at_back mark is = grind (arith, nat_tests, is, order_is key mark)

  greater : (mark : Mark) → front mark ≡ true → object_cmp key (object_key mark) ≡ Greater
  greater mark is = grind (arith, nat_tests, is, order_is key mark)

  less : (mark : Mark) → back mark ≡ true → object_cmp key (object_key mark) ≡ Less
  less mark is = grind (arith, nat_tests, is, order_is key mark, not_both mark)

  -- marks before the key, and behind it, don't have it
  pub front_apart : (mark : Mark) → front mark ≡ true → has_object_key key mark ≡ false
  front_apart mark is = grind (arith, greater mark is)

  pub back_apart : (mark : Mark) → back mark ≡ true → has_object_key key mark ≡ false
  back_apart mark is = grind (arith, less mark is)

  -- and those that don't have it are before it or behind it
  pub sides : (mark : Mark) → has_object_key key mark ≡ false → (front mark || back mark) ≡ true
  sides mark apart = grind (arith, nat_tests, apart, order_is key mark)

  none_before : (xs : List Mark) → All (λ y. back y ≡ true) xs → before key xs ≡ []
  none_before xs each = filter_none front xs (All-weaker (λ y. back y ≡ true) (λ y. front y
      ≡ false) not_both xs each)

  none_at : (xs : List Mark) → All (λ y. back y ≡ true) xs → find (has_object_key key) xs ≡ None
  none_at xs each = find_none (has_object_key key) xs
      (All-weaker (λ y. back y ≡ true) (λ y. has_object_key key y ≡ false) back_apart xs each)

  -- a list of marks is those before a key, the one at it, and those behind it
  pub split : (marks : List Mark) → Rises marks
      → marks ≡ replaced marks key (find (has_object_key key) marks)
  split [] rises = refl
  split (x ∷ xs) rises = by (object_cmp key (object_key x)) refl (split xs rises.1)
    where
      by : (r : Ordering) → object_cmp key (object_key x) ≡ r
          → xs ≡ replaced xs key (find (has_object_key key) xs)
          → x ∷ xs ≡ replaced (x ∷ xs) key (find (has_object_key key) (x ∷ xs))
      by Greater i ih = let f = at_front x i in rw (i, f.0, f.1) (ap (λ more. x ∷ more) ih)
      by Equal i ih =
          let f = at_key x i in
          let rest = rest_behind x xs f.0 rises in
          rw (i, f.0, f.1, none_before xs rest, filter_all back xs rest) refl
      by Less i ih =
          let f = at_back x i in
          let rest = rest_behind x xs f.0 rises in
          rw (i, f.0, f.1, none_before xs rest, filter_all back xs rest, none_at xs rest) refl

  -- the same where it is known what is at the key
  pub split_at : (marks : List Mark) (old : Option Mark) → Rises marks → find (has_object_key key) marks ≡ old
      → marks ≡ replaced marks key old
  split_at marks old rises found = split marks rises ∙ ap (replaced marks key) found

  -- an entry of a map that comes between marks before its key and marks behind it
  insert_between : (new : Mark) (xs ys : List Mark) → object_key new ≡ key
      → All (λ x. front x ≡ true) xs → All (λ y. back y ≡ true) ys
      → insert_entry object_cmp (keyed (between xs None ys)) key new ≡ keyed (between xs (Some new) ys)
  insert_between new [] [] own first last = rw own refl
  insert_between new [] (y ∷ ys) own first last =
      rw (less y (All-head (λ y. back y ≡ true) y ys last), own) refl
  insert_between new (x ∷ xs) ys own first last =
      let P : Mark → Type 0 = λ x. front x ≡ true in
      rw (greater x (All-head P x xs first))
      (ap (λ more. (object_key x, x) ∷ more) (insert_between new xs ys own (All-tail P x xs first) last))

  -- one whose value is replaced
  set_between : (old new : Mark) (xs ys : List Mark) → object_key new ≡ key → has_object_key key old ≡ true
      → key ≡ object_key old → All (λ x. front x ≡ true) xs
      → set_value (is_at (object_cmp key)) (keyed (between xs (Some old) ys)) new
      ≡ keyed (between xs (Some new) ys)
  set_between old new [] ys own here same first = rw here (rw (own, same) refl)
  set_between old new (x ∷ xs) ys own here same first =
      let P : Mark → Type 0 = λ x. front x ≡ true in
      rw (front_apart x (All-head P x xs first))
      (ap (λ more. (object_key x, x) ∷ more) (set_between old new xs ys own here same
      (All-tail P x xs first)))

  -- and one that goes
  remove_between : (old : Mark) (xs ys : List Mark) → has_object_key key old ≡ true
      → All (λ x. front x ≡ true) xs
      → remove_entry (is_at (object_cmp key)) (keyed (between xs (Some old) ys)) ≡ keyed (between xs None ys)
  remove_between old [] ys here first = rw here refl
  remove_between old (x ∷ xs) ys here first =
      let P : Mark → Type 0 = λ x. front x ≡ true in
      rw (front_apart x (All-head P x xs first))
      (ap (λ more. (object_key x, x) ∷ more) (remove_between old xs ys here (All-tail P x xs first)))

-- the first mark that passes a test is the one with its key
pub found_at_key : (p : Mark → Bool) (marks : List Mark) (mark : Mark) → Rises marks
    → find p marks ≡ Some mark
    → find (has_object_key (object_key mark)) marks ≡ Some mark
found_at_key p [] mark rises found = absurd cc
found_at_key p (x ∷ xs) mark rises found =
    let key = object_key mark in
    choice_some (p x) (Some x) (find p xs) mark found
    (λ passes here.
    let one : x ≡ mark = cc in
    rw (ap (has_object_key key) one ∙ object_itself mark) here)
    (λ fails later.
    let before = All-find p (λ y. is_before y.object (order_of y) x ≡ true) xs mark rises.0 later in
    rw (front_apart key x before) (found_at_key p xs mark rises.1 later))

module _ (key : ObjectKey) (marks : List Mark) (rises : Rises marks) where
  -- the entries after a mark came
  pub insert_is : (new : Mark) → find (has_object_key key) marks ≡ None → object_key new ≡ key
      → insert_entry object_cmp (keyed marks) key new ≡ keyed (replaced marks key (Some new))
  insert_is new none own =
      ap (λ all. insert_entry object_cmp (keyed all) key new) (split_at key marks None rises none)
      ∙ insert_between key new (before key marks) (behind key marks) own
      (filter_passes (front key) marks) (filter_passes (back key) marks)

  -- after another took its place
  pub set_is : (old new : Mark) → find (has_object_key key) marks ≡ Some old → has_object_key key old ≡ true
      → key ≡ object_key old → object_key new ≡ key
      → set_value (is_at (object_cmp key)) (keyed marks) new ≡ keyed (replaced marks key (Some new))
  set_is old new found here same own =
      ap (λ all. set_value (is_at (object_cmp key)) (keyed all) new) (split_at key marks
      (Some old) rises found)
      ∙ set_between key old new (before key marks) (behind key marks) own here same (filter_passes
      (front key) marks)

  -- and after it went
  pub remove_is : (old : Mark) → find (has_object_key key) marks ≡ Some old → has_object_key key old ≡ true
      → remove_entry (is_at (object_cmp key)) (keyed marks) ≡ keyed (replaced marks key None)
  remove_is old found here =
      ap (λ all. remove_entry (is_at (object_cmp key)) (keyed all)) (split_at key marks
      (Some old) rises found)
      ∙ remove_between key old (before key marks) (behind key marks) here (filter_passes (front key) marks)

  -- how many marks pass a test where another, or none, takes the place of one, or of none
  pub count-replaced : (p : Mark → Bool) (old new : Option Mark) → find (has_object_key key) marks ≡ old
      → count_by p (replaced marks key new) + count_by p (listed old)
      ≡ count_by p marks + count_by p (listed new)
  count-replaced p old new found = omega (
    arith,
    count-between p (before key marks) new (behind key marks),
    count-between p (before key marks) old (behind key marks),
    ap (count_by p) (split_at key marks old rises found),
  )

  -- and how many there are
  pub length-replaced : (old new : Option Mark) → find (has_object_key key) marks ≡ old
      → length (replaced marks key new) + length (listed old) ≡ length marks + length (listed new)
  length-replaced old new found =
      let same = ap length (split_at key marks old rises found) in
      omega (
        arith,
        same,
        length-append (before key marks ++ listed new) (behind key marks),
        length-append (before key marks) (listed new),
        length-append (before key marks ++ listed old) (behind key marks),
        length-append (before key marks) (listed old),
      )

  -- a search that passes over both finds the same
  pub find_other : (p : Mark → Bool) (old new : Option Mark) → find (has_object_key key) marks ≡ old
      → find p (listed old) ≡ None → find p (listed new) ≡ None
      → find p (replaced marks key new) ≡ find p marks
  find_other p old new found fails_old fails_new =
      find-between p (before key marks) new (behind key marks)
      ∙ ap (λ here. option_or (option_or (find p (before key marks)) here) (find p (behind key marks)))
      (fails_new ∙ sym fails_old)
      ∙ sym (find-between p (before key marks) old (behind key marks))
      ∙ sym (ap (find p) (split_at key marks old rises found))

  none_within : (p side : Mark → Bool) → ((mark : Mark) → side mark ≡ true → has_object_key key mark ≡ false)
      → All (λ mark. p mark ≡ true → has_object_key key mark ≡ true) marks → find p (filter side marks) ≡ None
  none_within p side apart only =
      let P : Mark → Type 0 = λ mark. p mark ≡ true → has_object_key key mark ≡ true in
      let here : All P (filter side marks) = All-filter side P marks only in
      let passes = filter_passes side marks in
      find_none p (filter side marks)
      (λ k d within. fails (p _) (here k d within) (apart _ (passes k d within)))
    where
      fails : (b : Bool) {c : Bool} → (b ≡ true → c ≡ true) → c ≡ false → b ≡ false
      fails b implies is = grind (arith, implies, is)

  -- one that only a mark with the key can pass finds the new one alone
  pub find_here : (p : Mark → Bool) (new : Option Mark)
      → All (λ mark. p mark ≡ true → has_object_key key mark ≡ true) marks
      → find p (replaced marks key new) ≡ find p (listed new)
  find_here p new only =
      let first = none_within p (front key) (front_apart key) only in
      let last = none_within p (back key) (back_apart key) only in
      find-between p (before key marks) new (behind key marks)
      ∙ rw (first, last) (or_none (find p (listed new)))
