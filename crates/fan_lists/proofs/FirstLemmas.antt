-- The first element of a list that passes a test: its place, its change and its removal.
use Rattle.std.proofs.Common.{◌≡◌, ◌∙◌, ℕ, ◌<◌, zero, suc, Bool, true, false, cond, List, [], ◌∷◌, Option, Some, None, find, get_or, length, position, set, refl, sym, ap, arith}
use Rattle.std.proofs.lemmas.List.Elements.{All-cons, All-head, All-tail}
use Rattle.std.proofs.lemmas.List.Quantifiers.{position-Some}
use Rattle.std.specs.List.{remove}
use Rattle.std.specs.Prelude.{All, count_by, filter}
use Rattle.fan_lists.proofs.Counts.{count_by-cons}
use Rattle.fan_lists.specs.First.{change_first, without_first}

-- the element at a place is the first that passes
pub record IsFirst {X : Type 0} (test : X → Bool) (xs : List X) (at : ℕ) (d : X) : Type 0 where
  pub within : at < length xs
  pub passes : test (get_or xs at d) ≡ true
  pub before : (k : ℕ) → k < at → test (get_or xs k d) ≡ false

-- what a search by place gives is the first that passes
pub first_from_position : {X : Type 0} (test : X → Bool) (xs : List X) (at : ℕ) (d : X)
    → position test xs ≡ Some at → IsFirst test xs at d
first_from_position test xs at d found =
    let facts = position-Some test xs at d found in
    record { within = facts.0; passes = facts.1; before = facts.2 }

-- the same place one element later
later : {X : Type 0} (test : X → Bool) (x : X) (xs : List X) (at : ℕ) (d : X)
    → IsFirst test (x ∷ xs) (suc at) d → IsFirst test xs at d
later test x xs at d first = record {
  within = let within = first.within in omega arith;
  passes = first.passes;
  before = λ k below. first.before (suc k) (omega arith);
}

-- a search finds the first that passes
pub find_first : {X : Type 0} (test : X → Bool) (xs : List X) (at : ℕ) (d : X)
    → IsFirst test xs at d → find test xs ≡ Some (get_or xs at d)
find_first test [] at d first = let within = first.within in absurd (omega arith)
find_first test (x ∷ xs) zero d first = let here : test x ≡ true = first.passes in rw here refl
find_first test (x ∷ xs) (suc at) d first =
    let not_here : test x ≡ false = first.before 0 (omega arith) in
    rw not_here (find_first test xs at d (later test x xs at d first))

-- the first that passes is changed in its place
pub change_first_at : {X : Type 0} (test : X → Bool) (change : X
    → X) (xs : List X) (at : ℕ) (d : X) → IsFirst test xs at d
    → change_first test change xs ≡ set xs at (change (get_or xs at d))
change_first_at test change [] at d first = let within = first.within in absurd (omega arith)
change_first_at test change (x ∷ xs) zero d first = let here : test x ≡ true = first.passes in rw here refl
change_first_at test change (x ∷ xs) (suc at) d first =
    let not_here : test x ≡ false = first.before 0 (omega arith) in
    rw not_here (ap (λ rest. x ∷ rest) (change_first_at test change xs at d (later test x xs at d first)))

-- the first that passes is removed from its place
pub without_first_at : {X : Type 0} (test : X → Bool) (xs : List X) (at : ℕ) (d : X)
    → IsFirst test xs at d → without_first test xs ≡ remove xs at
without_first_at test [] at d first = let within = first.within in absurd (omega arith)
without_first_at test (x ∷ xs) zero d first = let here : test x ≡ true = first.passes in rw here refl
without_first_at test (x ∷ xs) (suc at) d first =
    let not_here : test x ≡ false = first.before 0 (omega arith) in
    rw not_here (ap (λ rest. x ∷ rest) (without_first_at test xs at d (later test x xs at d first)))

-- an edit of the first that passes leaves a list in which none does
pub change_first_none : {X : Type 0} (test : X → Bool) (change : X → X) (xs : List X) → find test xs ≡ None
    → change_first test change xs ≡ xs
change_first_none test change [] none = refl
change_first_none test change (x ∷ xs) none = grind (arith, none, change_first_none test change xs)

-- and so does the removal of the first that passes
pub without_first_none : {X : Type 0} (test : X → Bool) (xs : List X) → find test xs ≡ None
    → without_first test xs ≡ xs
without_first_none test [] none = refl
without_first_none test (x ∷ xs) none = grind (arith, none, without_first_none test xs)

-- the element at the place that a search gave is the first that passes
pub found_at : {X : Type 0} (test : X → Bool) (xs : List X) (at : ℕ) (x : X)
    → position test xs ≡ Some at → x ≡ get_or xs at x → find test xs ≡ Some x
found_at test xs at x found is = find_first test xs at x (first_from_position test xs at x found)
    ∙ ap (λ y. Some y) (sym is)

-- a change at that place changes the first that passes
pub changed_at : {X : Type 0} (test : X → Bool) (change : X → X) (xs : List X) (at : ℕ) (x : X)
    → position test xs ≡ Some at → x ≡ get_or xs at x
    → set xs at (change x) ≡ change_first test change xs
changed_at test change xs at x found is =
    sym (change_first_at test change xs at x (first_from_position test xs at x found) ∙ ap
    (λ y. set xs at (change y)) (sym is))

-- a removal at that place removes the first that passes
pub removed_at : {X : Type 0} (test : X → Bool) (xs : List X) (at : ℕ) (x : X)
    → position test xs ≡ Some at → remove xs at ≡ without_first test xs
removed_at test xs at x found = sym (without_first_at test xs at x (first_from_position test xs at x found))

-- what a search of a list answered, where it was given the list under another name
pub place_in : {X : Type 0} {seen : List X} {place answer : Option ℕ} (test : X → Bool) (xs : List X)
    → seen ≡ xs → place ≡ position test seen → place ≡ answer → position test xs ≡ answer
place_in test xs same searched was = sym (ap (position test) same) ∙ sym searched ∙ was

-- a change of the first that passes one test, to what doesn't pass the other, leaves all that pass the other
pub filter-change_first_other : {X : Type 0} (test other : X → Bool) (change : X → X) (xs : List X)
    → ((x : X) → other x ≡ true → (test x ≡ false) × (test (change x) ≡ false))
    → filter test (change_first other change xs) ≡ filter test xs
filter-change_first_other test other change [] apart = refl
filter-change_first_other test other change (x ∷ xs) apart =
    grind (arith, apart x, filter-change_first_other test other change xs apart)

-- and so does its removal
pub filter-without_first_other : {X : Type 0} (test other : X → Bool) (xs : List X)
    → ((x : X) → other x ≡ true → test x ≡ false) → filter test (without_first other xs) ≡ filter test xs
filter-without_first_other test other [] apart = refl
filter-without_first_other test other (x ∷ xs) apart =
    grind (arith, apart x, filter-without_first_other test other xs apart)

-- a change of the first that passes, to what passes too, is a change of the first of all that pass
pub filter-change_first_same : {X : Type 0} (test : X → Bool) (change : X → X) (xs : List X)
    → ((x : X) → test x ≡ true → test (change x) ≡ true)
    → filter test (change_first test change xs) ≡ change_first test change (filter test xs)
filter-change_first_same test change [] passes = refl
filter-change_first_same test change (x ∷ xs) passes =
    grind (arith, passes x, filter-change_first_same test change xs passes)

-- and a removal is that of the first of all that pass
pub filter-without_first_same : {X : Type 0} (test : X → Bool) (xs : List X)
    → filter test (without_first test xs) ≡ without_first test (filter test xs)
filter-without_first_same test [] = refl
filter-without_first_same test (x ∷ xs) = grind (arith, filter-without_first_same test xs)

-- what is true of each element is true of those that are left
pub All-without_first : {X : Type 0} (P : X → Type 0) (test : X → Bool) (xs : List X) → All P xs
    → All P (without_first test xs)
All-without_first P test [] each = each
All-without_first P test (x ∷ xs) each =
    elim (test x) as (λ b. All P (cond b xs (x ∷ without_first test xs))) [
      | true ↦ All-tail P x xs each
      | false ↦ All-cons P x (without_first test xs) (All-head P x xs each)
          (All-without_first P test xs (All-tail P x xs each))
    ]

-- and of all where a change keeps it
pub All-change_first : {X : Type 0} (P : X → Type 0) (test : X → Bool) (change : X → X) (xs : List X)
    → ((x : X) → P x → P (change x)) → All P xs → All P (change_first test change xs)
All-change_first P test change [] keeps each = each
All-change_first P test change (x ∷ xs) keeps each =
    elim (test x) as (λ b. All P (cond b (change x ∷ xs) (x ∷ change_first test change xs))) [
      | true ↦ All-cons P (change x) xs (keeps x (All-head P x xs each)) (All-tail P x xs each)
      | false ↦ All-cons P x (change_first test change xs) (All-head P x xs each)
          (All-change_first P test change xs keeps (All-tail P x xs each))
    ]

-- as many elements stand after a change as before it
pub length-change_first : {X : Type 0} (test : X → Bool) (change : X → X) (xs : List X)
    → length (change_first test change xs) ≡ length xs
length-change_first test change [] = refl
length-change_first test change (x ∷ xs) = grind (arith, length-change_first test change xs)

-- a change that keeps a test keeps the count of those that pass it
pub count_by-change_first : {X : Type 0} (test counted : X → Bool) (change : X → X) (xs : List X)
    → ((x : X) → counted (change x) ≡ counted x)
    → count_by counted (change_first test change xs) ≡ count_by counted xs
count_by-change_first test counted change [] keeps = refl
count_by-change_first test counted change (x ∷ xs) keeps =
    grind (
      arith,
      keeps x,
      count_by-change_first test counted change xs keeps,
      count_by-cons counted x xs,
      count_by-cons counted (change x) xs,
      count_by-cons counted x (change_first test change xs),
    )
