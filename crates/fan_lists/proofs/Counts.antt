-- How many elements of a list pass a test, against whether one does.
use Rattle.std.proofs.Common.{◌≡◌, ◌+◌, ◌≤◌, Bool, true, cond, List, [], ◌∷◌, None, refl, arith}
use Rattle.std.proofs.lemmas.List.Sums.{sum_by-cons}
use Rattle.std.specs.List.{list_any}
use Rattle.std.specs.Prelude.{count_by, find}

module _ {X : Type 0} (p : X → Bool) where
  -- one element more is counted if it passes
  pub count_by-cons : (x : X) (xs : List X) → count_by p (x ∷ xs) ≡ cond (p x) 1 0 + count_by p xs
  count_by-cons x xs = sum_by-cons (λ y. cond (p y) 1 0) x xs

  -- where one passes, it is counted
  pub count_from_any : (xs : List X) → list_any p xs ≡ true → 1 ≤ count_by p xs
  count_from_any [] some = absurd cc
  count_from_any (x ∷ xs) some = grind (arith, some, count_from_any xs, count_by-cons x xs)

  -- and what is counted is one that passes
  pub any_from_count : (xs : List X) → 1 ≤ count_by p xs → list_any p xs ≡ true
  any_from_count [] some = absurd (omega arith)
  any_from_count (x ∷ xs) some = grind (arith, some, any_from_count xs, count_by-cons x xs)

  -- what a search does not find is not counted, and the other way round
  pub count_from_none : (xs : List X) → find p xs ≡ None → count_by p xs ≡ 0
  count_from_none [] none = refl
  count_from_none (x ∷ xs) none = grind (arith, none, count_from_none xs, count_by-cons x xs)

  pub none_from_count : (xs : List X) → count_by p xs ≡ 0 → find p xs ≡ None
  none_from_count [] none = refl
  none_from_count (x ∷ xs) none = grind (arith, none, none_from_count xs, count_by-cons x xs)

-- two tests that agree count the same
pub count_by_agree : {X : Type 0} (p q : X → Bool) → ((x : X) → p x ≡ q x) → (xs : List X)
    → count_by p xs ≡ count_by q xs
count_by_agree p q same [] = refl
count_by_agree p q same (x ∷ xs) =
    grind (arith, same x, count_by_agree p q same xs, count_by-cons p x xs, count_by-cons q x xs)
