-- Lists from which the first element that passes a test is taken out.
use Rattle.std.proofs.Common.{◌≡◌, Bool, true, false, cond, List, [], ◌∷◌, ◌++◌, Some, drop, slice_get, refl, ap, sym, subst, arith}
use Rattle.std.proofs.lemmas.List.Elements.{All-head, All-tail}
use Rattle.std.proofs.lemmas.List.Kept.{AllPairs-cons}
use Rattle.std.specs.List.{AllPairs}
use Rattle.std.specs.Prelude.{All, filter}
use Rattle.fan_lists.proofs.FirstLemmas.{All-without_first}
use Rattle.fan_lists.proofs.Pairs.{AllPairs-head, AllPairs-tail}
use Rattle.fan_lists.specs.First.{without_first}

-- what is taken out in a front leaves what is behind
pub without_first-append : {X : Type 0} (test : X → Bool) (xs ys : List X) → All (λ y. test y ≡ false) ys
    → without_first test (xs ++ ys) ≡ without_first test xs ++ ys
without_first-append test [] [] fails = refl
without_first-append test [] (y ∷ ys) fails =
    let first : test y ≡ false = All-head (λ x. test x ≡ false) y ys fails in
    rw first (ap (λ rest. y ∷ rest)
    (without_first-append test [] ys (All-tail (λ x. test x ≡ false) y ys fails)))
without_first-append test (x ∷ xs) ys fails = by (test x) (without_first-append test xs ys fails)
  where
    by : (b : Bool) → without_first test (xs ++ ys) ≡ without_first test xs ++ ys
        → cond b (xs ++ ys) (x ∷ without_first test (xs ++ ys)) ≡ cond b xs (x ∷ without_first test xs) ++ ys
    by true later = refl
    by false later = ap (λ rest. x ∷ rest) later

-- what is left stands in order
pub AllPairs-without_first : {X : Type 0} (R : X → X → Type 0) (test : X → Bool) (xs : List X) → AllPairs R xs
    → AllPairs R (without_first test xs)
AllPairs-without_first R test [] pairs = pairs
AllPairs-without_first R test (x ∷ xs) pairs =
    elim (test x) as (λ b. AllPairs R (cond b xs (x ∷ without_first test xs))) [
      | true ↦ AllPairs-tail R x xs pairs
      | false ↦ AllPairs-cons R x (without_first test xs)
          (All-without_first (R x) test xs (AllPairs-head R x xs pairs))
          (AllPairs-without_first R test xs (AllPairs-tail R x xs pairs))
    ]

-- what is taken out of what a filter keeps is taken out of all, if it keeps all that pass the test
pub filter-without_first : {X : Type 0} (kept test : X → Bool) → ((x : X) → test x ≡ true → kept x ≡ true)
    → (xs : List X) → filter kept (without_first test xs) ≡ without_first test (filter kept xs)
filter-without_first kept test passes [] = refl
filter-without_first kept test passes (x ∷ xs) =
    grind (arith, passes x, filter-without_first kept test passes xs)

-- what is true of all elements is true of the first and of the rest
pub first_and_rest : {X : Type 0} (P : X → Type 0) (first : X) (xs rest : List X)
    → Some first ≡ slice_get xs 0 → rest ≡ drop 1 xs → All P xs → P first × All P rest
first_and_rest P first [] rest is left each = absurd cc
first_and_rest P first (x ∷ xs) rest is left each =
    let same : first ≡ x = cc in (
      subst P (sym same) (All-head P x xs each),
      subst (All P) (sym left) (All-tail P x xs each),
    )
