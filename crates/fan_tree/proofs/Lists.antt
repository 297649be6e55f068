-- What is known of each element of a list: of both parts of it, and where a search finds nothing.
use Rattle.std.proofs.Common.{◌≡◌, Bool, true, false, cond, List, [], ◌∷◌, ◌++◌, Some, None, All, refl, arith}
use Rattle.std.specs.Prelude.{filter, find}
use Rattle.std.proofs.lemmas.List.Elements.{All-cons, All-head, All-nil, All-tail}

-- if nothing is found, each element fails
pub each_fails : {X : Type 0} (test : X → Bool) (xs : List X)
    → find test xs ≡ None → All (λ x. test x ≡ false) xs
each_fails test [] none = All-nil (λ x. test x ≡ false)
each_fails test (x ∷ xs) none =
    (elim (test x) as (λ here. test x ≡ here → cond here (Some x) (find test xs) ≡ None
    → All (λ y. test y ≡ false) (x ∷ xs)) [
      | true ↦ λ passes found. absurd (cc)
      | false ↦ λ fails rest. All-cons (λ y. test y ≡ false) x xs fails (each_fails test xs rest)
    ]) refl none

-- what holds of each element holds of those in front, and of those behind
pub All-front : {X : Type 0} (P : X → Type 0) (xs ys : List X) → All P (xs ++ ys) → All P xs
All-front P [] ys each = All-nil P
All-front P (x ∷ xs) ys each =
    All-cons P x xs (All-head P x (xs ++ ys) each) (All-front P xs ys (All-tail P x (xs ++ ys) each))

pub All-back : {X : Type 0} (P : X → Type 0) (xs ys : List X) → All P (xs ++ ys) → All P ys
All-back P [] ys each = each
All-back P (x ∷ xs) ys each = All-back P xs ys (All-tail P x (xs ++ ys) each)

-- a search goes past elements that a filter leaves out, if it doesn't look for them
pub find_past : {X : Type 0} (test kept : X → Bool) (xs : List X)
    → All (λ x. test x ≡ true → kept x ≡ true) xs → find test (filter kept xs) ≡ find test xs
find_past test kept [] each = refl
find_past test kept (x ∷ xs) each =
    let here = All-head (λ y. test y ≡ true → kept y ≡ true) x xs each in
    let rest = find_past test kept xs (All-tail (λ y. test y ≡ true → kept y ≡ true) x xs each) in
    grind (arith, here, rest)
