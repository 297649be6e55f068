-- Lists to which an element came at the end, or in which the first that passes a test was changed.
use Rattle.std.proofs.Common.{◌≡◌, ◌∙◌, ◌+◌, Bool, true, false, cond, List, [], ◌∷◌, ◌++◌, Some, None, refl, arith}
use Rattle.std.proofs.lemmas.List.Elements.{All-cons, All-nil, All-weaker}
use Rattle.std.proofs.lemmas.List.Kept.{AllPairs-cons}
use Rattle.std.proofs.lemmas.List.Sums.{sum_by-append}
use Rattle.std.specs.List.{AllPairs, list_any}
use Rattle.std.specs.Option.{option_map}
use Rattle.std.specs.Prelude.{All, count_by, find}
use Rattle.fan_lists.specs.First.{change_first}
use Rattle.fan_lists.proofs.Choices.{choice_none}
use Rattle.fan_lists.proofs.FirstLemmas.{All-change_first}
use Rattle.fan_lists.proofs.Pairs.{AllPairs-head, AllPairs-nil, AllPairs-tail}

module _ {X : Type 0} (p : X → Bool) where
  -- where a search finds none, all fail
  pub all_fail : (xs : List X) → find p xs ≡ None → All (λ x. p x ≡ false) xs
  all_fail [] none = All-nil (λ x. p x ≡ false)
  all_fail (x ∷ xs) none =
      choice_none (p x) (Some x) (find p xs) none (λ passes some. absurd cc)
      (λ fails rest. All-cons (λ y. p y ≡ false) x xs fails (all_fail xs rest))

  -- one element more is counted if it passes
  pub count_by-push : (xs : List X) (x : X) → count_by p (xs ++ x ∷ []) ≡ count_by p xs + cond (p x) 1 0
  count_by-push xs x = sum_by-append (λ y. cond (p y) 1 0) xs (x ∷ []) ∙ grind arith

  -- and is found if it passes and none was found before
  pub find-push : (xs : List X) (x : X) → find p xs ≡ None
      → find p (xs ++ x ∷ []) ≡ cond (p x) (Some x) None
  find-push [] x none = refl
  find-push (y ∷ ys) x none = grind (arith, none, find-push ys x)

  -- one that fails is not found
  pub find-push_other : (xs : List X) (x : X) → p x ≡ false → find p (xs ++ x ∷ []) ≡ find p xs
  find-push_other [] x fails = grind (arith, fails)
  find-push_other (y ∷ ys) x fails = grind (arith, find-push_other ys x fails)

module _ {X : Type 0} (test : X → Bool) (change : X → X) where
  -- a change that keeps a test keeps whether one passes it
  pub list_any-change_first : (p : X → Bool) → ((x : X) → p (change x) ≡ p x) → (xs : List X)
      → list_any p (change_first test change xs) ≡ list_any p xs
  list_any-change_first p keeps [] = refl
  list_any-change_first p keeps (x ∷ xs) = grind (arith, keeps x, list_any-change_first p keeps xs)

  -- a change that keeps a relation on both its sides keeps it between each two
  pub AllPairs-change_first : (R : X → X → Type 0) → ((x y : X) → R x y → R (change x) y)
      → ((x y : X) → R x y → R x (change y)) → (xs : List X) → AllPairs R xs
      → AllPairs R (change_first test change xs)
  AllPairs-change_first R left right [] pairs = AllPairs-nil R
  AllPairs-change_first R left right (x ∷ xs) pairs =
      let head : All (R x) xs = AllPairs-head R x xs pairs in
      let tail : AllPairs R xs = AllPairs-tail R x xs pairs in
      elim (test x) as (λ b. AllPairs R (cond b (change x ∷ xs) (x ∷ change_first test change xs))) [
        | true ↦ AllPairs-cons R (change x) xs (All-weaker (R x) (R (change x)) (left x) xs head) tail
        | false ↦ AllPairs-cons R x (change_first test change xs)
            (All-change_first (R x) test change xs (right x) head)
            (AllPairs-change_first R left right xs tail)
      ]

  -- what is seen of the first that passes another test stays, if the change keeps that test and what is seen
  pub find-change_first : {Y : Type 0} (p : X → Bool) (seen : X → Y) → ((x : X) → p (change x) ≡ p x)
      → ((x : X) → seen (change x) ≡ seen x) → (xs : List X)
      → option_map seen (find p (change_first test change xs)) ≡ option_map seen (find p xs)
  find-change_first p seen keeps same [] = refl
  find-change_first p seen keeps same (x ∷ xs) =
      grind (arith, keeps x, same x, find-change_first p seen keeps same xs)
