-- Lists at a place.
use Rattle.std.proofs.Common.{◌≡◌, ◌∙◌, ℕ, ◌+◌, zero, suc, List, [], ◌∷◌, ◌++◌, Some, None, drop, take, get_or, refl, ap, arith}
use Rattle.std.proofs.lemmas.List.{drop_more}
use Rattle.std.proofs.lemmas.Option.{get_or_from_slice_get, slice_get_within}
use Rattle.std.specs.Prelude.{All, slice_get}

module _ {X : Type 0} where
  -- a list from an element on
  pub drop_next : (xs : List X) (at : ℕ) (x : X) → slice_get xs at ≡ Some x
      → drop at xs ≡ x ∷ drop (at + 1) xs
  drop_next xs at x is = drop_more xs at x (slice_get_within xs at x is)
      ∙ ap (λ y. y ∷ drop (at + 1) xs) (get_or_from_slice_get xs at x x is)

  -- a list from its end on
  pub drop_end : (xs : List X) (at : ℕ) → slice_get xs at ≡ None → drop at xs ≡ []
  drop_end [] zero none = refl
  drop_end [] (suc at) none = refl
  drop_end (x ∷ xs) zero none = absurd cc
  drop_end (x ∷ xs) (suc at) none = drop_end xs at none

  -- what stands before an element, that element, and what stands behind it
  pub around : (xs : List X) (at : ℕ) (x : X) → slice_get xs at ≡ Some x
      → xs ≡ take at xs ++ x ∷ drop (at + 1) xs
  around [] at x is = absurd cc
  around (y ∷ ys) zero x is = let one : y ≡ x = cc in rw one refl
  around (y ∷ ys) (suc at) x is =
      let next : suc at + 1 ≡ suc (at + 1) = omega arith in
      rw next (ap (λ rest. y ∷ rest) (around ys at x is))

  -- what is true of each element is true of the one at a place
  pub All-slice_get : (P : X → Type 0) (xs : List X) (at : ℕ) (x : X) → All P xs → slice_get xs at ≡ Some x
      → P x
  All-slice_get P xs at x each is =
      let same : get_or xs at x ≡ x = get_or_from_slice_get xs at x x is in
      rw same at (each at x (slice_get_within xs at x is))
