-- What a filter keeps of a list.
use Rattle.std.proofs.Common.{◌≡◌, ℕ, ◌<◌, zero, suc, Bool, true, false, cond, ◌&&◌, List, [], ◌∷◌, map, length, get_or, refl, ap, arith}
use Rattle.std.proofs.lemmas.List.Elements.{All-head, All-tail}
use Rattle.std.proofs.lemmas.List.Sums.{count_by-le-length, length-filter}
use Rattle.std.specs.List.{remove}
use Rattle.std.specs.Prelude.{All, filter}

module _ {X : Type 0} (p : X → Bool) where
  -- where all fail, nothing is kept
  pub filter_none : (xs : List X) → All (λ x. p x ≡ false) xs → filter p xs ≡ []
  filter_none [] each = refl
  filter_none (x ∷ xs) each =
      grind (
        arith,
        All-head (λ y. p y ≡ false) x xs each,
        filter_none xs (All-tail (λ y. p y ≡ false) x xs each),
      )

  -- where all pass, all is kept
  pub filter_all : (xs : List X) → All (λ x. p x ≡ true) xs → filter p xs ≡ xs
  filter_all [] each = refl
  filter_all (x ∷ xs) each =
      grind (
        arith,
        All-head (λ y. p y ≡ true) x xs each,
        filter_all xs (All-tail (λ y. p y ≡ true) x xs each),
      )

  -- a filter that keeps as many as there are keeps all
  pub filter_from_length : (xs : List X) → length (filter p xs) ≡ length xs → filter p xs ≡ xs
  filter_from_length [] same = refl
  filter_from_length (x ∷ xs) same =
      grind (arith, same, filter_from_length xs, length-filter p xs, count_by-le-length p xs)

  -- of what a map makes
  pub filter-map : {Y : Type 0} (f : Y → X) (ys : List Y)
      → filter p (map f ys) ≡ map f (filter (λ y. p (f y)) ys)
  filter-map f [] = refl
  filter-map f (y ∷ ys) = grind (arith, filter-map f ys)

  -- an element that fails may go
  pub filter_remove : (xs : List X) (at : ℕ) (d : X) → at < length xs → p (get_or xs at d) ≡ false
      → filter p (remove xs at) ≡ filter p xs
  filter_remove [] at d within fails = absurd (omega arith)
  filter_remove (x ∷ xs) zero d within fails = rw fails refl
  filter_remove (x ∷ xs) (suc at) d within fails =
      ap (λ rest. cond (p x) (x ∷ rest) rest) (filter_remove xs at d (omega arith) fails)

module _ {X : Type 0} (p q : X → Bool) where
  -- one filter after another
  pub filter-filter : (xs : List X) → filter p (filter q xs) ≡ filter (λ x. p x && q x) xs
  filter-filter [] = refl
  filter-filter (x ∷ xs) = grind (arith, filter-filter xs)

  -- two tests that agree on each element keep the same
  pub filter_agree_on : (xs : List X) → All (λ x. p x ≡ q x) xs → filter p xs ≡ filter q xs
  filter_agree_on [] same = refl
  filter_agree_on (x ∷ xs) same =
      grind (
        arith,
        All-head (λ y. p y ≡ q y) x xs same,
        filter_agree_on xs (All-tail (λ y. p y ≡ q y) x xs same),
      )
