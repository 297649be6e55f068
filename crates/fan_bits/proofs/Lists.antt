-- Lists and what filters, searches and maps make of them.
use Rattle.std.proofs.Common.{◌≡◌, ◌∙◌, Bool, true, List, [], ◌∷◌, map, refl, sym, ap, arith, subst, ⊎_elim}
use Rattle.std.specs.Prelude.{filter}
use Rattle.std.specs.List.{Contains, list_any}
use Rattle.std.proofs.lemmas.Bool.{cond_both}
use Rattle.fan_lists.proofs.Pairs.{Contains-cases, Contains-first, Contains-later}

module _ {X : Type 0} where
  -- nothing is in an empty list
  pub Contains-nil : (x : X) → Contains [] x → ⊥
  Contains-nil x (at, within, is) = omega arith

  -- what a filter keeps was in the list, and passes
  pub Contains-filtered : (p : X → Bool) (x : X) (xs : List X) → Contains (filter p xs) x
      → Contains xs x × (p x ≡ true)
  Contains-filtered p x [] has = absurd (Contains-nil x has)
  Contains-filtered p x (y ∷ ys) has =
      let Kept : Type 0 = Contains (y ∷ ys) x × (p x ≡ true) in
      let later : Contains (filter p ys) x → Kept = λ there.
      let found = Contains-filtered p x ys there in (Contains-later x y ys found.0, found.1) in
      cond_both (p y) (y ∷ filter p ys) (filter p ys) (λ kept. Contains kept x → Kept)
      (λ passes there. ⊎_elim
      (λ is. (subst (λ z. Contains (y ∷ ys) z) is (Contains-first y ys), ap p (sym is) ∙ passes)) later
      (Contains-cases x y (filter p ys) there))
      (λ fails there. later there) has

  -- elements that a test fails may go where it is asked whether one passes
  pub any_wider : (p q : X → Bool) → ((x : X) → q x ≡ true → p x ≡ true) → (xs : List X)
      → list_any q (filter p xs) ≡ list_any q xs
  any_wider p q implies [] = refl
  any_wider p q implies (x ∷ xs) = grind (arith, implies x, any_wider p q implies xs)

  -- two filters change places
  pub filters_swap : (p q : X → Bool) (xs : List X) → filter p (filter q xs) ≡ filter q (filter p xs)
  filters_swap p q [] = refl
  filters_swap p q (x ∷ xs) = grind (arith, filters_swap p q xs)

  -- tests that agree on what passes another keep the same of it
  pub filter_within : (p q within : X → Bool) → ((x : X) → within x ≡ true → p x ≡ q x) → (xs : List X)
      → filter p (filter within xs) ≡ filter q (filter within xs)
  filter_within p q within agree [] = refl
  filter_within p q within agree (x ∷ xs) = grind (arith, agree x, filter_within p q within agree xs)

-- what a map has, it makes of an element
pub Contains-mapped : {A B : Type 0} (f : A → B) (y : B) (xs : List A) → Contains (map f xs) y
    → (x : A) × Contains xs x × (f x ≡ y)
Contains-mapped f y [] has = absurd (Contains-nil y has)
Contains-mapped f y (x ∷ xs) has =
    ⊎_elim (λ is. (x, Contains-first x xs, is))
    (λ later. let rest = Contains-mapped f y xs later in (rest.0, Contains-later rest.0 x xs rest.1, rest.2))
    (Contains-cases y (f x) (map f xs) has)
