-- What a search of a list finds: the first element that passes a test.
use Rattle.std.proofs.Common.{◌≡◌, ◌∙◌, ℕ, ◌≤◌, Bool, true, false, cond, List, [], ◌∷◌, Option, Some, None, is_some, map, length, refl, ap, subst, suc, arith}
use Rattle.std.proofs.lemmas.Bool.Decides.{nat_tests}
use Rattle.std.proofs.lemmas.List.Elements.{All-head, All-tail}
use Rattle.std.proofs.lemmas.List.Folds.{find_at}
use Rattle.std.proofs.lemmas.Option.{slice_get_past}
use Rattle.std.specs.List.{Contains, list_any, position_or_len}
use Rattle.std.specs.Option.{option_map}
use Rattle.std.specs.Prelude.{All, IfSome, filter, find, nat_lt, position, slice_get}

module _ {X : Type 0} (p : X → Bool) where
  -- what is found passes
  pub find_passes : (xs : List X) (x : X) → find p xs ≡ Some x → p x ≡ true
  find_passes [] x is = absurd cc
  find_passes (y ∷ ys) x is = grind (arith, is, find_passes ys x)

  -- where all fail, none is found
  pub find_none : (xs : List X) → All (λ x. p x ≡ false) xs → find p xs ≡ None
  find_none [] each = refl
  find_none (x ∷ xs) each =
      grind (
        arith,
        All-head (λ y. p y ≡ false) x xs each,
        find_none xs (All-tail (λ y. p y ≡ false) x xs each),
      )

  -- it is found exactly where one passes
  pub is_some-find : (xs : List X) → is_some (find p xs) ≡ list_any p xs
  is_some-find [] = refl
  is_some-find (x ∷ xs) = grind (arith, is_some-find xs)

  -- what is found is the first of those that pass
  pub find-head : (xs : List X) → find p xs ≡ slice_get (filter p xs) 0
  find-head [] = refl
  find-head (x ∷ xs) = grind (arith, find-head xs)

  pub find_from_filter : (x : X) (xs zs : List X) → filter p xs ≡ x ∷ zs → find p xs ≡ Some x
  find_from_filter x xs zs is = find-head xs ∙ ap (λ ys. slice_get ys 0) is

  pub none_from_filter : (xs : List X) → filter p xs ≡ [] → find p xs ≡ None
  none_from_filter xs is = find-head xs ∙ ap (λ ys. slice_get ys 0) is

  -- and where none is found, none passes
  pub filter_from_find : (xs : List X) → find p xs ≡ None → filter p xs ≡ []
  filter_from_find [] none = refl
  filter_from_find (x ∷ xs) none = grind (arith, none, filter_from_find xs)

  -- what is found is one of the list
  pub Contains-find : (xs : List X) (x : X) → find p xs ≡ Some x → Contains xs x
  Contains-find [] x is = absurd cc
  Contains-find (y ∷ ys) x is = by (p y) is (Contains-find ys x)
    where
      by : (b : Bool) → cond b (Some y) (find p ys) ≡ Some x → (find p ys ≡ Some x → Contains ys x)
          → Contains (y ∷ ys) x
      by true same later = (0, omega arith, cc)
      by false same later = let rest = later same in (suc rest.0, omega (arith, rest.1), rest.2)

  -- what is true of each element is true of the one that is found
  pub All-find : (P : X → Type 0) (xs : List X) (x : X) → All P xs → find p xs ≡ Some x → P x
  All-find P [] x each is = absurd cc
  All-find P (y ∷ ys) x each is = by (p y) is (All-find P ys x (All-tail P y ys each))
    where
      by : (b : Bool) → cond b (Some y) (find p ys) ≡ Some x → (find p ys ≡ Some x → P x) → P x
      by true same later = let e : y ≡ x = cc in subst P e (All-head P y ys each)
      by false same later = later same

  -- and so it is of an optional one, which passes
  pub IfSome-find : (P : X → Type 0) (xs : List X) → All P xs → IfSome (find p xs) (λ x. P x × (p x ≡ true))
  IfSome-find P xs each = by (find p xs) refl
    where
      by : (found : Option X) → find p xs ≡ found → IfSome found (λ x. P x × (p x ≡ true))
      by None none = tt
      by (Some x) some = (All-find P xs x each some, find_passes xs x some)

  -- a search among what a map makes
  pub find-map : {Y : Type 0} (f : Y → X) (ys : List Y)
      → find p (map f ys) ≡ option_map f (find (λ y. p (f y)) ys)
  find-map f [] = refl
  find-map f (y ∷ ys) = grind (arith, find-map f ys)

  past : (a b : ℕ) → cond (nat_lt a b) (Some a) None ≡ None → b ≤ a
  past a b none = grind (arith, nat_tests)

  -- where no place is found, no element is
  pub find_from_position : (xs : List X) → position p xs ≡ None → find p xs ≡ None
  find_from_position xs none =
      find_at p xs ∙ slice_get_past xs (position_or_len p xs) (past (position_or_len p xs) (length xs) none)

module _ {X : Type 0} (p q : X → Bool) where
  -- elements that a search does not look for may go
  pub find_wider : ((x : X) → p x ≡ true → q x ≡ true) → (xs : List X) → find p (filter q xs) ≡ find p xs
  find_wider wider [] = refl
  find_wider wider (x ∷ xs) = grind (arith, wider x, find_wider wider xs)

  -- what a search found, a narrower one finds too if it passes there
  pub find_narrower : ((x : X) → q x ≡ true → p x ≡ true) → (xs : List X) (x : X) → find p xs ≡ Some x
      → q x ≡ true → find q xs ≡ Some x
  find_narrower narrower [] x is passes = absurd cc
  find_narrower narrower (y ∷ ys) x is passes =
      grind (arith, is, passes, narrower y, find_narrower narrower ys x)

  -- and where the wider one finds nothing, neither does the narrower
  pub find_narrower_none : ((x : X) → q x ≡ true → p x ≡ true) → (xs : List X) → find p xs ≡ None
      → find q xs ≡ None
  find_narrower_none narrower [] none = refl
  find_narrower_none narrower (y ∷ ys) none = grind (arith, none, narrower y, find_narrower_none narrower ys)

  -- two tests that agree on each element find the same
  pub find_agree : (xs : List X) → All (λ x. p x ≡ q x) xs → find p xs ≡ find q xs
  find_agree [] same = refl
  find_agree (x ∷ xs) same =
      grind (arith, All-head (λ y. p y ≡ q y) x xs same, find_agree xs (All-tail (λ y. p y ≡ q y) x xs same))
