-- Lists in which a relation holds between each element and all that follow it, and what a list has.
use Rattle.std.proofs.Common.{◌≡◌, ◌∙◌, zero, suc, Bool, true, false, cond, List, [], ◌∷◌, ◌++◌, map, refl, sym, ap, subst, arith, inl, inr, ⊎_elim}
use Rattle.std.proofs.lemmas.Bool.{false≢true}
use Rattle.std.proofs.lemmas.List.Elements.{All-append, All-head, All-map, All-tail, All-weaker}
use Rattle.std.proofs.lemmas.List.Kept.{AllPairs-cons}
use Rattle.std.specs.List.{AllPairs, Contains}
use Rattle.std.specs.Prelude.{All, filter, ◌⊎◌}

module _ {X : Type 0} (R : X → X → Type 0) where
  -- the first stands so to all that follow it
  pub AllPairs-head : (x : X) (xs : List X) → AllPairs R (x ∷ xs) → All (R x) xs
  AllPairs-head x xs pairs = λ k d within. pairs 0 (suc k) d (omega arith) (omega arith)

  -- and so do those to one another
  pub AllPairs-tail : (x : X) (xs : List X) → AllPairs R (x ∷ xs) → AllPairs R xs
  AllPairs-tail x xs pairs = λ i j d before within. pairs (suc i) (suc j) d (omega arith) (omega arith)

  pub AllPairs-nil : AllPairs R []
  AllPairs-nil = λ i j d before within. absurd (omega arith)

  -- two such lists, each element of the first standing so to each of the second
  pub AllPairs-append : (xs ys : List X) → AllPairs R xs → AllPairs R ys → All (λ x. All (R x) ys) xs
      → AllPairs R (xs ++ ys)
  AllPairs-append [] ys first second across = second
  AllPairs-append (x ∷ xs) ys first second across =
      let P : X → Type 0 = λ y. All (R y) ys in
      AllPairs-cons R x (xs ++ ys)
      (All-append (R x) xs ys (AllPairs-head x xs first) (All-head P x xs across))
      (AllPairs-append xs ys (AllPairs-tail x xs first) second (All-tail P x xs across))

-- such a list stays one under a map that keeps the relation
pub AllPairs-map : {X Y : Type 0} (R : X → X → Type 0) (S : Y → Y → Type 0) (f : X → Y)
    → ((x y : X) → R x y → S (f x) (f y)) → (xs : List X) → AllPairs R xs → AllPairs S (map f xs)
AllPairs-map R S f keeps [] pairs = AllPairs-nil S
AllPairs-map R S f keeps (x ∷ xs) pairs =
    AllPairs-cons S (f x) (map f xs)
    (All-map (S (f x)) f xs
    (All-weaker (R x) (λ y. S (f x) (f y)) (λ y. keeps x y) xs (AllPairs-head R x xs pairs)))
    (AllPairs-map R S f keeps xs (AllPairs-tail R x xs pairs))

module _ {X : Type 0} where
  -- a list has its first element
  pub Contains-first : (x : X) (xs : List X) → Contains (x ∷ xs) x
  Contains-first x xs = (0, omega arith, refl)

  -- and what its rest has
  pub Contains-later : (x y : X) (xs : List X) → Contains xs x → Contains (y ∷ xs) x
  Contains-later x y xs (at, within, is) = (suc at, omega arith, is)

  -- what a list has is its first element, or its rest has it
  pub Contains-cases : (x y : X) (xs : List X) → Contains (y ∷ xs) x → (y ≡ x) ⊎ Contains xs x
  Contains-cases x y xs (zero, within, is) = inl is
  Contains-cases x y xs (suc at, within, is) = inr (at, omega arith, is)

  -- a filter keeps what passes
  pub Contains-filter : (p : X → Bool) (x : X) (xs : List X) → Contains xs x → p x ≡ true
      → Contains (filter p xs) x
  Contains-filter p x [] (at, within, is) passes = absurd (omega arith)
  Contains-filter p x (y ∷ ys) has passes =
      elim (p y) as (λ kept. p y ≡ kept → Contains (cond kept (y ∷ filter p ys) (filter p ys)) x) [
        | true ↦ λ kept. ⊎_elim (λ is.
            subst (λ z. Contains (z ∷ filter p ys) x) (sym is) (Contains-first x (filter p ys)))
            (λ later. Contains-later x y (filter p ys) (Contains-filter p x ys later passes))
            (Contains-cases x y ys has)
        | false ↦ λ fails. ⊎_elim (λ is. absurd (false≢true (sym fails ∙ ap p is ∙ passes)))
            (λ later. Contains-filter p x ys later passes) (Contains-cases x y ys has)
      ] refl

-- a map has what it makes of an element
pub Contains-map : {X Y : Type 0} (f : X → Y) (x : X) (xs : List X) → Contains xs x
    → Contains (map f xs) (f x)
Contains-map f x [] (at, within, is) = absurd (omega arith)
Contains-map f x (y ∷ ys) has =
    ⊎_elim (λ is. subst (λ z. Contains (f z ∷ map f ys) (f x)) (sym is) (Contains-first (f x) (map f ys)))
    (λ later. Contains-later (f x) (f y) (map f ys) (Contains-map f x ys later)) (Contains-cases x y ys has)
