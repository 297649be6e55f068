-- Lists whose elements rise by a key, and the elements behind a key.
use Rattle.std.proofs.Common.{◌≡◌, ℕ, ◌<◌, ◌≤◌, Bool, true, List, [], ◌∷◌, Some, None, zero, suc, map, get_or, ◌+◌, refl, sym, ap, arith, inl, inr, ⊎_elim}
use Rattle.std.specs.Prelude.{All, filter, find, nat_lt, ◌⊎◌}
use Rattle.std.specs.List.{Contains}
use Rattle.std.specs.List.Sorted.{IsStrictlyIncreasing}
use Rattle.std.proofs.lemmas.Bool.{cond_both}
use Rattle.std.proofs.lemmas.Bool.Decides.{nat_tests}
use Rattle.std.proofs.lemmas.List.Elements.{All-contains, All-head, All-tail, All-weaker}
use Rattle.fan_lists.proofs.Filters.{filter_all}
use Rattle.fan_lists.proofs.Finds.{find_passes}
use Rattle.fan_lists.proofs.Pairs.{Contains-cases}
use Rattle.fan_bits.proofs.Lists.{Contains-nil}

-- each element has a lesser key than all that follow it
abbrev pub RisesBy : {X : Type 0} → (X → ℕ) → List X → Type 0
RisesBy key [] = Unit {0}
RisesBy key (x ∷ xs) = All (λ y. key x < key y) xs × RisesBy key xs

module _ {X : Type 0} (key : X → ℕ) where
  -- its keys rise
  pub increasing : (xs : List X) → RisesBy key xs → IsStrictlyIncreasing (map key xs)
  increasing [] rises k within = absurd (omega arith)
  increasing (x ∷ []) rises k within = absurd (omega arith)
  increasing (x ∷ y ∷ ys) rises zero within = All-head (λ z. key x < key z) y ys rises.0
  increasing (x ∷ y ∷ ys) rises (suc k) within =
      let next : suc k + 1 ≡ suc (k + 1) = omega arith in
      rw next (increasing (y ∷ ys) rises.1 k (omega arith))

  -- an element behind the first is in the rest
  in_rest : (x y : X) (ys : List X) → Contains (y ∷ ys) x → key y < key x → Contains ys x
  in_rest x y ys has behind =
      ⊎_elim (λ is. let same : key y ≡ key x = ap key is in absurd (omega arith)) (λ later. later)
      (Contains-cases x y ys has)

  -- the first elements of two such lists with the same elements are one
  same_first : (x y : X) (xs ys : List X) → All (λ z. key x < key z) xs → All (λ z. key y < key z) ys
      → Contains (y ∷ ys) x → Contains (x ∷ xs) y → x ≡ y
  same_first x y xs ys after others there back =
      ⊎_elim (λ is. sym is) (λ later. ⊎_elim (λ is. is)
      (λ behind. absurd (omega (
        arith,
        All-contains (λ z. key y < key z) ys x others later,
        All-contains (λ z. key x < key z) xs y after behind,
      ))) (Contains-cases y x xs back)) (Contains-cases x y ys there)

  -- two such lists with the same elements are one
  pub same_elements : (xs ys : List X) → RisesBy key xs → RisesBy key ys
      → All (Contains ys) xs → All (Contains xs) ys → xs ≡ ys
  same_elements [] [] rises others there back = refl
  same_elements [] (y ∷ ys) rises others there back =
      absurd (Contains-nil y (All-head (Contains []) y ys back))
  same_elements (x ∷ xs) [] rises others there back =
      absurd (Contains-nil x (All-head (Contains []) x xs there))
  same_elements (x ∷ xs) (y ∷ ys) rises others there back =
      let first : x ≡ y = same_first x y xs ys rises.0 others.0 (All-head (Contains (y ∷ ys)) x xs there)
      (All-head (Contains (x ∷ xs)) y ys back) in
      let same_key : key x ≡ key y = ap key first in
      let rest : xs ≡ ys = same_elements xs ys rises.1 others.1
      (λ k d within. in_rest (get_or xs k d) y ys (All-tail (Contains (y ∷ ys)) x xs there k d within)
      (omega (arith, rises.0 k d within)))
      (λ k d within. in_rest (get_or ys k d) x xs (All-tail (Contains (x ∷ xs)) y ys back k d within)
      (omega (arith, others.0 k d within))) in
      cc

  -- the first element behind a key is a given one behind it, or has a lesser key
  pub find_upto : (after : ℕ) (x : X) (xs : List X) → RisesBy key xs → Contains xs x → after < key x
      → (y : X) × (find (λ y. nat_lt after (key y)) xs ≡ Some y) × ((y ≡ x) ⊎ (key y < key x))
  find_upto after x [] rises (at, within, is) behind = absurd (omega arith)
  find_upto after x (z ∷ zs) rises has behind =
      let test : X → Bool = λ y. nat_lt after (key y) in
      cond_both (test z) (Some z) (find test zs)
      (λ first. (y : X) × (first ≡ Some y) × ((y ≡ x) ⊎ (key y < key x)))
      (λ passes. ⊎_elim (λ is. (z, refl, inl is))
      (λ later. (z, refl, inr (All-contains (λ y. key z < key y) zs x rises.0 later)))
      (Contains-cases x z zs has))
      (λ fails. ⊎_elim (λ is. let same : key z ≡ key x = ap key is in absurd (grind (arith, nat_tests)))
      (λ later. find_upto after x zs rises.1 later behind) (Contains-cases x z zs has))

  -- if nothing stands between two keys, the first behind one is the first behind the other
  pub find_behind : (after order : ℕ) (xs : List X) → after ≤ order
      → All (λ y. after < key y → order < key y) xs
      → find (λ y. nat_lt after (key y)) xs ≡ find (λ y. nat_lt order (key y)) xs
  find_behind after order [] above none = refl
  find_behind after order (z ∷ zs) above none =
      let P : X → Type 0 = λ y. after < key y → order < key y in
      let here : after < key z → order < key z = All-head P z zs none in
      let same : nat_lt after (key z) ≡ nat_lt order (key z) = grind (arith, nat_tests, here) in
      rw (same, find_behind after order zs above (All-tail P z zs none)) refl

  -- if nothing stands behind a key, none is found
  pub find_none : (after : ℕ) (xs : List X) → All (λ y. key y ≤ after) xs
      → find (λ y. nat_lt after (key y)) xs ≡ None
  find_none after [] none = refl
  find_none after (z ∷ zs) none =
      let P : X → Type 0 = λ y. key y ≤ after in
      let here : key z ≤ after = All-head P z zs none in
      grind (arith, nat_tests, find_none after zs (All-tail P z zs none))

  -- all that stand behind a key are kept
  pub all_behind : (after : ℕ) (xs : List X) → All (λ y. after < key y) xs
      → filter (λ y. nat_lt after (key y)) xs ≡ xs
  all_behind after xs behind =
      filter_all (λ y. nat_lt after (key y)) xs
      (All-weaker (λ y. after < key y) (λ y. nat_lt after (key y) ≡ true)
      (λ y here. grind (arith, nat_tests)) xs behind)

  -- what stands behind a key is the first that does, and what stands behind that
  pub filter_first : (after : ℕ) (x : X) (xs : List X) → RisesBy key xs
      → find (λ y. nat_lt after (key y)) xs ≡ Some x
      → filter (λ y. nat_lt after (key y)) xs ≡ x ∷ filter (λ y. nat_lt (key x) (key y)) xs
  filter_first after x [] rises found = absurd cc
  filter_first after x (z ∷ zs) rises found =
      let Behind : ℕ → List X = λ order. filter (λ y. nat_lt order (key y)) (z ∷ zs) in
      cond_both (nat_lt after (key z)) (Some z) (find (λ y. nat_lt after (key y)) zs)
      (λ first. first ≡ Some x → Behind after ≡ x ∷ Behind (key x))
      (λ passes here.
      let is : z ≡ x = cc in
      let behind : after < key z = grind (arith, nat_tests) in
      let above : All (λ y. after < key y) zs = λ k d within. omega (arith, behind, rises.0 k d within) in
      grind (arith, nat_tests, ap key is, all_behind after zs above, all_behind (key z) zs rises.0))
      (λ fails later.
      let passes : nat_lt after (key x) ≡ true =
      find_passes (λ y. nat_lt after (key y)) zs x later in
      grind (arith, nat_tests, filter_first after x zs rises.1 later)) found
