-- What stands in slots, each at its number.
use Rattle.std.proofs.Common.{◌≡◌, ℕ, ◌+◌, ◌<◌, ◌≤◌, ◌==◌, Bool, true, false, List, [], ◌∷◌, ◌++◌, Option, Some, None, All, cond, map, refl, ap, sym, arith, get_or, length, replicate, slice_set, suc, zero}
use Rattle.std.specs.List.{AllPairs}
use Rattle.std.specs.Prelude.{count_by, filter, find, not, option_map}
use Rattle.std.proofs.lemmas.Bool.Decides.{nat_tests}
use Rattle.std.proofs.lemmas.List.Elements.{All-cons, All-head, All-nil, All-tail, All-weaker}
use Rattle.fan_lists.proofs.Counts.{count_by-cons}
use Rattle.fan_lists.proofs.Filters.{filter_all}
use Rattle.fan_lists.proofs.Pairs.{AllPairs-head, AllPairs-tail}
use Rattle.fan_tree.specs.Slots.{in_slots}

-- what was found, and where it stands
pub record StandsAt {A B : Type 0} (make : ℕ → A → B) (first : ℕ) (slots : List (Option A)) (found : B) : Type 0 where
  pub index : ℕ
  pub one : A
  pub there : get_or slots index None ≡ Some one
  pub is : make (first + index) one ≡ found

-- a change of one element where it has a number
abbrev pub replaced : {A B : Type 0} → (ℕ → A → B) → (B → ℕ) → ℕ → A → B → B
replaced make key number new one = cond (key one == number) (make number new) one

-- a slot that holds something is one of the slots
pub slot_within : {A : Type 0} (slots : List (Option A)) (index : ℕ) (one : A)
    → get_or slots index None ≡ Some one → index < length slots
slot_within [] index one there = absurd (cc)
slot_within (slot ∷ more) zero one there = omega arith
slot_within (slot ∷ more) (suc index) one there = omega (arith, slot_within more index one there)

module _ {A B : Type 0} (make : ℕ → A → B) where
  -- empty slots behind others add nothing
  pub in_slots-empty : (first count : ℕ) → in_slots make first (replicate count None) ≡ []
  in_slots-empty first zero = refl
  in_slots-empty first (suc count) = in_slots-empty (first + 1) count

  pub in_slots-pad : (first count : ℕ) (slots : List (Option A))
      → in_slots make first (slots ++ replicate count None) ≡ in_slots make first slots
  in_slots-pad first count [] = in_slots-empty first count
  in_slots-pad first count (None ∷ more) = in_slots-pad (first + 1) count more
  in_slots-pad first count (Some one ∷ more) =
      ap (λ rest. make first one ∷ rest) (in_slots-pad (first + 1) count more)

  -- there are no more of them than slots
  pub in_slots-few : (first : ℕ) (slots : List (Option A)) → length (in_slots make first slots) ≤ length slots
  in_slots-few first [] = omega arith
  in_slots-few first (None ∷ more) = omega (arith, in_slots-few (first + 1) more)
  in_slots-few first (Some one ∷ more) = omega (arith, in_slots-few (first + 1) more)

  -- what holds of all holds of the one in a slot
  pub All-in_slots : (P : B → Type 0) (first number index : ℕ) (slots : List (Option A)) (one : A)
      → first + index ≡ number → All P (in_slots make first slots) → get_or slots index None ≡ Some one
      → P (make number one)
  All-in_slots P first number index [] one is each there = absurd (cc)
  All-in_slots P first number zero (None ∷ more) one is each there = absurd (cc)
  All-in_slots P first number (suc index) (None ∷ more) one is each there =
      All-in_slots P (first + 1) number index more one (omega (arith, is)) each there
  All-in_slots P first number zero (Some other ∷ more) one is each there =
      let same : first ≡ number = omega (arith, is) in
      let here : other ≡ one = cc in
      rw (← same, ← here) (All-head P (make first other) (in_slots make (first + 1) more) each)
  All-in_slots P first number (suc index) (Some other ∷ more) one is each there =
      All-in_slots P (first + 1) number index more one (omega (arith, is))
      (All-tail P (make first other) (in_slots make (first + 1) more) each) there

  -- what holds of the one in each slot holds of all
  pub All-from_slots : (P : B → Type 0) (first : ℕ) (slots : List (Option A))
      → ((number index : ℕ) (one : A) → first + index ≡ number → get_or slots index None ≡ Some one
      → P (make number one))
      → All P (in_slots make first slots)
  All-from_slots P first [] each = All-nil P
  All-from_slots P first (None ∷ more) each =
      All-from_slots P (first + 1) more
      (λ number index one is there. each number (suc index) one (omega (arith, is)) there)
  All-from_slots P first (Some one ∷ more) each =
      All-cons P (make first one) (in_slots make (first + 1) more) (each first 0 one (omega arith) refl)
      (All-from_slots P (first + 1) more
      (λ number index one is there. each number (suc index) one (omega (arith, is)) there))

  -- and what holds of each two
  pub AllPairs-in_slots : (R : B → B → Type 0) (first i j : ℕ) (slots : List (Option A)) (one other : A)
      → AllPairs R (in_slots make first slots) → i < j → get_or slots i None ≡ Some one
      → get_or slots j None ≡ Some other → R (make (first + i) one) (make (first + j) other)
  AllPairs-in_slots R first i j [] one other each below a b = absurd (cc)
  AllPairs-in_slots R first i zero (slot ∷ more) one other each below a b = absurd (omega (arith, below))
  AllPairs-in_slots R first zero (suc j) (None ∷ more) one other each below a b = absurd (cc)
  AllPairs-in_slots R first zero (suc j) (Some two ∷ more) one other each below a b =
      let here : two ≡ one = cc in
      let at : R (make first two) (make (first + suc j) other) =
      All-in_slots (R (make first two)) (first + 1) (first + suc j) j more other (omega arith)
      (AllPairs-head R (make first two) (in_slots make (first + 1) more) each) b in
      let zeroth : first + 0 ≡ first = omega arith in
      rw (zeroth, ← here) at
  AllPairs-in_slots R first (suc i) (suc j) (None ∷ more) one other each below a b =
      let at = AllPairs-in_slots R (first + 1) i j more one other each (omega (arith, below)) a b in
      let left : first + 1 + i ≡ first + suc i = omega arith in
      let right : first + 1 + j ≡ first + suc j = omega arith in
      rw (left, right) at at
  AllPairs-in_slots R first (suc i) (suc j) (Some two ∷ more) one other each below a b =
      let at = AllPairs-in_slots R (first + 1) i j more one other
      (AllPairs-tail R (make first two) (in_slots make (first + 1) more) each) (omega (arith, below)) a b in
      let left : first + 1 + i ≡ first + suc i = omega arith in
      let right : first + 1 + j ≡ first + suc j = omega arith in
      rw (left, right) at at

module _ {A B : Type 0} (make : ℕ → A → B) (p : B → Bool) where
  -- how often the one in a slot is counted
  abbrev pub counted : ℕ → Option A → ℕ
  counted number None = 0
  counted number (Some one) = cond (p (make number one)) 1 0

  -- what is found stands in a slot
  pub find-in_slots : (first : ℕ) (slots : List (Option A)) (found : B)
      → find p (in_slots make first slots) ≡ Some found → StandsAt make first slots found
  find-in_slots first [] found is = absurd (cc)
  find-in_slots first (None ∷ more) found is =
      let rest = find-in_slots (first + 1) more found is in
      let number : first + suc rest.index ≡ first + 1 + rest.index = omega arith in
      record { index = suc rest.index; one = rest.one; there = rest.there; is = rw number rest.is }
  find-in_slots first (Some one ∷ more) found is =
      by (p (make first one)) is (find-in_slots (first + 1) more found)
    where
      by : (b : Bool) → cond b (Some (make first one)) (find p (in_slots make (first + 1) more)) ≡ Some found
          → (find p (in_slots make (first + 1) more) ≡ Some found → StandsAt make (first + 1) more found)
          → StandsAt make first (Some one ∷ more) found
      by true is behind =
          let number : first + 0 ≡ first = omega arith in
          record { index = 0; one = one; there = refl; is = rw number (cc) }
      by false is behind =
          let rest = behind is in
          let number : first + suc rest.index ≡ first + 1 + rest.index = omega arith in
          record { index = suc rest.index; one = rest.one; there = rest.there; is = rw number rest.is }

  -- what passes is found if no two pass
  pub find_only : (R : B → B → Type 0) → ((x y : B) → R x y → p x ≡ true → p y ≡ true → ⊥)
      → (first number index : ℕ) (slots : List (Option A)) (one : A)
      → first + index ≡ number → AllPairs R (in_slots make first slots) → get_or slots index None ≡ Some one
      → p (make number one) ≡ true → find p (in_slots make first slots) ≡ Some (make number one)
  find_only R apart first number index [] one is each there passes = absurd (cc)
  find_only R apart first number zero (None ∷ more) one is each there passes = absurd (cc)
  find_only R apart first number (suc index) (None ∷ more) one is each there passes =
      find_only R apart (first + 1) number index more one (omega (arith, is)) each there passes
  find_only R apart first number zero (Some other ∷ more) one is each there passes =
      let same : first ≡ number = omega (arith, is) in
      let here : other ≡ one = cc in
      rw (same, here, passes) refl
  find_only R apart first number (suc index) (Some other ∷ more) one is each there passes =
      by (p (make first other)) refl
      (find_only R apart (first + 1) number index more one (omega (arith, is))
      (AllPairs-tail R (make first other) (in_slots make (first + 1) more) each) there passes)
    where
      differs : R (make first other) (make number one)
      differs = All-in_slots make (R (make first other)) (first + 1) number index more one (omega (arith, is))
          (AllPairs-head R (make first other) (in_slots make (first + 1) more) each) there

      by : (b : Bool) → p (make first other) ≡ b
          → find p (in_slots make (first + 1) more) ≡ Some (make number one)
          → cond b (Some (make first other)) (find p (in_slots make (first + 1) more)) ≡ Some (make number one)
      by true also rest = absurd (apart (make first other) (make number one) differs also passes)
      by false fails rest = rest

  -- a slot that is written counts for what stood in it
  pub count_by-set : (first number index : ℕ) (slots : List (Option A)) (new : Option A)
      → first + index ≡ number → index < length slots
      → count_by p (in_slots make first (slice_set slots index new)) + counted number (get_or slots index None)
      ≡ count_by p (in_slots make first slots) + counted number new
  count_by-set first number index [] new is within = absurd (omega (arith, within))
  count_by-set first number zero (slot ∷ more) new is within =
      let same : first ≡ number = omega (arith, is) in
      rw (same, first_counted number slot more, first_counted number new more) (omega arith)
    where
      first_counted : (number : ℕ) (slot : Option A) (more : List (Option A))
          → count_by p (in_slots make number (slot ∷ more))
          ≡ counted number slot + count_by p (in_slots make (number + 1) more)
      first_counted number None more = omega arith
      first_counted number (Some one) more = count_by-cons p (make number one) (in_slots make (number + 1) more)
  count_by-set first number (suc index) (None ∷ more) new is within =
      count_by-set (first + 1) number index more new (omega (arith, is)) (omega (arith, within))
  count_by-set first number (suc index) (Some one ∷ more) new is within =
      let rest = count_by-set (first + 1) number index more new (omega (arith, is)) (omega (arith, within)) in
      let old = count_by-cons p (make first one) (in_slots make (first + 1) more) in
      let now = count_by-cons p (make first one) (in_slots make (first + 1) (slice_set more index new)) in
      omega (arith, rest, old, now)

module _ {A B : Type 0} (make : ℕ → A → B) (key : B → ℕ) (keyed : (number : ℕ) (one : A) → key (make number one) ≡ number) where
  -- slots have nothing below their first number
  pub find_below : (first number : ℕ) (slots : List (Option A))
      → number < first → find (λ one. key one == number) (in_slots make first slots) ≡ None
  find_below first number [] below = refl
  find_below first number (None ∷ more) below = find_below (first + 1) number more (omega (arith, below))
  find_below first number (Some one ∷ more) below =
      let differs : (key (make first one) == number) ≡ false = grind (arith, nat_tests, keyed first one) in
      rw differs (find_below (first + 1) number more (omega (arith, below)))

  -- what has a number stands in its slot
  pub find_at : (first number index : ℕ) (slots : List (Option A)) → first + index ≡ number
      → find (λ one. key one == number) (in_slots make first slots)
      ≡ option_map (make number) (get_or slots index None)
  find_at first number index [] is = refl
  find_at first number zero (None ∷ more) is = find_below (first + 1) number more (omega (arith, is))
  find_at first number (suc index) (None ∷ more) is = find_at (first + 1) number index more (omega (arith, is))
  find_at first number zero (Some one ∷ more) is =
      let same : first ≡ number = omega (arith, is) in
      let here : (key (make number one) == number) ≡ true = grind (arith, nat_tests, keyed number one) in
      rw (same, here) refl
  find_at first number (suc index) (Some one ∷ more) is =
      let differs : (key (make first one) == number) ≡ false = grind (arith, nat_tests, keyed first one) in
      rw differs (find_at (first + 1) number index more (omega (arith, is)))

  -- slots that have nothing from their first number on are empty
  in_slots-none : (first number : ℕ) (slots : List (Option A)) → number ≤ first
      → All (λ one. key one < number) (in_slots make first slots) → in_slots make first slots ≡ []
  in_slots-none first number [] above below = refl
  in_slots-none first number (None ∷ more) above below =
      in_slots-none (first + 1) number more (omega (arith, above)) below
  in_slots-none first number (Some one ∷ more) above below =
      let here = All-head (λ (one : B). key one < number) _ _ below in
      absurd (omega (arith, here, above, keyed first one))

  -- what has a number above all others comes last
  pub in_slots-last : (first number index : ℕ) (slots : List (Option A)) (new : A)
      → first + index ≡ number → index < length slots → All (λ one. key one < number) (in_slots make first slots)
      → in_slots make first (slice_set slots index (Some new)) ≡ in_slots make first slots ++ make number new ∷ []
  in_slots-last first number index [] new is within below = absurd (omega (arith, within))
  in_slots-last first number zero (None ∷ more) new is within below =
      let none = in_slots-none (first + 1) number more (omega (arith, is)) below in
      let same : first ≡ number = omega (arith, is) in
      rw (none, same) refl
  in_slots-last first number (suc index) (None ∷ more) new is within below =
      in_slots-last (first + 1) number index more new (omega (arith, is)) (omega (arith, within)) below
  in_slots-last first number zero (Some other ∷ more) new is within below =
      let here = All-head (λ (one : B). key one < number) _ _ below in
      absurd (omega (arith, here, is, keyed first other))
  in_slots-last first number (suc index) (Some other ∷ more) new is within below =
      let rest = All-tail (λ (one : B). key one < number) _ _ below in
      ap (λ rest. make first other ∷ rest)
      (in_slots-last (first + 1) number index more new (omega (arith, is)) (omega (arith, within)) rest)

  -- all of them have numbers from the first slot's on
  numbers_from : (first : ℕ) (slots : List (Option A)) → All (λ one. first ≤ key one) (in_slots make first slots)
  numbers_from first [] = All-nil (λ (one : B). first ≤ key one)
  numbers_from first (None ∷ more) =
      All-weaker (λ (one : B). first + 1 ≤ key one) (λ one. first ≤ key one) (λ one above. omega (arith, above))
      (in_slots make (first + 1) more) (numbers_from (first + 1) more)
  numbers_from first (Some one ∷ more) =
      All-cons (λ (one : B). first ≤ key one) (make first one) (in_slots make (first + 1) more)
      (omega (arith, keyed first one))
      (All-weaker (λ (one : B). first + 1 ≤ key one) (λ one. first ≤ key one) (λ one above. omega (arith, above))
      (in_slots make (first + 1) more) (numbers_from (first + 1) more))

  -- those behind a slot are others
  others : (first number : ℕ) (more : List (Option A)) → first ≡ number
      → All (λ one. (key one == number) ≡ false) (in_slots make (first + 1) more)
  others first number more is =
      All-weaker (λ (one : B). first + 1 ≤ key one) (λ one. (key one == number) ≡ false)
      (λ one above. grind (arith, nat_tests, above, is)) (in_slots make (first + 1) more)
      (numbers_from (first + 1) more)

  -- a slot that is emptied takes what stood in it away
  pub in_slots-emptied : (first number index : ℕ) (slots : List (Option A)) → first + index ≡ number
      → in_slots make first (slice_set slots index None)
      ≡ filter (λ one. not (key one == number)) (in_slots make first slots)
  in_slots-emptied first number index [] is = refl
  in_slots-emptied first number zero (slot ∷ more) is =
      let same : first ≡ number = omega (arith, is) in
      let stay : filter (λ one. not (key one == number)) (in_slots make (first + 1) more)
      ≡ in_slots make (first + 1) more =
      filter_all (λ one. not (key one == number)) (in_slots make (first + 1) more)
      (All-weaker (λ (one : B). (key one == number) ≡ false) (λ one. not (key one == number) ≡ true)
      (λ one other. ap not other) (in_slots make (first + 1) more) (others first number more same)) in
      sym (by slot same stay)
    where
      by : (slot : Option A) → first ≡ number
          → filter (λ one. not (key one == number)) (in_slots make (first + 1) more)
          ≡ in_slots make (first + 1) more
          → filter (λ one. not (key one == number)) (in_slots make first (slot ∷ more))
          ≡ in_slots make (first + 1) more
      by None same stay = stay
      by (Some one) same stay =
          let here : (key (make first one) == number) ≡ true = grind (arith, nat_tests, keyed first one) in
          rw here stay
  in_slots-emptied first number (suc index) (None ∷ more) is =
      in_slots-emptied (first + 1) number index more (omega (arith, is))
  in_slots-emptied first number (suc index) (Some one ∷ more) is =
      let differs : (key (make first one) == number) ≡ false = grind (arith, nat_tests, keyed first one) in
      rw differs
      (ap (λ rest. make first one ∷ rest) (in_slots-emptied (first + 1) number index more (omega (arith, is))))

  -- others stay as they are when one is replaced
  map-others : (number : ℕ) (new : A) (all : List B) → All (λ one. (key one == number) ≡ false) all
      → map (replaced make key number new) all ≡ all
  map-others number new [] each = refl
  map-others number new (one ∷ more) each =
      let here = All-head (λ (one : B). (key one == number) ≡ false) one more each in
      rw here
      (ap (λ rest. one ∷ rest) (map-others number new more (All-tail (λ (one : B). (key one == number) ≡ false) one more each)))

  -- what comes into the slot of another replaces it
  pub in_slots-replaced : (first number index : ℕ) (slots : List (Option A)) (old new : A)
      → first + index ≡ number → get_or slots index None ≡ Some old
      → in_slots make first (slice_set slots index (Some new))
      ≡ map (replaced make key number new) (in_slots make first slots)
  in_slots-replaced first number index [] old new is there = absurd (cc)
  in_slots-replaced first number zero (None ∷ more) old new is there = absurd (cc)
  in_slots-replaced first number zero (Some one ∷ more) old new is there =
      let same : first ≡ number = omega (arith, is) in
      let here : (key (make first one) == number) ≡ true = grind (arith, nat_tests, keyed first one) in
      rw (here, map-others number new (in_slots make (first + 1) more) (others first number more same), same) refl
  in_slots-replaced first number (suc index) (None ∷ more) old new is there =
      in_slots-replaced (first + 1) number index more old new (omega (arith, is)) there
  in_slots-replaced first number (suc index) (Some one ∷ more) old new is there =
      let differs : (key (make first one) == number) ≡ false = grind (arith, nat_tests, keyed first one) in
      rw differs
      (ap (λ rest. make first one ∷ rest)
      (in_slots-replaced (first + 1) number index more old new (omega (arith, is)) there))
