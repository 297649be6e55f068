-- Lists that grow at their end, and numbers that come first in them.
use Rattle.std.proofs.Common.{◌≡◌, ◌∙◌, ℕ, zero, suc, ◌+◌, ◌<◌, ◌≤◌, Bool, true, false, cond, not, ◌||◌, List, [], ◌∷◌, ◌++◌, append_assoc, append-nil, Some, find, refl, ap, sym, arith, ◌==◌}
use Rattle.std.proofs.lemmas.Bool.Decides.{nat_tests}
use Rattle.std.proofs.lemmas.List.Elements.{All-cons, All-head, All-nil, All-tail, All-weaker, filter-append}
use Rattle.std.proofs.lemmas.List.Kept.{AllPairs-cons}
use Rattle.std.specs.List.{AllPairs, flat_map, range_with_len}
use Rattle.std.specs.Prelude.{All, filter}
use Rattle.fan_fates.specs.Fates.{firsts, is_in}
use Rattle.fan_lists.proofs.Pairs.{AllPairs-head, AllPairs-nil, AllPairs-tail}
use Rattle.fan_lists.specs.First.{change_first}

-- ---- one more at the end

pub flat_map_push : {X A : Type 0} (f : X → List A) (xs : List X) (x : X)
    → flat_map f (xs ++ x ∷ []) ≡ flat_map f xs ++ f x
flat_map_push f [] x = append-nil (f x)
flat_map_push f (y ∷ ys) x = rw (flat_map_push f ys x) (sym (append_assoc (f y) (flat_map f ys) (f x)))

pub range_push : (first count : ℕ)
    → range_with_len first (count + 1) ≡ range_with_len first count ++ (first + count) ∷ []
range_push first zero = let here : first ≡ first + 0 = omega arith in ap (λ (n : ℕ). n ∷ []) here
range_push first (suc count) =
    let here : suc count + 1 ≡ suc (count + 1) = omega arith in
    let last : first + 1 + count ≡ first + suc count = omega arith in
    rw (here, range_push (first + 1) count, last) refl

-- ---- the numbers that come first

-- others are among some numbers exactly if they are among those without one
in_others : (x n : ℕ) (xs : List ℕ) → (x == n) ≡ false
    → is_in (filter (λ other. not (other == x)) xs) n ≡ is_in xs n
in_others x n [] differ = refl
in_others x n (y ∷ ys) differ = grind (arith, nat_tests, differ, in_others x n ys differ)

last_of : (x n : ℕ) (seen among : Bool) → ((x == n) ≡ false → among ≡ seen)
    → filter (λ other. not (other == x)) (cond seen [] (n ∷ []))
    ≡ cond {A = List ℕ} ((x == n) || among) [] (n ∷ [])
last_of x n true among same = grind (arith, nat_tests, same)
last_of x n false among same = grind (arith, nat_tests, same)

-- a number more at the end comes first if it isn't there yet
pub firsts_push : (xs : List ℕ) (n : ℕ)
    → firsts (xs ++ n ∷ []) ≡ firsts xs ++ cond {A = List ℕ} (is_in (firsts xs) n) [] (n ∷ [])
firsts_push [] n = refl
firsts_push (x ∷ xs) n =
    let others = λ (other : ℕ). not (other == x) in
    ap (λ rest. x ∷ filter others rest) (firsts_push xs n)
    ∙ ap (λ rest. x ∷ rest)
    (filter-append others (firsts xs) (cond {A = List ℕ} (is_in (firsts xs) n) [] (n ∷ []))
    ∙ ap (λ last. filter others (firsts xs) ++ last)
    (last_of x n (is_in (firsts xs) n) (is_in (filter others (firsts xs)) n) (in_others x n (firsts xs))))

-- ---- a list about one element

-- what a search finds stands between others, and so does what a change makes of it
pub record Split {X : Type 0} (test : X → Bool) (change : X → X) (xs : List X) (x : X) : Type 0 where
  pub before : List X
  pub later : List X
  pub whole : xs ≡ before ++ x ∷ later
  pub edited : change_first test change xs ≡ before ++ change x ∷ later
  pub passes : test x ≡ true

pub found_split : {X : Type 0} (test : X → Bool) (change : X → X) (xs : List X) (x : X)
    → find test xs ≡ Some x → Split test change xs x
found_split test change [] x is = absurd cc
found_split {X} test change (y ∷ ys) x is =
    (elim (test y) as (λ b. test y ≡ b → cond b (Some y) (find test ys) ≡ Some x
    → Split test change (y ∷ ys) x) [
      | true ↦ λ here found. let same : y ≡ x = cc in record {
        before = [];
        later = ys;
        whole = ap (λ (z : X). z ∷ ys) same;
        edited = rw here (ap (λ (z : X). change z ∷ ys) same);
        passes = ap test (sym same) ∙ here;
      }
      | false ↦ λ not_here found.
          let more = found_split test change ys x found in record {
            before = y ∷ more.before;
            later = more.later;
            whole = ap (λ zs. y ∷ zs) more.whole;
            edited = rw not_here (ap (λ zs. y ∷ zs) more.edited);
            passes = more.passes;
          }
    ]) refl is

module _ {X : Type 0} (P : X → Type 0) where
  pub All-first : (xs ys : List X) → All P (xs ++ ys) → All P xs
  All-first [] ys each = All-nil P
  All-first (x ∷ xs) ys each =
      All-cons P x xs (All-head P x (xs ++ ys) each) (All-first xs ys (All-tail P x (xs ++ ys) each))

  pub All-second : (xs ys : List X) → All P (xs ++ ys) → All P ys
  All-second [] ys each = each
  All-second (x ∷ xs) ys each = All-second xs ys (All-tail P x (xs ++ ys) each)

  -- what holds of all, and of one of them
  pub All-middle : (xs ys : List X) (x : X) → All P (xs ++ x ∷ ys) → P x
  All-middle xs ys x each = All-head P x ys (All-second xs (x ∷ ys) each)

module _ {X : Type 0} (R : X → X → Type 0) where
  -- those before one stand so to it, and it to those after it
  pub pairs_before : (xs ys : List X) (x : X) → AllPairs R (xs ++ x ∷ ys) → All (λ other. R other x) xs
  pairs_before [] ys x pairs = All-nil (λ other. R other x)
  pairs_before (y ∷ xs) ys x pairs =
      All-cons (λ other. R other x) y xs
      (All-middle (R y) xs ys x (AllPairs-head R y (xs ++ x ∷ ys) pairs))
      (pairs_before xs ys x (AllPairs-tail R y (xs ++ x ∷ ys) pairs))

  pub pairs_after : (xs ys : List X) (x : X) → AllPairs R (xs ++ x ∷ ys) → All (R x) ys
  pairs_after [] ys x pairs = AllPairs-head R x ys pairs
  pairs_after (y ∷ xs) ys x pairs = pairs_after xs ys x (AllPairs-tail R y (xs ++ x ∷ ys) pairs)

  pub pairs_first : (xs ys : List X) → AllPairs R (xs ++ ys) → AllPairs R xs
  pairs_first [] ys pairs = AllPairs-nil R
  pairs_first (x ∷ xs) ys pairs =
      AllPairs-cons R x xs (All-first (R x) xs ys (AllPairs-head R x (xs ++ ys) pairs))
      (pairs_first xs ys (AllPairs-tail R x (xs ++ ys) pairs))

-- ---- numbers that are counted

pub All-range : (first count least : ℕ) → least ≤ first → All (λ n. least ≤ n) (range_with_len first count)
All-range first zero least upto = All-nil (λ (n : ℕ). least ≤ n)
All-range first (suc count) least upto =
    All-cons (λ n. least ≤ n) first (range_with_len (first + 1) count) upto
    (All-range (first + 1) count least (omega arith))

pub below_range : (first count next : ℕ) → first + count ≤ next
    → All (λ n. n < next) (range_with_len first count)
below_range first zero next upto = All-nil (λ (n : ℕ). n < next)
below_range first (suc count) next upto =
    All-cons (λ n. n < next) first (range_with_len (first + 1) count) (omega arith)
    (below_range (first + 1) count next (omega arith))

pub range_rises : (first count : ℕ) → AllPairs (λ (a b : ℕ). a < b) (range_with_len first count)
range_rises first zero = AllPairs-nil (λ (a b : ℕ). a < b)
range_rises first (suc count) =
    AllPairs-cons (λ (a b : ℕ). a < b) first (range_with_len (first + 1) count)
    (All-weaker (λ n. first + 1 ≤ n) (λ n. first < n) (λ n upto. omega arith)
    (range_with_len (first + 1) count) (All-range (first + 1) count (first + 1) (omega arith)))
    (range_rises (first + 1) count)

-- a number above all is in none of them
pub not_in : (n : ℕ) (xs : List ℕ) → All (λ x. x < n) xs → is_in xs n ≡ false
not_in n [] below = refl
not_in n (x ∷ xs) below =
    let P : ℕ → Type 0 = λ x. x < n in
    let first : x < n = All-head P x xs below in
    grind (arith, nat_tests, first, not_in n xs (All-tail P x xs below))

-- one in the middle is
pub is_in_middle : (n : ℕ) (xs ys : List ℕ) → is_in (xs ++ n ∷ ys) n ≡ true
is_in_middle n [] ys = grind (arith, nat_tests)
is_in_middle n (x ∷ xs) ys = grind (arith, nat_tests, is_in_middle n xs ys)
