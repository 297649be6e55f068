-- How often rows stand in ranges, and how many rows a list without repeats has.
use Rattle.std.proofs.Common.{◌≡◌, ℕ, ◌+◌, ◌-◌, ◌<◌, ◌≤◌, zero, suc, cond, List, [], ◌∷◌, length, refl, ap, ◌++◌, subst, arith, eqb-true}
use Rattle.std.proofs.lemmas.Bool.{cond_both}
use Rattle.std.proofs.lemmas.Bool.Decides.{nat_tests}
use Rattle.std.proofs.lemmas.List.Elements.{All-cons, All-head, All-tail}
use Rattle.std.specs.List.{range_with_len}
use Rattle.std.specs.Prelude.{All, nat_lt, ◌==◌}
use Rattle.fan_rows.specs.Rows.{times}
use Rattle.fan_rows.proofs.Chains.{times_append}
use Rattle.fan_grace.specs.Stored.{given_below}

-- ---- ranges

-- a range has each of its numbers once, and no other
pub times_range : (row start count : ℕ) → times row (range_with_len start count)
    ≡ cond (nat_lt row start) 0 (cond (nat_lt row (start + count)) 1 0)
times_range row start zero = grind (arith, nat_tests)
times_range row start (suc count) = grind (arith, nat_tests, times_range row (start + 1) count)

-- two ranges of which one follows the other share nothing
pub ranges_apart : (row next count : ℕ) → 1 ≤ next
    → times row (range_with_len 1 (next - 1)) + times row (range_with_len next count) ≤ 1
ranges_apart row next count above =
    grind (arith, nat_tests, times_range row 1 (next - 1), times_range row next count)

-- a row before a range isn't in it
pub range_before : (row start count : ℕ) → row < start → times row (range_with_len start count) ≡ 0
range_before row start count small = grind (arith, nat_tests, times_range row start count)

-- a row behind a range isn't in it
pub range_behind : (row start count : ℕ) → start + count ≤ row → times row (range_with_len start count) ≡ 0
range_behind row start count large = grind (arith, nat_tests, times_range row start count)

-- a row that is in a range is one of its numbers
pub in_range : (row start count : ℕ) → 0 < times row (range_with_len start count)
    → (start ≤ row) × (row < start + count)
in_range row start count some = (
  grind (arith, nat_tests, times_range row start count),
  grind (arith, nat_tests, times_range row start count),
)

-- a range that is longer by one
range_last : (start count last : ℕ) → start + count ≡ last
    → range_with_len start (suc count) ≡ range_with_len start count ++ last ∷ []
range_last start zero last is = ap (λ n. n ∷ []) (omega arith)
range_last start (suc count) last is =
    ap (λ rows. start ∷ rows) (range_last (start + 1) count last (omega arith))

pub given_more : (next : ℕ) → 1 ≤ next → given_below (next + 1) ≡ given_below next ++ next ∷ []
given_more next above =
    let same : next + 1 - 1 ≡ suc (next - 1) = omega arith in
    rw same (range_last 1 (next - 1) next (omega arith))

-- ---- lists without repeats

-- how often the rows below a number stand in a list, in all
abbrev total : ℕ → List ℕ → ℕ
total zero rows = 0
total (suc count) rows = total count rows + times count rows

total_none : (count : ℕ) → total count [] ≡ 0
total_none zero = refl
total_none (suc count) = omega (arith, total_none count)

total_more : (count row : ℕ) (rows : List ℕ)
    → total count (row ∷ rows) ≡ cond (nat_lt row count) 1 0 + total count rows
total_more zero row rows = grind (arith, nat_tests)
total_more (suc count) row rows = grind (arith, nat_tests, total_more count row rows)

total_length : (count : ℕ) (rows : List ℕ) → All (λ row. row < count) rows → total count rows ≡ length rows
total_length count [] small = total_none count
total_length count (row ∷ rows) small =
    let first = All-head (λ r. r < count) row rows small in
    let rest = total_length count rows (All-tail (λ r. r < count) row rows small) in
    grind (arith, nat_tests, total_more count row rows, first, rest)

total_few : (count : ℕ) (rows : List ℕ) → ((row : ℕ) → times row rows ≤ 1) → total count rows ≤ count
total_few zero rows once = omega arith
total_few (suc count) rows once = omega (arith, total_few count rows once, once count)

-- rows below a number, each once, are no more than the number
pub few_rows : (count : ℕ) (rows : List ℕ) → All (λ row. row < count) rows → ((row : ℕ) → times row rows ≤ 1)
    → length rows ≤ count
few_rows count rows small once = omega (arith, total_length count rows small, total_few count rows once)

-- a row that isn't among others stands once with them
pub once_more : (row : ℕ) (rows : List ℕ) → ((other : ℕ) → times other rows ≤ 1) → times row rows ≡ 0
    → (other : ℕ) → times other (row ∷ rows) ≤ 1
once_more row rows once new other =
    cond_both (row == other) 1 0 (λ n. n + times other rows ≤ 1)
    (λ is. let none : times other rows ≡ 0 = subst (λ r. times r rows ≡ 0) (eqb-true row other is) new in
    omega arith)
    (λ differs. omega (arith, once other))

pub once_last : (row : ℕ) (rows : List ℕ) → ((other : ℕ) → times other rows ≤ 1) → times row rows ≡ 0
    → (other : ℕ) → times other (rows ++ row ∷ []) ≤ 1
once_last row rows once new other =
    omega (arith, times_append other rows (row ∷ []), once_more row rows once new other)

-- so where one of them is missing, they are fewer
pub room_for : (count row : ℕ) (rows : List ℕ) → All (λ r. r < count) rows → ((r : ℕ) → times r rows ≤ 1)
    → times row rows ≡ 0 → row < count → length rows < count
room_for count row rows small once new below =
    omega (
      arith,
      few_rows count (row ∷ rows) (All-cons (λ r. r < count) row rows below small)
          (once_more row rows once new),
    )
