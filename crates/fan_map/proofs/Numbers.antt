-- Numbers by a key, when the one at a key changes.
use Rattle.std.proofs.Common.{◌≡◌, ℕ, ◌+◌, true, cond, List, Option, Some, None, refl, ap, arith}
use Rattle.std.specs.Prelude.{◌==◌, ◌≤◌, ◌&&◌, is_some}
use Rattle.std.specs.BTreeMap.{is_at}
use Rattle.std.specs.Map.{lookup}
use Rattle.std.specs.Option.{unwrap_or}
use Rattle.std.specs.Ordering.{nat_cmp}
use Rattle.std.proofs.lemmas.Bool.Decides.{nat_tests}
use Rattle.fan_map.specs.Counts.{number_at}

module _ (old new : List (ℕ × ℕ)) (key now : ℕ)
    (found : (q : ℕ) → lookup (is_at (nat_cmp q)) new
    ≡ cond (is_at (nat_cmp q) key && is_some (lookup (is_at (nat_cmp key)) old)) (Some now)
    (lookup (is_at (nat_cmp q)) old)) where
  -- what look-ups find where a number took the place of one that was there
  pub found_some : (number : ℕ) → lookup (is_at (nat_cmp key)) old ≡ Some number
      → (q : ℕ) → lookup (is_at (nat_cmp q)) new
      ≡ cond (is_at (nat_cmp q) key) (Some now) (lookup (is_at (nat_cmp q)) old)
  found_some number is q =
      let there : is_some (lookup (is_at (nat_cmp key)) old) ≡ true = ap is_some is in
      grind (arith, there, found q)

  -- the same where it was not 0
  pub found_replaced : 1 ≤ number_at old key → (q : ℕ) → lookup (is_at (nat_cmp q)) new
      ≡ cond (is_at (nat_cmp q) key) (Some now) (lookup (is_at (nat_cmp q)) old)
  found_replaced most = by (lookup (is_at (nat_cmp key)) old) refl
    where
      by : (some : Option ℕ) → lookup (is_at (nat_cmp key)) old ≡ some → (q : ℕ)
          → lookup (is_at (nat_cmp q)) new
          ≡ cond (is_at (nat_cmp q) key) (Some now) (lookup (is_at (nat_cmp q)) old)
      by None none =
          let zero : number_at old key ≡ 0 = ap (λ (some : Option ℕ). unwrap_or some 0) none in absurd
          (omega arith)
      by (Some number) is = found_some number is

module _ (old new : List (ℕ × ℕ)) (key : ℕ) (now : Option ℕ)
    (found : (q : ℕ) → lookup (is_at (nat_cmp q)) new
    ≡ cond (is_at (nat_cmp q) key) now (lookup (is_at (nat_cmp q)) old)) where
  -- the number at each key after that
  number_after : (other : ℕ) → number_at new other ≡ cond (key == other) (unwrap_or now 0)
      (number_at old other)
  number_after other = grind (arith, nat_tests, found other)

  -- one more
  pub number_added : unwrap_or now 0 ≡ number_at old key + 1 → (other : ℕ)
      → number_at new other ≡ number_at old other + cond (key == other) 1 0
  number_added more other = grind (arith, nat_tests, number_after other, more)

  -- one less
  pub number_taken : unwrap_or now 0 + 1 ≡ number_at old key → (other : ℕ)
      → number_at new other + cond (key == other) 1 0 ≡ number_at old other
  number_taken less other = grind (arith, nat_tests, number_after other, less)
