-- What is in a map from pairs of numbers at a first number.
use Rattle.std.proofs.Common.{◌≡◌, ℕ, ◌<◌, ◌≤◌, ◌==◌, ◌&&◌, true, false, [], ◌∷◌, Some, None, is_some, refl, sym, arith, zero, suc, eqb-true, nat_lt}
use Rattle.std.proofs.lemmas.Bool.Decides.{nat_tests}
use Rattle.std.proofs.lemmas.Cmp.{ranked}
use Rattle.std.specs.Prelude.{IfSome, slice_get}
use Rattle.std.specs.BTreeMap.{BTreeMap}
use Rattle.std.specs.BTreeMap.Range.{IsLeBy, IsRangeOf}
use Rattle.std.specs.Ordering.{MatchOrdering, is_eq, is_gt, nat_cmp, ordering_then}
use Rattle.std.specs.Cmp.{both_tied}
use Rattle.std.specs.declared.cmp.Ordering.{Ordering}
use Rattle.std.specs.declared.cmp.Ordering.TheVariants.{Less, Equal, Greater}
use Rattle.std.specs.declared.ops.Bound.TheVariants.{Included, Unbounded}
use Rattle.fan_mounts.specs.declared.mount.Mount.{Mount}
use Rattle.fan_mounts.specs.Pairs.{Entries, pair_cmp, standing}

le_by : (first second : Ordering) (x y : ℕ) → MatchOrdering first (x < y) (x ≡ y) (y < x)
    → is_gt (ordering_then first second) ≡ false → x ≤ y
le_by Less second x y ranks le = omega arith
le_by Equal second x y ranks le = omega arith
le_by Greater second x y ranks le = absurd cc

-- a pair that doesn't stand behind another has no greater first number
first_le : (a b : ℕ × ℕ) → IsLeBy pair_cmp a b → a.0 ≤ b.0
first_le a b le = le_by (nat_cmp a.0 b.0) (nat_cmp a.1 b.1) a.0 b.0 (ranked a.0 b.0 _ refl) le

zero_least : (second : ℕ) → is_gt (nat_cmp 0 second) ≡ false
zero_least zero = refl
zero_least (suc second) = let l : nat_lt 0 (suc second) ≡ true = grind (arith, nat_tests) in rw l refl

-- nothing at a first number stands before this one and 0
from_zero : (first second : ℕ) → IsLeBy pair_cmp (first, 0) (first, second)
from_zero first second =
    let l : nat_lt first first ≡ false = grind (arith, nat_tests) in
    let e : (first == first) ≡ true = grind (arith, nat_tests) in
    rw (l, e) (zero_least second)

module _ (pairs : BTreeMap (ℕ × ℕ) Mount) (first : ℕ) (range : Entries)
    (is : IsRangeOf pair_cmp (Included (first, 0)) Unbounded pairs range) where
  -- where the range begins with the first number, it is there
  pub first_there : (key : ℕ × ℕ) (mount : Mount) (rest : Entries) → range ≡ (key, mount) ∷ rest
      → (key.0 == first) ≡ true → (second : ℕ) × (is_some (standing pairs.entries first second) ≡ true)
  first_there key mount rest begins same =
      let found : standing pairs.entries key.0 key.1 ≡ Some mount = (rw begins at is.1).1 in
      let at : standing pairs.entries first key.1 ≡ Some mount = rw (sym (eqb-true key.0 first same)) found in
      (key.1, rw at refl)

  -- where it begins with another, it is not
  pub first_gone : (key : ℕ × ℕ) (mount : Mount) (rest : Entries) → range ≡ (key, mount) ∷ rest
      → (key.0 == first) ≡ false → (second : ℕ) → standing pairs.entries first second ≡ None
  first_gone key mount rest begins other second =
      let above : first ≤ key.0 = first_le (first, 0) key (rw begins at is.1).0.0 in
      elim (standing pairs.entries first second) as (λ at.
      standing pairs.entries first second ≡ at → at ≡ None) [
        | None ↦ λ at. refl
        | Some mount ↦ λ at.
            let least : IfSome (slice_get range 0) (λ entry. IsLeBy pair_cmp entry.0 (first, second)) =
            is.2 (first, second) (from_zero first second, tt) (rw at refl) in
            let below : key.0 ≤ first = first_le key (first, second) (rw begins at least) in
            absurd (grind (arith, nat_tests))
      ] refl

  -- and where it is empty, neither
  pub first_none : range ≡ [] → (second : ℕ) → standing pairs.entries first second ≡ None
  first_none empty second = is.5 empty (first, second) (from_zero first second, tt)

same_number : (x y : ℕ) → (x == y) ≡ is_eq (nat_cmp x y)
same_number x y = grind (arith, nat_tests)

-- two pairs stand at the same place just where their numbers are the same
pub same_pair : (a b : ℕ × ℕ) → is_eq (pair_cmp a b) ≡ (a.0 == b.0 && a.1 == b.1)
same_pair a b = sym (both_tied (a.0 == b.0) (a.1 == b.1) (nat_cmp a.0 b.0) (nat_cmp a.1 b.1)
    (same_number a.0 b.0) (same_number a.1 b.1))
