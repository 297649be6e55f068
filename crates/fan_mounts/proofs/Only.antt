-- The one mount that alone has its number.
use Rattle.std.proofs.Common.{◌≡◌, ℕ, ◌+◌, ◌==◌, Bool, true, false, cond, List, [], ◌∷◌, refl, sym, ap, arith}
use Rattle.std.specs.Prelude.{count_by}
use Rattle.fan_lists.proofs.Counts.{count_by-cons}
use Rattle.fan_lists.specs.First.{without_first}
use Rattle.fan_mounts.specs.declared.mount.Mount.{Mount}
use Rattle.fan_mounts.specs.Mounts.{others}
use Rattle.fan_mounts.specs.Pairs.{has_number}

module _ (number : ℕ) where
  -- where no mount has a number, all have others
  none_has : (mounts : List Mount) → count_by (has_number number) mounts ≡ 0 → others number mounts ≡ mounts
  none_has [] none = refl
  none_has (mount ∷ more) none =
      by (mount.number == number) refl (count_by-cons (has_number number) mount more) (none_has more)
    where
      by : (has : Bool) → (mount.number == number) ≡ has
          → count_by (has_number number) (mount ∷ more)
          ≡ cond has 1 0 + count_by (has_number number) more
          → (count_by (has_number number) more ≡ 0 → others number more ≡ more)
          → others number (mount ∷ more) ≡ mount ∷ more
      by true has is rest = absurd (omega (arith, none, is))
      by false has is rest = rw has (ap (λ left. mount ∷ left) (rest (omega (arith, none, is))))

  -- where one alone has it, the others are left once the first with it is gone
  pub only_one : (mounts : List Mount) → count_by (has_number number) mounts ≡ 1
      → without_first (has_number number) mounts ≡ others number mounts
  only_one [] one = refl
  only_one (mount ∷ more) one =
      by (mount.number == number) refl (count_by-cons (has_number number) mount more) (only_one more)
    where
      by : (has : Bool) → (mount.number == number) ≡ has
          → count_by (has_number number) (mount ∷ more)
          ≡ cond has 1 0 + count_by (has_number number) more
          → (count_by (has_number number) more ≡ 1
          → without_first (has_number number) more ≡ others number more)
          → without_first (has_number number) (mount ∷ more) ≡ others number (mount ∷ more)
      by true has is rest = rw has (sym (none_has more (omega (arith, one, is))))
      by false has is rest = rw has (ap (λ left. mount ∷ left) (rest (omega (arith, one, is))))
