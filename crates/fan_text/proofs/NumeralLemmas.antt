-- Words that may spell a number: 1 to some bytes, and no leading zero.
use Rattle.std.proofs.Common.{◌≡◌, ℕ, ◌<◌, ◌≤◌, Bool, true, false, not, ◌||◌, eqb, ltb, List, length, get_or, refl, arith, inl, inr}
use Rattle.std.proofs.lemmas.Bool.{ltb-false, le-ltb, eqb-true, eqb-false, eq-eqb, ne_eqb, cases_eq}
use Rattle.fan_text.specs.Reading.{is_numeral}
use Rattle.fan_lists.proofs.Choices.{true_past}

-- 1 to `most` bytes, and no leading zero
pub record IsNumeral (most : ℕ) (word : List ℕ) : Type 0 where
  pub some : 0 < length word
  pub short : length word ≤ most
  pub first : get_or word 0 0 ≡ 48 → length word ≡ 1

-- what the tests of the first byte and the length leave
by_first : (is_zero is_one : Bool) → (not is_zero || is_one) ≡ true → is_zero ≡ true → is_one ≡ true
by_first true is_one e h = e
by_first false is_one e h = absurd cc

-- what passes the test
pub numeral_takes : (most : ℕ) (word : List ℕ) → is_numeral most word ≡ true → IsNumeral most word
unfolding is_numeral
numeral_takes most word e =
    let some = true_past (eqb (length word) 0) _ e in
    let short = true_past (ltb most (length word)) _ some.1 in
    let nonempty : length word ≡ 0 → ⊥ = eqb-false _ _ some.0 in
    record {
      some = omega arith;
      short = ltb-false _ _ short.0;
      first = λ zero. eqb-true _ _
          (by_first (eqb (get_or word 0 0) 48) (eqb (length word) 1) short.1 (eq-eqb _ _ zero));
    }

-- such a word passes the test
pub numeral_again : (most : ℕ) (word : List ℕ) → IsNumeral most word → is_numeral most word ≡ true
unfolding is_numeral
numeral_again most word h =
    let some : eqb (length word) 0 ≡ false = ne_eqb _ _ (λ e. absurd (omega (arith, h.some))) in
    let short : ltb most (length word) ≡ false = le-ltb _ _ h.short in
    elim (cases_eq (get_or word 0 0) 48) [
      | inl zero ↦
          let passes_zero : eqb (get_or word 0 0) 48 ≡ true = eq-eqb _ _ zero in
          rw (some, short, passes_zero) (eq-eqb _ _ (h.first zero))
      | inr other ↦
          let passes_other : eqb (get_or word 0 0) 48 ≡ false = ne_eqb _ _ other in
          rw (some, short, passes_other) refl
    ]
