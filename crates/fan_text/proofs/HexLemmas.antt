-- A word is read in hexadecimal exactly where it is what `hex` writes of a number below 2^64.
use Rattle.std.proofs.Common.{◌≡◌, ℕ, suc, zero, ◌+◌, ◌-◌, ◌*◌, ◌/◌, ◌%◌, ◌^◌, ◌<◌, ◌≤◌, true, false, not, eqb, List, [], ◌∷◌, ◌++◌, length, get_or, take, Some, refl, sym, ap, ◌∙◌, arith, inl, inr, append-nil}
use Rattle.std.specs.Prelude.{◌↔◌, IfSome, IfNone}
use Rattle.std.specs.Char.{digit_value}
use Rattle.std.specs.Str.Parse.{digits_value, digits_value_after}
use Rattle.std.specs.Fmt.{digits, digits_onto}
use Rattle.std.proofs.Math.Seq.{take_all}
use Rattle.std.proofs.Math.Nat.{pow-le-pow_right}
use Rattle.std.proofs.lemmas.Bool.{and_parts, eq-eqb, ne_eqb, cases_eq, cases_lt}
use Rattle.std.proofs.lemmas.Bool.Decides.{nat_tests}
use Rattle.std.proofs.lemmas.Int.Digits.{digits_value_more, digits_value-lt}
use Rattle.std.proofs.lemmas.Str.Parse.{digits_value-take-le}
use Rattle.std.proofs.lemmas.Fmt.{digits_is_IsNumeral, hex_one_digit}
use Rattle.fan_text.specs.Reading.{is_hex_digit, hex_value, is_numeral, hex_at}
use Rattle.fan_text.specs.Spelling.{SpellsHex, hex, hex_digit}
use Rattle.fan_lists.proofs.Choices.{some_past}
use Rattle.fan_text.proofs.TestLemmas.{found_by, missed_by}
use Rattle.fan_text.proofs.NumeralLemmas.{IsNumeral, numeral_takes, numeral_again}
use Rattle.fan_text.proofs.SpaceLemmas.{is_spaceless}
use Rattle.fan_text.proofs.DigitLemmas.{are_hex, digit_at, digit_takes, digit_again, digit_value_is, all_digits, digits_spaceless}

-- at most k digits of n, and what is written behind them
abbrev spell : ℕ → ℕ → List ℕ → List ℕ
spell k n behind = digits_onto k 16 false n behind

-- a number of one digit is that digit
spell_last : (k n : ℕ) (behind : List ℕ) → n < 16 → spell (suc k) n behind ≡ hex_digit n ∷ behind
spell_last k n behind small =
    let none : eqb (n / 16) 0 ≡ true = eq-eqb _ _ (omega arith) in
    let same : n % 16 ≡ n = omega arith in
    rw (none, same) refl

-- a longer number is what stands before its last digit, and that digit
spell_next : (k n : ℕ) (behind : List ℕ) → 16 ≤ n
    → spell (suc k) n behind ≡ spell k (n / 16) (hex_digit (n % 16) ∷ behind)
spell_next k n behind large =
    let some : eqb (n / 16) 0 ≡ false = ne_eqb _ _ (λ e. absurd (omega arith)) in
    rw some refl

-- what is written is digits, where what stands behind is
spell_digits : (k n : ℕ) (behind : List ℕ) → are_hex behind ≡ true → are_hex (spell k n behind) ≡ true
spell_digits zero n behind h = h
spell_digits (suc k) n behind h =
    elim (cases_lt n 16) [
      | inl small ↦ rw (spell_last k n behind small, (digit_again n small).0) h
      | inr large ↦
          let last : n % 16 < 16 = omega arith in
          rw (spell_next k n behind large)
          (spell_digits k (n / 16) (hex_digit (n % 16) ∷ behind) (rw ((digit_again (n % 16) last).0) h))
    ]

-- a number below 16^j has at most j digits
spell_length : (k j n : ℕ) (behind : List ℕ) → n < 16 ^ suc j
    → length (spell k n behind) ≤ suc j + length behind
spell_length zero j n behind below = omega arith
spell_length (suc k) zero n behind below = rw (spell_last k n behind (omega arith)) (omega arith)
spell_length (suc k) (suc j) n behind below =
    elim (cases_lt n 16) [
      | inl small ↦ rw (spell_last k n behind small) (omega arith)
      | inr large ↦ rw (spell_next k n behind large) (omega (
        arith,
        spell_length k j (n / 16) (hex_digit (n % 16) ∷ behind) (omega arith),
      ))
    ]

-- the first digit of a number above 0 is no zero
spell_first : (k n : ℕ) (behind : List ℕ) → 0 < n → n < 16 ^ k → get_or (spell k n behind) 0 0 ≡ 48 → ⊥
spell_first zero n behind some below zero_first = absurd (omega arith)
spell_first (suc k) n behind some below zero_first =
    elim (cases_lt n 16) [
      | inl small ↦ no_zero n some small (rw (spell_last k n behind small) at zero_first)
      | inr large ↦ spell_first k (n / 16) (hex_digit (n % 16) ∷ behind) (omega arith) (omega arith)
          (rw (spell_next k n behind large) at zero_first)
    ]
  where
    no_zero : (value : ℕ) → 0 < value → value < 16 → hex_digit value ≡ 48 → ⊥
    no_zero value some small is = grind (arith, nat_tests)

-- the digits of what digits spell behind a number are those of the number, and the digits
spell_again : (k n : ℕ) (word behind : List ℕ) → 0 < n → are_hex word ≡ true
    → spell (k + length word) (digits_value_after 16 n word) behind ≡ spell k n (word ++ behind)
spell_again k n [] behind some h = let same : k + 0 ≡ k = omega arith in rw same refl
spell_again k n (c ∷ word) behind some h =
    let parts = and_parts (is_hex_digit c) (are_hex word) h in
    let value = digit_value_is c parts.0 in
    let digit = digit_takes c parts.0 in
    let count : k + suc (length word) ≡ suc k + length word = omega arith in
    let front : (n * 16 + hex_value c) / 16 ≡ n = omega (arith, digit.0) in
    let last : (n * 16 + hex_value c) % 16 ≡ hex_value c = omega (arith, digit.0) in
    rw (
      count,
      value,
      spell_again (suc k) (n * 16 + hex_value c) word behind (omega arith) parts.1,
      spell_next k (n * 16 + hex_value c) (word ++ behind) (omega arith),
      front,
      last,
      digit.1,
    ) refl

-- one more digit makes sixteen times the number, and the digit's value
pub value_more : (ds : List ℕ) (i : ℕ) → are_hex ds ≡ true → i < length ds
    → 16 * digits_value 16 (take i ds) + hex_value (get_or ds i 0) ≡ digits_value 16 (take (i + 1) ds)
value_more ds i digits within =
    let value = digit_value_is (get_or ds i 0) (digit_at ds i digits within) in
    omega (arith, value, digits_value_more 16 ds i within)

-- a front of at most sixteen digits is below 2^64
pub value_within : (ds : List ℕ) (i : ℕ) → are_hex ds ≡ true → length ds ≤ 16
    → digits_value 16 (take i ds) < 18446744073709551616
value_within ds i digits short =
    let most : 16 ^ length ds ≤ 16 ^ 16 = pow-le-pow_right {n = 16} (omega arith) short in
    omega (
      arith,
      digits_value-take-le 16 ds i (omega arith),
      digits_value-lt 16 ds (all_digits ds digits),
      most,
    )

-- hex writes 64 digits at most. The count is a variable, since a proof that sees 64 goes through all of them
spelled : (k n : ℕ) → k ≡ 64 → hex n ≡ spell k n []
unfolding digits
spelled k n is = rw is refl

-- what hex writes has 1 to 16 digits, and no leading zero
hex_is : (k n : ℕ) → k ≡ 64 → n < 2 ^ 64 → IsNumeral 16 (hex n)
hex_is k n is small =
    let below : n < 16 ^ k = rw is (omega arith) in
    record {
      some = (digits_is_IsNumeral 16 false (omega arith) (omega arith) n (omega arith)).0.0;
      short = rw (spelled k n is) (spell_length k 15 n [] (omega arith));
      first = λ first_zero. elim (cases_eq n 0) [
        | inl none ↦ ap length (hex_one_digit false n (omega arith))
        | inr other ↦ absurd (spell_first k n [] (omega arith) below (rw (spelled k n is) at first_zero))
      ];
    }

-- what hex writes is digits
hex_digits : (k n : ℕ) → k ≡ 64 → are_hex (hex n) ≡ true
hex_digits k n is = rw (spelled k n is) (spell_digits k n [] refl)

-- a digit other than 0 has a value above 0
positive : (digit : ℕ) → hex_digit (hex_value digit) ≡ digit → (digit ≡ 48 → ⊥) → 0 < hex_value digit
positive digit is other = grind (arith, nat_tests)

-- the digits of what digits without a leading zero spell are those digits
spell_word : (j c : ℕ) (word : List ℕ) → (hex_value c < 16) × (hex_digit (hex_value c) ≡ c)
    → are_hex word ≡ true → (c ≡ 48 → length (c ∷ word) ≡ 1)
    → spell (suc j + length word) (digits_value_after 16 (hex_value c) word) [] ≡ c ∷ word
spell_word j c [] digit digits first =
    let same : suc j + 0 ≡ suc j = omega arith in
    rw same (spell_last j (hex_value c) [] digit.0) ∙ ap (λ (x : ℕ). x ∷ []) digit.1
spell_word j c (d ∷ word) digit digits first =
    let some : 0 < hex_value c = positive c digit.1 (λ is_zero. absurd (omega (arith, first is_zero))) in
    spell_again (suc j) (hex_value c) (d ∷ word) [] some digits
    ∙ rw append-nil (spell_last j (hex_value c) (d ∷ word) digit.0) ∙ ap (λ (x : ℕ). x ∷ d ∷ word) digit.1

-- digits without a leading zero are what hex writes of their value
hex_of_value : (word : List ℕ) → are_hex word ≡ true → IsNumeral 16 word → hex (digits_value 16 word) ≡ word
hex_of_value [] digits h = absurd (omega (arith, h.some))
hex_of_value (c ∷ word) digits h =
    let parts = and_parts (is_hex_digit c) (are_hex word) digits in
    let digit = digit_takes c parts.0 in
    let value : 0 * 16 + digit_value c ≡ hex_value c = omega (arith, digit_value_is c parts.0) in
    let count : (j : ℕ) × (suc j + length word ≡ 64) = (63 - length word, omega (arith, h.short)) in
    let whole = spelled (suc count.0 + length word) (digits_value_after 16 (hex_value c) word) count.1 in
    rw (value, whole) (spell_word count.0 c word digit parts.1 h.first)

-- the word that is read as a number is its spelling, and the number is below 2^64
pub hex_takes : (word : List ℕ) (number : ℕ) → hex_at word ≡ Some number → SpellsHex word number
unfolding hex_at
hex_takes word number e =
    let numeral = some_past (not (is_numeral 16 word)) _ number e in
    let digits = some_past (not (are_hex word)) (Some (digits_value 16 word)) number numeral.1 in
    let value : digits_value 16 word ≡ number = cc in
    let shape = numeral_takes 16 word (grind arith) in
    let all : are_hex word ≡ true = grind arith in
    let small = value_within word (length word) all shape.short in
    rw (← value) (sym (hex_of_value word all shape), rw (take_all (length word) word (omega arith)) at small)

-- the spelling of a number below 2^64 is read again
pub hex_again : (number : ℕ) → number < 2 ^ 64 → hex_at (hex number) ≡ Some number
unfolding hex_at
hex_again number small =
    let value = (digits_is_IsNumeral 16 false (omega arith) (omega arith) number (omega arith)).1 in
    rw (numeral_again 16 (hex number) (hex_is 64 number refl small), hex_digits 64 number refl, value) refl

-- a word is read as a number exactly where it spells it
pub hex_iff : (word : List ℕ) (number : ℕ) → (hex_at word ≡ Some number) ↔ SpellsHex word number
hex_iff word number = (hex_takes word number, λ h. rw h.0 (hex_again number h.1))

-- where a word is read as a number, it spells it
pub hex_found : (word : List ℕ) → IfSome (hex_at word) (SpellsHex word)
hex_found word = found_by (hex_at word) (SpellsHex word) (hex_iff word)

-- where a word is read as none, it spells none
pub hex_missed : (word : List ℕ) → IfNone (hex_at word) ((number : ℕ) → SpellsHex word number → ⊥)
hex_missed word = missed_by (hex_at word) (SpellsHex word) (hex_iff word)

-- no byte of a hexadecimal number is a space
pub hex_spaceless : (number : ℕ) → number < 2 ^ 64 → is_spaceless (hex number) ≡ true
hex_spaceless number small = digits_spaceless (hex number) (hex_digits 64 number refl)

-- a hexadecimal number has 1 to 16 bytes
pub hex_length : (number : ℕ) → number < 2 ^ 64 → (1 ≤ length (hex number)) × (length (hex number) ≤ 16)
hex_length number small = let is = hex_is 64 number refl small in (omega (arith, is.some), is.short)
