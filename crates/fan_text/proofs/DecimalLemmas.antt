-- A word is read as a decimal exactly where it is what `decimal` writes of a number below 2^64.
use Rattle.std.proofs.Common.{◌≡◌, ℕ, ◌+◌, ◌-◌, ◌*◌, ◌^◌, ◌<◌, ◌≤◌, Bool, true, false, not, ltb, List, [], ◌∷◌, length, get_or, take, Some, refl, sym, ap, arith, rules, inl, inr}
use Rattle.std.specs.Prelude.{◌↔◌, IfSome, IfNone}
use Rattle.std.specs.List.{list_all}
use Rattle.std.specs.Char.{is_ascii_digit, digit_value}
use Rattle.std.specs.Int.{IsInRange}
use Rattle.std.specs.Str.Parse.{digits_value}
use Rattle.std.specs.Fmt.{decimal}
use Rattle.std.proofs.lemmas.Bool.{and_parts, ltb-true, lt-ltb, cases_eq}
use Rattle.std.proofs.lemmas.Bool.Decides.{nat_tests}
use Rattle.std.proofs.lemmas.Int.Digits.{digits_value_more}
use Rattle.std.proofs.lemmas.Str.Parse.{IsNumeralModel, numerals_by_value, digits_value_short, digit_at, digits_value-take-le}
use Rattle.std.proofs.lemmas.Option.{cond_some}
use Rattle.std.proofs.lemmas.Fmt.{decimal-digits_value, digits_decimal, digits_value-decimal, length-decimal-le, decimal_nonempty, first_decimal, decimal_digit}
use Rattle.fan_text.specs.Reading.{is_numeral, decimal_at}
use Rattle.fan_text.specs.Spelling.{SpellsDecimal}
use Rattle.fan_lists.proofs.Choices.{some_past}
use Rattle.fan_text.proofs.TestLemmas.{found_by, missed_by}
use Rattle.fan_text.proofs.NumeralLemmas.{IsNumeral, numeral_takes, numeral_again}
use Rattle.fan_text.proofs.SpaceLemmas.{is_space, is_spaceless}

-- each byte is a digit
abbrev pub are_digits : List ℕ → Bool
are_digits = list_all is_ascii_digit

-- the digits and their value, in the words of std
own : IsNumeralModel (λ ds. are_digits ds ≡ true) (digits_value 10)
own = numerals_by_value _ (search rules)

-- one more digit makes ten times the number, and the digit
pub value_more : (ds : List ℕ) (i : ℕ) → are_digits ds ≡ true → i < length ds
    → 10 * digits_value 10 (take i ds) + (get_or ds i 0 - 48) ≡ digits_value 10 (take (i + 1) ds)
value_more ds i digits within =
    let digit : IsInRange 48 57 (get_or ds i 0) = digit_at ds i (own.to ds digits) within in
    let value : digit_value (get_or ds i 0) ≡ get_or ds i 0 - 48 = grind (arith, nat_tests) in
    omega (arith, digits_value_more 10 ds i within)

-- a front of at most twenty digits is below 10^20
pub value_within : (ds : List ℕ) (i : ℕ) → are_digits ds ≡ true → length ds ≤ 20
    → digits_value 10 (take i ds) < 100000000000000000000
value_within ds i digits short =
    omega (arith, digits_value-take-le 10 ds i (omega arith), digits_value_short own ds 20 digits short)

-- only the decimal of 0 begins with a zero
first_of_decimal : (n : ℕ) → n < 2 ^ 64 → get_or (decimal n) 0 0 ≡ 48 → length (decimal n) ≡ 1
first_of_decimal n small zero =
    elim (cases_eq n 0) [
      | inl none ↦ ap length (decimal_digit n (omega arith))
      | inr some ↦ absurd (omega (arith, first_decimal n (omega arith) (omega arith)))
    ]

-- what decimal writes has 1 to 20 digits, and no leading zero
decimal_is : (n : ℕ) → n < 2 ^ 64 → IsNumeral 20 (decimal n)
decimal_is n small = record {
  some = decimal_nonempty n small;
  short = length-decimal-le 20 n (omega arith) (omega arith) small;
  first = first_of_decimal n small;
}

-- the word that is read as a number is its decimal, and the number is below 2^64
pub decimal_takes : (word : List ℕ) (number : ℕ) → decimal_at word ≡ Some number → SpellsDecimal word number
unfolding decimal_at
decimal_takes word number e =
    let numeral = some_past (not (is_numeral 20 word)) _ number e in
    let digits = some_past (not (are_digits word)) _ number numeral.1 in
    let found = cond_some (ltb (digits_value 10 word) (2 ^ 64)) (digits_value 10 word) number digits.1 in
    let shape = numeral_takes 20 word (grind arith) in
    let small = ltb-true _ _ found.0 in
    rw (← found.1) (sym (decimal-digits_value own word (grind arith) shape.some shape.first small), small)

-- the decimal of a number below 2^64 is read again
pub decimal_again : (number : ℕ) → number < 2 ^ 64 → decimal_at (decimal number) ≡ Some number
unfolding decimal_at
decimal_again number small =
    let numeral = numeral_again 20 (decimal number) (decimal_is number small) in
    let digits = digits_decimal own number small in
    let value = digits_value-decimal own number small in
    let within : ltb number (2 ^ 64) ≡ true = lt-ltb _ _ small in
    rw (numeral, digits, value, within) refl

-- a word is read as a number exactly where it spells it
pub decimal_iff : (word : List ℕ) (number : ℕ) → (decimal_at word ≡ Some number) ↔ SpellsDecimal word number
decimal_iff word number = (decimal_takes word number, λ h. rw h.0 (decimal_again number h.1))

-- where a word is read as a number, it spells it
pub decimal_found : (word : List ℕ) → IfSome (decimal_at word) (SpellsDecimal word)
decimal_found word = found_by (decimal_at word) (SpellsDecimal word) (decimal_iff word)

-- where a word is read as none, it spells none
pub decimal_missed : (word : List ℕ) → IfNone (decimal_at word) ((number : ℕ) → SpellsDecimal word number → ⊥)
decimal_missed word = missed_by (decimal_at word) (SpellsDecimal word) (decimal_iff word)

-- digits have no space among them
digits_spaceless : (word : List ℕ) → are_digits word ≡ true → is_spaceless word ≡ true
digits_spaceless [] digits = refl
digits_spaceless (c ∷ word) digits =
    let parts = and_parts (is_ascii_digit c) (are_digits word) digits in
    let other : is_space c ≡ false = grind (arith, nat_tests) in
    rw (other, digits_spaceless word parts.1) refl

-- no byte of a decimal is a space
pub decimal_spaceless : (number : ℕ) → number < 2 ^ 64 → is_spaceless (decimal number) ≡ true
decimal_spaceless number small = digits_spaceless (decimal number) (digits_decimal own number small)

-- a decimal has 1 to 20 bytes
pub decimal_length : (number : ℕ) → number < 2 ^ 64
    → (1 ≤ length (decimal number)) × (length (decimal number) ≤ 20)
decimal_length number small = let is = decimal_is number small in (omega (arith, is.some), is.short)
