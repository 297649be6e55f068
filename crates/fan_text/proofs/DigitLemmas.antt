-- Hexadecimal digits in lower case, and their values.
use Rattle.std.proofs.Common.{◌≡◌, ℕ, zero, suc, ◌<◌, Bool, true, false, List, [], ◌∷◌, length, get_or, refl, arith}
use Rattle.std.specs.List.{list_all}
use Rattle.std.specs.Char.{digit_value}
use Rattle.std.specs.Str.Parse.{AllDigits}
use Rattle.std.proofs.lemmas.Bool.{and_parts}
use Rattle.std.proofs.lemmas.Bool.Decides.{nat_tests}
use Rattle.fan_text.specs.Reading.{is_hex_digit, hex_value}
use Rattle.fan_text.specs.Spelling.{hex_digit}
use Rattle.fan_text.proofs.SpaceLemmas.{is_space, is_spaceless}

-- each byte is a digit
abbrev pub are_hex : List ℕ → Bool
are_hex = list_all is_hex_digit

-- a digit is written of its value, which is below 16
pub digit_takes : (digit : ℕ) → is_hex_digit digit ≡ true
    → (hex_value digit < 16) × (hex_digit (hex_value digit) ≡ digit)
digit_takes digit is = (grind (arith, nat_tests), grind (arith, nat_tests))

-- the digit of a value below 16 has that value
pub digit_again : (value : ℕ) → value < 16
    → (is_hex_digit (hex_digit value) ≡ true) × (hex_value (hex_digit value) ≡ value)
digit_again value small = (grind (arith, nat_tests), grind (arith, nat_tests))

-- std gives a digit the same value
pub digit_value_is : (digit : ℕ) → is_hex_digit digit ≡ true → digit_value digit ≡ hex_value digit
digit_value_is digit is = grind (arith, nat_tests)

-- each of some digits is one
pub digit_at : (word : List ℕ) (i : ℕ) → are_hex word ≡ true → i < length word
    → is_hex_digit (get_or word i 0) ≡ true
digit_at [] i e within = absurd (omega arith)
digit_at (c ∷ word) zero e within = (and_parts (is_hex_digit c) (are_hex word) e).0
digit_at (c ∷ word) (suc i) e within = digit_at word i (and_parts (is_hex_digit c) (are_hex word) e).1
    (omega arith)

-- digits are digits of std in base 16
pub all_digits : (word : List ℕ) → are_hex word ≡ true → AllDigits 16 word
all_digits [] e = tt
all_digits (c ∷ word) e =
    let parts = and_parts (is_hex_digit c) (are_hex word) e in
    let value = digit_value_is c parts.0 in
    (rw value (digit_takes c parts.0).0, all_digits word parts.1)

-- digits have no space among them
pub digits_spaceless : (word : List ℕ) → are_hex word ≡ true → is_spaceless word ≡ true
digits_spaceless [] e = refl
digits_spaceless (c ∷ word) e =
    let parts = and_parts (is_hex_digit c) (are_hex word) e in
    let other : is_space c ≡ false = grind (arith, nat_tests) in
    rw (other, digits_spaceless word parts.1) refl
