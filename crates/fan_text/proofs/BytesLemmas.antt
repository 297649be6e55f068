-- A word is read as bytes exactly where it spells one to 64 of them.
use Rattle.std.proofs.Common.{◌≡◌, ℕ, ◌+◌, ◌*◌, ◌/◌, ◌%◌, ◌<◌, ◌≤◌, true, false, eqb, ltb, List, [], ◌∷◌, length, Some, refl, sym, arith}
use Rattle.std.specs.Prelude.{◌↔◌, IfSome, IfNone, All}
use Rattle.std.proofs.lemmas.Bool.{and_parts, ltb-false, le-ltb, eqb-false, ne_eqb}
use Rattle.std.proofs.lemmas.List.Elements.{All-nil, All-cons, All-head, All-tail}
use Rattle.std.proofs.lemmas.Option.{cond_some}
use Rattle.fan_text.specs.Reading.{is_hex_digit, hex_value, is_response, bytes_of, bytes_at}
use Rattle.fan_text.specs.Spelling.{IsResponse, SpellsBytes, hex_text}
use Rattle.fan_lists.proofs.Choices.{true_past}
use Rattle.fan_text.proofs.TestLemmas.{found_by, missed_by}
use Rattle.fan_text.proofs.SpaceLemmas.{is_spaceless}
use Rattle.fan_text.proofs.DigitLemmas.{are_hex, digit_takes, digit_again, digits_spaceless}

-- a number that a byte can be
abbrev pub IsByte : ℕ → Type 0
IsByte byte = byte < 256

-- pairs of digits are written of the bytes that they spell, one byte for each pair
record IsPairs (word : List ℕ) : Type 0 where
  spelled : hex_text (bytes_of word) ≡ word
  count : 2 * length (bytes_of word) ≡ length word
  each : All IsByte (bytes_of word)

-- an even number of digits is pairs
pairs_takes : (word : List ℕ) → are_hex word ≡ true → length word % 2 ≡ 0 → IsPairs word
pairs_takes [] digits even = record { spelled = refl; count = refl; each = All-nil IsByte }
pairs_takes (last ∷ []) digits even = absurd (omega (arith, even))
pairs_takes (high ∷ low ∷ more) digits even =
    let first = and_parts (is_hex_digit high) (are_hex (low ∷ more)) digits in
    let second = and_parts (is_hex_digit low) (are_hex more) first.1 in
    let h = digit_takes high first.0 in
    let l = digit_takes low second.0 in
    let rest = pairs_takes more second.1 (omega (arith, even)) in
    let upper : (16 * hex_value high + hex_value low) / 16 ≡ hex_value high = omega (arith, h.0, l.0) in
    let lower : (16 * hex_value high + hex_value low) % 16 ≡ hex_value low = omega (arith, h.0, l.0) in
    record {
      spelled = rw (upper, lower, h.1, l.1, rest.spelled) refl;
      count = omega (arith, rest.count);
      each =
          let small : 16 * hex_value high + hex_value low < 256 = omega (arith, h.0, l.0) in
          All-cons IsByte (16 * hex_value high + hex_value low) (bytes_of more) small rest.each;
    }

-- bytes are spelled by digits, two for each, and are read again
record IsSpelled (bytes : List ℕ) : Type 0 where
  digits : are_hex (hex_text bytes) ≡ true
  count : length (hex_text bytes) ≡ 2 * length bytes
  again : bytes_of (hex_text bytes) ≡ bytes

pairs_again : (bytes : List ℕ) → All IsByte bytes → IsSpelled bytes
pairs_again [] each = record { digits = refl; count = refl; again = refl }
pairs_again (byte ∷ bytes) each =
    let small : byte < 256 = All-head IsByte byte bytes each in
    let upper = digit_again (byte / 16) (omega arith) in
    let lower = digit_again (byte % 16) (omega arith) in
    let rest = pairs_again bytes (All-tail IsByte byte bytes each) in
    let whole : 16 * (byte / 16) + byte % 16 ≡ byte = omega arith in
    record {
      digits = rw (upper.0, lower.0, rest.digits) refl;
      count = omega (arith, rest.count);
      again = rw (upper.1, lower.1, whole, rest.again) refl;
    }

-- what passes the test is digits
pub response_digits : (word : List ℕ) → is_response word ≡ true → are_hex word ≡ true
unfolding is_response
response_digits word e =
    let some = true_past (eqb (length word) 0) _ e in
    let most = true_past (ltb 128 (length word)) _ some.1 in
    (true_past (eqb (length word % 2) 1) _ most.1).1

-- what passes the test spells a response
is_response_takes : (word : List ℕ) → is_response word ≡ true
    → (hex_text (bytes_of word) ≡ word) × IsResponse (bytes_of word)
unfolding is_response
is_response_takes word e =
    let some = true_past (eqb (length word) 0) _ e in
    let most = true_past (ltb 128 (length word)) _ some.1 in
    let even = true_past (eqb (length word % 2) 1) _ most.1 in
    let nonempty : length word ≡ 0 → ⊥ = eqb-false _ _ some.0 in
    let within : length word ≤ 128 = ltb-false _ _ most.0 in
    let not_odd : length word % 2 ≡ 1 → ⊥ = eqb-false _ _ even.0 in
    let pairs = pairs_takes word even.1 (omega arith) in (
      pairs.spelled,
      record { some = omega (arith, pairs.count); most = omega (arith, pairs.count); each = pairs.each },
    )

-- what spells a response passes the test
is_response_again : (bytes : List ℕ) → IsResponse bytes → is_response (hex_text bytes) ≡ true
unfolding is_response
is_response_again bytes h =
    let spelled = pairs_again bytes h.each in
    let some : eqb (length (hex_text bytes)) 0 ≡ false =
    ne_eqb _ _ (λ e. absurd (omega (arith, h.some, spelled.count))) in
    let most : ltb 128 (length (hex_text bytes)) ≡ false =
    le-ltb _ _ (omega (arith, h.most, spelled.count)) in
    let even : eqb (length (hex_text bytes) % 2) 1 ≡ false =
    ne_eqb _ _ (λ e. absurd (omega (arith, spelled.count))) in
    rw (some, most, even) spelled.digits

-- the word that is read as bytes spells them
pub bytes_takes : (word bytes : List ℕ) → bytes_at word ≡ Some bytes → SpellsBytes word bytes
unfolding bytes_at
bytes_takes word bytes e =
    let found = cond_some (is_response word) (bytes_of word) bytes e in
    let parts = is_response_takes word found.0 in
    rw (← found.1) (sym parts.0, parts.1)

-- what is written of 1 to 64 bytes is read again
pub bytes_again : (bytes : List ℕ) → IsResponse bytes → bytes_at (hex_text bytes) ≡ Some bytes
unfolding bytes_at
bytes_again bytes h = rw (is_response_again bytes h, (pairs_again bytes h.each).again) refl

-- a word is read as bytes exactly where it spells them
pub bytes_iff : (word bytes : List ℕ) → (bytes_at word ≡ Some bytes) ↔ SpellsBytes word bytes
bytes_iff word bytes = (bytes_takes word bytes, λ h. rw h.0 (bytes_again bytes h.1))

-- where a word is read as bytes, it spells them
pub bytes_found : (word : List ℕ) → IfSome (bytes_at word) (SpellsBytes word)
bytes_found word = found_by (bytes_at word) (SpellsBytes word) (bytes_iff word)

-- where a word is read as none, it spells none
pub bytes_missed : (word : List ℕ) → IfNone (bytes_at word) ((bytes : List ℕ) → SpellsBytes word bytes → ⊥)
bytes_missed word = missed_by (bytes_at word) (SpellsBytes word) (bytes_iff word)

-- no byte of bytes in digits is a space
pub bytes_spaceless : (bytes : List ℕ) → IsResponse bytes → is_spaceless (hex_text bytes) ≡ true
bytes_spaceless bytes h = digits_spaceless (hex_text bytes) (pairs_again bytes h.each).digits

-- bytes in digits have 2 to 128 bytes
pub bytes_length : (bytes : List ℕ) → IsResponse bytes
    → (2 ≤ length (hex_text bytes)) × (length (hex_text bytes) ≤ 128)
bytes_length bytes h =
    let count = (pairs_again bytes h.each).count in
    (omega (arith, count, h.some), omega (arith, count, h.most))
