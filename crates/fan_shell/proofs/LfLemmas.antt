-- No byte of a line is an LF.
use Rattle.std.proofs.Common.{◌≡◌, ℕ, ◌<◌, ◌^◌, Bool, true, false, not, cond, ltb, ◌==◌, List, [], ◌∷◌, ◌++◌, All, Option, Some, None, length, refl, arith}
use Rattle.std.specs.Char.{is_ascii_digit}
use Rattle.std.specs.Fmt.{decimal}
use Rattle.std.specs.List.{join_with_byte, list_all}
use Rattle.std.proofs.lemmas.Bool.{and_parts}
use Rattle.std.proofs.lemmas.Bool.Decides.{nat_tests}
use Rattle.std.proofs.lemmas.List.Elements.{All-head, All-tail}
use Rattle.std.proofs.lemmas.List.Folds.{list_all-append}
use Rattle.fan_script.specs.declared.line.Line.{Line}
use Rattle.fan_script.specs.declared.line.Line.TheVariants.{One, Run}
use Rattle.fan_script.specs.declared.step.OpWord.{OpWord}
use Rattle.fan_script.specs.declared.step.OpWord.TheVariants as ops
use Rattle.fan_script.specs.declared.step.Step.TheVariants as steps
use Rattle.fan_script.specs.Lines.{Fits, FitsOp, op_word, second_words, words_of}
use Rattle.fan_text.specs.Reading.{bytes_at, decimal_at, hex_at, is_hex_digit, is_response}
use Rattle.fan_text.specs.Spelling.{IsName, IsNameByte, IsPath, IsResponse, hex, hex_text, joined}
use Rattle.fan_text.proofs.BytesLemmas.{bytes_again, response_digits}
use Rattle.fan_text.proofs.DecimalLemmas.{decimal_again}
use Rattle.fan_text.proofs.HexLemmas.{hex_again}

-- the byte is no LF
abbrev pub is_other : ℕ → Bool
is_other byte = not (byte == 10)

-- no byte of the word is an LF
abbrev pub is_plain : List ℕ → Bool
is_plain word = list_all is_other word

-- what each byte of a word passes implies what it passes too
all_other : (p : ℕ → Bool) → ((byte : ℕ) → p byte ≡ true → is_other byte ≡ true)
    → (word : List ℕ) → list_all p word ≡ true → is_plain word ≡ true
all_other p other [] passed = refl
all_other p other (byte ∷ word) passed =
    let parts = and_parts (p byte) (list_all p word) passed in
    rw (other byte parts.0, all_other p other word parts.1) refl

-- a value behind a test that turns it away: the test failed
past : {A : Type 0} (b : Bool) (x : Option A) (y : A) → cond (not b) None x ≡ Some y → (b ≡ true) × (x ≡ Some y)
past true x y is = (refl, is)
past false x y is = absurd cc

-- a value behind a test: the test passed
passed : {A : Type 0} (b : Bool) (x : Option A) (y : A) → cond b x None ≡ Some y → b ≡ true
passed true x y is = refl
passed false x y is = absurd cc

-- a decimal digit is no LF
digit_other : (byte : ℕ) → is_ascii_digit byte ≡ true → is_other byte ≡ true
digit_other byte is = grind (arith, nat_tests)

-- no byte of a decimal is an LF
decimal_plain : (number : ℕ) → number < 2 ^ 64 → is_plain (decimal number) ≡ true
unfolding decimal_at
decimal_plain number small =
    let numeral = past _ _ number (decimal_again number small) in
    let digits = past (list_all is_ascii_digit (decimal number)) _ number numeral.1 in
    all_other is_ascii_digit digit_other (decimal number) digits.0

-- no digit in hexadecimal is an LF
digits_plain : (word : List ℕ) → list_all is_hex_digit word ≡ true → is_plain word ≡ true
digits_plain word digits = all_other is_hex_digit (λ byte is. grind (arith, nat_tests)) word digits

-- no byte of a hexadecimal number is an LF
hex_plain : (number : ℕ) → number < 2 ^ 64 → is_plain (hex number) ≡ true
unfolding hex_at
hex_plain number small =
    let numeral = past _ _ number (hex_again number small) in
    let digits = past (list_all is_hex_digit (hex number)) _ number numeral.1 in
    digits_plain (hex number) digits.0

-- no digit of a response is an LF
bytes_plain : (bytes : List ℕ) → IsResponse bytes → is_plain (hex_text bytes) ≡ true
unfolding bytes_at
bytes_plain bytes is =
    let response = passed (is_response (hex_text bytes)) _ bytes (bytes_again bytes is) in
    digits_plain (hex_text bytes) (response_digits (hex_text bytes) response)

-- words without an LF have none behind one another
plain-append : (a b : List ℕ) → is_plain a ≡ true → is_plain b ≡ true → is_plain (a ++ b) ≡ true
plain-append a b first second = rw (list_all-append is_other a b, first) second

-- no byte of a name is an LF
name_plain : (name : List ℕ) → All IsNameByte name → is_plain name ≡ true
name_plain [] each = refl
name_plain (byte ∷ name) each =
    let first = All-head IsNameByte byte name each in
    let other : (byte == 10) ≡ false = grind (arith, nat_tests, first.0) in
    rw (other, name_plain name (All-tail IsNameByte byte name each)) refl

-- no byte of names, each behind a slash, is an LF
joined_plain : (names : List (List ℕ)) → All IsName names → is_plain (joined names) ≡ true
joined_plain [] each = refl
joined_plain (name ∷ names) each =
    let first = name_plain name (All-head IsName name names each).bytes in
    plain-append name (joined names) first (joined_plain names (All-tail IsName name names each))

spelled_plain : (some : Bool) (names : List ℕ) → is_plain names ≡ true → is_plain (cond some names (47 ∷ [])) ≡ true
spelled_plain true names plain = plain
spelled_plain false names plain = refl

-- no byte of a path is an LF
path_plain : (path : List ℕ) → IsPath path → is_plain path ≡ true
path_plain path is =
    rw is.spelled
    (spelled_plain (ltb 0 (length is.names)) (joined is.names) (joined_plain is.names is.each))

-- no byte of an operation's word is an LF
op_plain : (op : OpWord) → is_plain (op_word op) ≡ true
op_plain ops.Opens = refl
op_plain ops.Execs = refl
op_plain ops.Reads = refl
op_plain ops.Writes = refl
op_plain ops.ClosesWrite = refl
op_plain ops.ClosesRead = refl
op_plain ops.Attribs = refl
op_plain ops.Creates = refl
op_plain ops.MakesDir = refl
op_plain ops.Unlinks = refl
op_plain ops.RemovesDir = refl
op_plain ops.Renames = refl

-- no byte of the words is an LF
abbrev are_plain : List (List ℕ) → Bool
are_plain words = list_all is_plain words

-- nor of a second path
second_plain : (op : OpWord) (second : Option (List ℕ)) → FitsOp op second → are_plain (second_words second) ≡ true
second_plain ops.Renames second is = rw (is.1, path_plain is.0 is.2) refl
second_plain _ second none = rw none refl

-- words without an LF have none where they are joined by spaces
join_plain : (words : List (List ℕ)) → are_plain words ≡ true → is_plain (join_with_byte 32 words) ≡ true
join_plain [] plain = refl
join_plain (word ∷ []) plain = (and_parts (is_plain word) true plain).0
join_plain (word ∷ next ∷ more) plain =
    let parts = and_parts (is_plain word) (are_plain (next ∷ more)) plain in
    plain-append word (32 ∷ join_with_byte 32 (next ∷ more)) parts.0 (join_plain (next ∷ more) parts.1)

-- no byte of a line's words is an LF
words_plain : (line : Line) → Fits line → are_plain (words_of line) ≡ true
words_plain (One (steps.MkFile path)) fits = rw (path_plain path fits) refl
words_plain (One (steps.MkDir path)) fits = rw (path_plain path fits) refl
words_plain (One steps.MkFs) fits = refl
words_plain (One (steps.Mount fs path)) fits =
    rw (decimal_plain fs (omega (arith, fits.0.1)), path_plain path fits.1) refl
words_plain (One (steps.Umount path)) fits = rw (path_plain path fits) refl
words_plain (One (steps.Limit entries)) fits = rw (decimal_plain entries (omega (arith, fits.1))) refl
words_plain (One (steps.Init flags)) fits = rw (hex_plain flags (omega (arith, fits))) refl
words_plain (One (steps.Mark group flags mask path)) fits =
    rw (
      decimal_plain group (omega (arith, fits.0.1)),
      hex_plain flags (omega (arith, fits.1)),
      hex_plain mask fits.2,
      path_plain path fits.3,
    ) refl
words_plain (One (steps.Begin access pid tid op path second)) fits =
    rw (
      decimal_plain access (omega (arith, fits.0.1)),
      decimal_plain pid (omega (arith, fits.1.1)),
      decimal_plain tid (omega (arith, fits.2.1)),
      op_plain op,
      path_plain path fits.3,
      second_plain op second fits.4,
    ) refl
words_plain (One (steps.Advance access)) fits = rw (decimal_plain access (omega (arith, fits.1))) refl
words_plain (One (steps.Read group size)) fits =
    rw (decimal_plain group (omega (arith, fits.0.1)), decimal_plain size (omega (arith, fits.1))) refl
words_plain (One (steps.Write group bytes)) fits =
    rw (decimal_plain group (omega (arith, fits.0.1)), bytes_plain bytes fits.1) refl
words_plain (One (steps.Close group)) fits = rw (decimal_plain group (omega (arith, fits.1))) refl
words_plain (One steps.Grace) fits = refl
words_plain (Run access) fits = rw (decimal_plain access (omega (arith, fits.1))) refl

-- no byte of a line is an LF
pub line_plain : (line : Line) → Fits line → is_plain (join_with_byte 32 (words_of line)) ≡ true
line_plain line fits = join_plain (words_of line) (words_plain line fits)
