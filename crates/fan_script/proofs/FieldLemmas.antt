-- Each field: what is read is spelled so, and what is spelled so is read.
use Rattle.std.proofs.Common.{◌≡◌, ℕ, ◌^◌, ◌<◌, ◌≤◌, true, false, ltb, List, ◌∷◌, ◌++◌, Some, refl, arith}
use Rattle.std.specs.Fmt.{decimal}
use Rattle.std.proofs.lemmas.Bool.{ltb-false, le-ltb}
use Rattle.std.proofs.lemmas.Option.{cond_some, option_and_then_some, same_Some, some_pair_parts}
use Rattle.fan_text.specs.Reading.{is_path}
use Rattle.fan_text.specs.Spelling.{IsPath, hex}
use Rattle.fan_text.proofs.DecimalLemmas.{decimal_takes, decimal_again, decimal_spaceless}
use Rattle.fan_text.proofs.HexLemmas.{hex_takes, hex_again, hex_spaceless}
use Rattle.fan_text.proofs.PathLemmas.{path_decides}
use Rattle.fan_lists.proofs.Choices.{some_past}
use Rattle.fan_script.specs.Reading.{number_at, number_and_rest, flags_at, flags_and_rest, mask_and_rest, path_at}
use Rattle.fan_script.proofs.WordLemmas.{split_takes, split_again}

-- the word is the decimal of a number in range
pub record IsNumeral (least most : ℕ) (word : List ℕ) (n : ℕ) : Type 0 where
  pub spelled : word ≡ decimal n
  pub low : least ≤ n
  pub high : n ≤ most

-- the word that is read is the decimal of a number in range
pub number_takes : (least most : ℕ) (word : List ℕ) (n : ℕ) → number_at least most word ≡ Some n
    → IsNumeral least most word n
unfolding number_at
number_takes least most word n e =
    option_and_then_some _ _ _ e (λ value read more.
    let low = some_past (ltb value least) _ n more in
    let high = some_past (ltb most value) (Some value) n low.1 in
    rw (← same_Some value n high.1) (record {
      spelled = (decimal_takes word value read).0;
      low = ltb-false _ _ low.0;
      high = ltb-false _ _ high.0;
    }))

-- the decimal of a number in range is read again
pub number_again : (least most n : ℕ) → least ≤ n → n ≤ most → most < 2 ^ 64
    → number_at least most (decimal n) ≡ Some n
unfolding number_at
number_again least most n low high top =
    let not_low : ltb n least ≡ false = le-ltb _ _ low in
    let not_high : ltb most n ≡ false = le-ltb _ _ high in
    rw (decimal_again n (omega arith), not_low, not_high) refl

-- the first word is the decimal of a number in range, and a space and the rest stand behind it
pub record IsNumberBefore (least most : ℕ) (bytes : List ℕ) (n : ℕ) (rest : List ℕ) : Type 0 where
  pub spelled : bytes ≡ decimal n ++ 32 ∷ rest
  pub low : least ≤ n
  pub high : n ≤ most

-- the first word that is read is the decimal of a number in range
pub split_number_takes : (least most : ℕ) (bytes : List ℕ) (n : ℕ) (rest : List ℕ)
    → number_and_rest least most bytes ≡ Some (n, rest) → IsNumberBefore least most bytes n rest
unfolding number_and_rest
split_number_takes least most bytes n rest e =
    option_and_then_some _ _ _ e (λ (parts : List ℕ × List ℕ) cut more.
    option_and_then_some _ _ _ more (λ number read same.
    let pair = some_pair_parts number n parts.1 rest same in
    let numeral = number_takes least most parts.0 number read in
    rw (← pair.0, ← pair.1) (record {
      spelled = rw (← numeral.spelled) (split_takes bytes parts.0 parts.1 cut);
      low = numeral.low;
      high = numeral.high;
    })))

-- a decimal before a space is read again
pub split_number_again : (least most n : ℕ) (rest : List ℕ) → least ≤ n → n ≤ most → most < 2 ^ 64
    → number_and_rest least most (decimal n ++ 32 ∷ rest) ≡ Some (n, rest)
unfolding number_and_rest
split_number_again least most n rest low high top =
    let spaceless = decimal_spaceless n (omega arith) in
    rw (split_again (decimal n) rest spaceless, number_again least most n low high top)
    refl

-- the word that is read as flags spells them
pub flags_takes : (word : List ℕ) (n : ℕ) → flags_at word ≡ Some n → (word ≡ hex n) × (n < 2 ^ 32)
unfolding flags_at
flags_takes word n e =
    option_and_then_some _ _ _ e (λ value read more.
    let high = some_past (ltb 4294967295 value) (Some value) n more in
    let most : value ≤ 4294967295 = ltb-false _ _ high.0 in
    rw (← same_Some value n high.1) ((hex_takes word value read).0, omega arith))

-- flags are read again
pub flags_again : (n : ℕ) → n < 2 ^ 32 → flags_at (hex n) ≡ Some n
unfolding flags_at
flags_again n small =
    let not_high : ltb 4294967295 n ≡ false = le-ltb _ _ (omega arith) in
    rw (hex_again n (omega arith), not_high) refl

-- the first word that is read as flags spells them, and a space and the rest stand behind it
pub split_flags_takes : (bytes : List ℕ) (n : ℕ) (rest : List ℕ) → flags_and_rest bytes ≡ Some (n, rest)
    → (bytes ≡ hex n ++ 32 ∷ rest) × (n < 2 ^ 32)
unfolding flags_and_rest
split_flags_takes bytes n rest e =
    option_and_then_some _ _ _ e (λ (parts : List ℕ × List ℕ) cut more.
    option_and_then_some _ _ _ more (λ flags read same.
    let pair = some_pair_parts flags n parts.1 rest same in
    let word = flags_takes parts.0 flags read in
    rw (← pair.0, ← pair.1) (rw (← word.0) (split_takes bytes parts.0 parts.1 cut), word.1)))

-- flags before a space are read again
pub split_flags_again : (n : ℕ) (rest : List ℕ) → n < 2 ^ 32
    → flags_and_rest (hex n ++ 32 ∷ rest) ≡ Some (n, rest)
unfolding flags_and_rest
split_flags_again n rest small =
    rw (split_again (hex n) rest (hex_spaceless n (omega arith)), flags_again n small) refl

-- the first word that is read as a mask spells it, and a space and the rest stand behind it
pub split_mask_takes : (bytes : List ℕ) (n : ℕ) (rest : List ℕ) → mask_and_rest bytes ≡ Some (n, rest)
    → (bytes ≡ hex n ++ 32 ∷ rest) × (n < 2 ^ 64)
unfolding mask_and_rest
split_mask_takes bytes n rest e =
    option_and_then_some _ _ _ e (λ (parts : List ℕ × List ℕ) cut more.
    option_and_then_some _ _ _ more (λ mask read same.
    let pair = some_pair_parts mask n parts.1 rest same in
    let word = hex_takes parts.0 mask read in
    rw (← pair.0, ← pair.1) (rw (← word.0) (split_takes bytes parts.0 parts.1 cut), word.1)))

-- a mask before a space is read again
pub split_mask_again : (n : ℕ) (rest : List ℕ) → n < 2 ^ 64
    → mask_and_rest (hex n ++ 32 ∷ rest) ≡ Some (n, rest)
unfolding mask_and_rest
split_mask_again n rest small =
    rw (split_again (hex n) rest (hex_spaceless n small), hex_again n small) refl

-- the word that is read as a path is that path
pub path_takes : (word path : List ℕ) → path_at word ≡ Some path → (word ≡ path) × IsPath path
unfolding path_at
path_takes word path e =
    let found = cond_some (is_path word) word path e in
    (found.1, rw (← found.1) ((path_decides word).0 found.0))

-- a path is read again
pub path_again : (path : List ℕ) → IsPath path → path_at path ≡ Some path
unfolding path_at
path_again path h = let passes : is_path path ≡ true = (path_decides path).1 h in
    rw passes refl
