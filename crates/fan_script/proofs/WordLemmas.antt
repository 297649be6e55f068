-- What is cut off at the first space, and that it is cut off again.
use Rattle.std.proofs.Common.{◌≡◌, ℕ, ◌+◌, true, not, ltb, List, [], ◌∷◌, ◌++◌, length, get_or, take, drop, Some, refl, subst, arith, length-append}
use Rattle.std.specs.List.{position, position_or_len}
use Rattle.std.proofs.lemmas.Bool.{and_parts, ltb-true, lt-ltb, eqb-true}
use Rattle.std.proofs.lemmas.List.{take_at, drop_at, drop-drop}
use Rattle.std.proofs.lemmas.List.Sums.{split_at_first, passes_at_first}
use Rattle.std.proofs.lemmas.Option.{cond_some, option_and_then_some, some_pair_parts}
use Rattle.fan_text.proofs.SpaceLemmas.{is_space, is_spaceless}
use Rattle.fan_script.specs.declared.line.Line.{Line}
use Rattle.fan_script.specs.Lines.{LineOf}
use Rattle.fan_script.specs.Reading.{split_at_space}

-- the first space stands behind a word that has none
position_behind : (word rest : List ℕ) → is_spaceless word ≡ true
    → position_or_len is_space (word ++ 32 ∷ rest) ≡ length word
position_behind [] rest h = refl
position_behind (c ∷ word) rest h =
    let parts = and_parts (not (is_space c)) (is_spaceless word) h in
    rw (parts.0, position_behind word rest parts.1) (omega arith)

-- what stands behind a word and one byte
drop_behind : (word rest : List ℕ) (c : ℕ) → drop (length word + 1) (word ++ c ∷ rest) ≡ rest
drop_behind word rest c =
    rw (← drop-drop 1 (length word) (word ++ c ∷ rest), drop_at word (c ∷ rest) (length word) refl) refl

-- a word without a space, and what stands behind its space, are cut apart
pub split_again : (word rest : List ℕ) → is_spaceless word ≡ true
    → split_at_space (word ++ 32 ∷ rest) ≡ Some (word, rest)
unfolding split_at_space
split_again word rest h =
    let place = position_behind word rest h in
    let within : ltb (length word) (length (word ++ 32 ∷ rest)) ≡ true =
    lt-ltb _ _ (omega (arith, length-append word (32 ∷ rest))) in
    rw (place, within, take_at word (32 ∷ rest) (length word) refl, drop_behind word rest 32) refl

-- the bytes are what stands before the first space, the space, and what stands behind it
found_at : (bytes : List ℕ) (at : ℕ) → position is_space bytes ≡ Some at
    → bytes ≡ take at bytes ++ 32 ∷ drop (at + 1) bytes
found_at bytes at e =
    let first = position_or_len is_space bytes in
    let found = cond_some (ltb first (length bytes)) first at e in
    let within = ltb-true _ _ found.0 in
    let space : get_or bytes first 0 ≡ 32 = eqb-true _ _ (passes_at_first is_space bytes 0 within) in
    let split = split_at_first is_space bytes 0 within in
    subst (λ (k : ℕ). bytes ≡ take k bytes ++ 32 ∷ drop (k + 1) bytes) found.1
    (subst (λ (c : ℕ). bytes ≡ take first bytes ++ c ∷ drop (first + 1) bytes) space split)

-- what is cut apart at a space, with the space between, is the whole
pub split_takes : (bytes word rest : List ℕ) → split_at_space bytes ≡ Some (word, rest)
    → bytes ≡ word ++ 32 ∷ rest
unfolding split_at_space
split_takes bytes word rest e =
    option_and_then_some _ _ _ e (λ at found cut.
    let parts = some_pair_parts (take at bytes) word (drop (at + 1) bytes) rest cut in
    rw (← parts.0, ← parts.1) (found_at bytes at found))

-- the line is spelled by this first word and these fields
abbrev pub Spells : List ℕ → List ℕ → Line → Type 0
Spells name fields line = LineOf (name ++ 32 ∷ fields) line
