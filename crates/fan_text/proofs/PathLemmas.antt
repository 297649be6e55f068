-- A word is read as a path exactly where it is a slash alone, or names each behind a slash.
use Rattle.std.proofs.Common.{◌≡◌, ℕ, ◌<◌, ◌≤◌, Bool, true, false, not, cond, eqb, ltb, List, [], ◌∷◌, ◌++◌, length, Decides, refl, sym, ap, ◌∙◌, inl, inr, arith, append-nil, length-append}
use Rattle.std.specs.Prelude.{◌⊎◌, All}
use Rattle.std.specs.Bool.{MatchBool}
use Rattle.std.specs.List.{AllWithin, HoldsAt, list_all, slice_split, join_with_byte}
use Rattle.std.proofs.lemmas.Bool.{ltb-false, lt-ltb, le-ltb, eqb-true, ne_eqb}
use Rattle.std.proofs.lemmas.Bool.Decides.{nat_tests, Decides-by_and}
use Rattle.std.proofs.lemmas.List.Elements.{All-from_all_within, All-nil, All-head, All-tail, All-weaker}
use Rattle.std.proofs.lemmas.List.Folds.{list_all_at}
use Rattle.std.proofs.lemmas.List.Splits.{slice_split_none, slice_split_at, length-slice_split, join_with_byte-slice_split}
use Rattle.fan_text.specs.Reading.{is_name, are_names, is_path_of, is_path}
use Rattle.fan_text.specs.Spelling.{IsNameByte, IsName, IsPath, joined}
use Rattle.fan_lists.proofs.Choices.{true_past}
use Rattle.fan_text.proofs.SpaceLemmas.{is_spaceless, spaceless-append}
use Rattle.fan_text.proofs.NameLemmas.{name_decides, name_spaceless}

-- the byte before each name
abbrev is_slash : ℕ → Bool
is_slash byte = eqb byte 47

-- the test of each name tells whether they are names
names_decide : (names : List (List ℕ)) → Decides (list_all is_name names) (All IsName names)
names_decide names = Decides-by_and is_name IsName (list_all is_name) name_decides refl (λ _ _. refl) names

-- a call of `all` over pieces, with a test of each, answers whether all pass
pub all_answers : (p : List ℕ → Bool) (pieces : List (List ℕ)) (r : Bool)
    → MatchBool r (AllWithin (λ piece. p piece ≡ true) pieces 0 (length pieces))
    ((k : ℕ) × (k < length pieces) × HoldsAt (λ piece. p piece ≡ false) pieces k) → r ≡ list_all p pieces
all_answers p pieces true h =
    let Passes : List ℕ → Type 0 = λ piece. p piece ≡ true in
    let decides = Decides-by_and p Passes (list_all p) (λ _. (λ e. e, λ e. e)) refl (λ _ _. refl) pieces in
    sym (decides.1 (All-from_all_within Passes pieces h))
all_answers p pieces false h = sym (list_all_at p pieces h.0 [] h.1 (h.2 []))

-- names, each behind a slash, are a slash and the names with a slash between each two
joined_is : (name : List ℕ) (names : List (List ℕ))
    → joined (name ∷ names) ≡ 47 ∷ join_with_byte 47 (name ∷ names)
joined_is name [] = rw append-nil refl
joined_is name (next ∷ names) = ap (λ (rest : List ℕ). 47 ∷ (name ++ rest)) (joined_is next names)

-- what stands behind a slash is its pieces, each behind a slash
joined_split : (pieces : List (List ℕ)) (bytes : List ℕ) → 0 < length pieces
    → join_with_byte 47 pieces ≡ bytes → 47 ∷ bytes ≡ joined pieces
joined_split [] bytes some e = absurd (omega arith)
joined_split (name ∷ names) bytes some e = ap (λ (rest : List ℕ). 47 ∷ rest) (sym e)
    ∙ sym (joined_is name names)

-- a name has no slash
no_slash : (name : List ℕ) → IsName name → All (λ byte. is_slash byte ≡ false) name
no_slash name h = All-weaker IsNameByte (λ byte. is_slash byte ≡ false)
    (λ byte is. ne_eqb byte 47 is.2) name h.bytes

-- names with a slash between each two are cut apart
split_joined : (name : List ℕ) (names : List (List ℕ)) → All IsName (name ∷ names)
    → slice_split is_slash (name ++ joined names) ≡ name ∷ names
split_joined name [] each =
    rw append-nil (slice_split_none is_slash name (no_slash name (All-head IsName name [] each)))
split_joined name (next ∷ names) each =
    slice_split_at is_slash name 47 (next ++ joined names)
    (no_slash name (All-head IsName name (next ∷ names) each)) refl
    ∙ ap (λ (rest : List (List ℕ)). name ∷ rest)
    (split_joined next names (All-tail IsName name (next ∷ names) each))

-- names are spelled as a path is
spelled_joined : (names : List (List ℕ)) → 0 < length names
    → joined names ≡ cond (ltb 0 (length names)) (joined names) (47 ∷ [])
spelled_joined names some = let more : ltb 0 (length names) ≡ true = lt-ltb _ _ some in rw more refl

-- a slash and what passes the test of names is a path
names_take : (bytes : List ℕ) → are_names bytes ≡ true → length (47 ∷ bytes) ≤ 4095 → IsPath (47 ∷ bytes)
unfolding are_names
names_take bytes e most =
    let pieces : List (List ℕ) = slice_split is_slash bytes in
    let some : 0 < length pieces = omega (arith, length-slice_split is_slash bytes) in
    record {
      names = pieces;
      each = (names_decide pieces).0 e;
      spelled = joined_split pieces bytes some (join_with_byte-slice_split 47 bytes)
          ∙ spelled_joined pieces some;
      most = most;
    }

-- a slash alone is a path
root_takes : (bytes : List ℕ) → length bytes ≡ 0 → length (47 ∷ bytes) ≤ 4095 → IsPath (47 ∷ bytes)
root_takes [] none most = record { names = []; each = All-nil IsName; spelled = refl; most = most }
root_takes (c ∷ bytes) none most = absurd (omega (arith, none))

-- behind a slash stands nothing, or names
behind_takes : (none names : Bool) → cond none true names ≡ true → (none ≡ true) ⊎ (names ≡ true)
behind_takes true names e = inl refl
behind_takes false names e = inr e

-- what passes the test is a path
path_takes_of : (word : List ℕ) → is_path_of word ≡ true → length word ≤ 4095 → IsPath word
path_takes_of [] e most = absurd cc
path_takes_of (c ∷ rest) e most =
    let first = true_past (not (eqb c 47)) _ e in
    let slash : c ≡ 47 = grind (arith, nat_tests) in
    let path : IsPath (47 ∷ rest) = elim (behind_takes (eqb (length rest) 0) (are_names rest) first.1) [
      | inl none ↦ root_takes rest (eqb-true _ _ none) most
      | inr names ↦ names_take rest names most
    ] in
    rw slash path

-- what passes the test is a path
path_takes : (word : List ℕ) → is_path word ≡ true → IsPath word
unfolding is_path
path_takes word e =
    let found = true_past (ltb 4095 (length word)) _ e in
    path_takes_of word found.1 (ltb-false _ _ found.0)

-- names, each behind a slash, pass the test
joined_passes : (name : List ℕ) (names : List (List ℕ)) → All IsName (name ∷ names)
    → is_path_of (joined (name ∷ names)) ≡ true
unfolding are_names
joined_passes name names each =
    let first : IsName name = All-head IsName name names each in
    let some : eqb (length (name ++ joined names)) 0 ≡ false =
    ne_eqb _ _ (λ e. absurd (omega (arith, e, first.some, length-append name (joined names)))) in
    rw (some, split_joined name names each) ((names_decide (name ∷ names)).1 each)

-- a path passes the test
path_again_of : (names : List (List ℕ)) → All IsName names
    → is_path_of (cond (ltb 0 (length names)) (joined names) (47 ∷ [])) ≡ true
path_again_of [] each = refl
path_again_of (name ∷ names) each =
    let some : ltb 0 (length (name ∷ names)) ≡ true = lt-ltb _ _ (omega arith) in
    rw some (joined_passes name names each)

-- a path passes the test
path_again : (word : List ℕ) → IsPath word → is_path word ≡ true
unfolding is_path
path_again word h =
    let most : ltb 4095 (length word) ≡ false = le-ltb _ _ h.most in
    rw most (rw h.spelled (path_again_of h.names h.each))

-- the test tells whether a word is a path
pub path_decides : (word : List ℕ) → Decides (is_path word) (IsPath word)
path_decides word = (path_takes word, path_again word)

-- names, each behind a slash, have no space among them
joined_spaceless : (names : List (List ℕ)) → All IsName names → is_spaceless (joined names) ≡ true
joined_spaceless [] each = refl
joined_spaceless (name ∷ names) each =
    let first = name_spaceless name (All-head IsName name names each) in
    spaceless-append name (joined names) first (joined_spaceless names (All-tail IsName name names each))

spelled_spaceless : (some : Bool) (names : List ℕ) → is_spaceless names ≡ true
    → is_spaceless (cond some names (47 ∷ [])) ≡ true
spelled_spaceless true names h = h
spelled_spaceless false names h = refl

-- no byte of a path is a space
pub path_spaceless : (path : List ℕ) → IsPath path → is_spaceless path ≡ true
path_spaceless path h = rw h.spelled
    (spelled_spaceless (ltb 0 (length h.names)) (joined h.names) (joined_spaceless h.names h.each))

spelled_some : (names : List (List ℕ)) → 1 ≤ length (cond (ltb 0 (length names)) (joined names) (47 ∷ []))
spelled_some [] = omega arith
spelled_some (name ∷ names) =
    let some : ltb 0 (length (name ∷ names)) ≡ true = lt-ltb _ _ (omega arith) in
    rw some (omega arith)

-- a path has a byte
pub path_some : (path : List ℕ) → IsPath path → 1 ≤ length path
path_some path h = rw h.spelled (spelled_some h.names)
