-- Words without a space.
use Rattle.std.proofs.Common.{◌≡◌, ℕ, Bool, true, not, ◌==◌, List, ◌++◌}
use Rattle.std.specs.List.{list_all}
use Rattle.std.proofs.lemmas.List.Folds.{list_all-append}

-- the byte between two words
abbrev pub is_space : ℕ → Bool
is_space byte = byte == 32

-- no byte of the word is a space
abbrev pub is_spaceless : List ℕ → Bool
is_spaceless word = list_all (λ byte. not (is_space byte)) word

-- two words without a space have none behind one another
pub spaceless-append : (a b : List ℕ) → is_spaceless a ≡ true → is_spaceless b ≡ true
    → is_spaceless (a ++ b) ≡ true
spaceless-append a b first second = rw (list_all-append (λ byte. not (is_space byte)) a b, first) second
