-- Words in lists: where they go on with others, and where they end.
use Rattle.std.proofs.Common.{◌≡◌, ℕ, ◌<◌, ◌≤◌, zero, suc, List, [], ◌∷◌, ◌++◌, None, length, refl, arith, slice_get}
use Rattle.std.specs.Prelude.{IsSome}

-- words that more are put behind
pub front : (words more : List ℕ) (place : ℕ) → place < length words
    → slice_get (words ++ more) place ≡ slice_get words place
front [] more place small = absurd (omega arith)
front (word ∷ words) more zero small = refl
front (word ∷ words) more (suc place) small = front words more place (omega arith)

-- there is a word only below the length
pub within : (words : List ℕ) (place : ℕ) → IsSome (slice_get words place) → place < length words
within [] place some = absurd cc
within (word ∷ words) zero some = omega arith
within (word ∷ words) (suc place) some = omega (arith, within words place some)

-- and where there is none, the words have ended
pub ended : (words : List ℕ) (place : ℕ) → slice_get words place ≡ None → length words ≤ place
ended [] place none = omega arith
ended (word ∷ words) zero none = absurd cc
ended (word ∷ words) (suc place) none = omega (arith, ended words place none)
