-- The first line of a script, and what follows it.
use Rattle.std.proofs.Common.{◌≡◌, ℕ, suc, ◌+◌, ◌<◌, ◌≤◌, List, [], ◌∷◌, Bool, true, false, cond, not, ltb, ◌==◌, Option, Some, None, length, take, drop, refl, arith}
use Rattle.std.specs.List.{slice_split, onto_first, position, position_or_len}
use Rattle.std.proofs.lemmas.Bool.{ltb-true}
use Rattle.std.proofs.lemmas.Bool.Decides.{nat_tests}
use Rattle.std.proofs.lemmas.List.Splits.{slice_split_first, length-slice_split}
use Rattle.std.proofs.lemmas.Option.{cond_some}
use Rattle.fan_shell.specs.Script.{without_empty_last, lines_of}

abbrev is_lf : ℕ → Bool
is_lf byte = byte == 10

-- only the last piece is dropped where it is empty
not_last : (piece : List ℕ) (pieces : List (List ℕ)) → 0 < length pieces
    → without_empty_last (piece ∷ pieces) ≡ piece ∷ without_empty_last pieces
not_last piece [] some = absurd (omega arith)
not_last piece (next ∷ more) some = refl

-- the first line ends before the first LF
pub lines_at : (script : List ℕ) (at : ℕ) → position is_lf script ≡ Some at
    → lines_of script ≡ take at script ∷ lines_of (drop (at + 1) script)
unfolding lines_of
lines_at script at found =
    let first = position_or_len is_lf script in
    let place = cond_some (ltb first (length script)) first at found in
    let split = slice_split_first is_lf script 0 (ltb-true _ _ place.0) in
    let later = drop (at + 1) script in
    let parts : slice_split is_lf script ≡ take at script ∷ slice_split is_lf later = rw place.1 at split in
    let some : 0 < length (slice_split is_lf later) = omega (arith, length-slice_split is_lf later) in
    rw parts (not_last (take at script) (slice_split is_lf later) some)

whole_piece : (bytes : List ℕ) → length bytes ≤ position_or_len is_lf bytes
    → slice_split is_lf bytes ≡ bytes ∷ []
whole_piece [] none = refl
whole_piece (byte ∷ bytes) none =
    let pieces = slice_split is_lf bytes in
    elim (is_lf byte) as (λ (lf : Bool).
    length (byte ∷ bytes) ≤ cond (not lf) (1 + position_or_len is_lf bytes) 0
    → cond lf ([] ∷ pieces) (onto_first byte pieces) ≡ (byte ∷ bytes) ∷ []) [
      | true ↦ λ past. absurd (omega arith)
      | false ↦ λ past. rw (whole_piece bytes (omega arith)) refl
    ] none

last_piece : (script : List ℕ) → 0 < length script
    → without_empty_last (script ∷ []) ≡ script ∷ without_empty_last ([] ∷ [])
last_piece [] some = absurd (omega arith)
last_piece (byte ∷ bytes) some =
    let some_length : (suc (length bytes) == 0) ≡ false = grind (arith, nat_tests) in
    rw some_length refl

not_found : (b : Bool) (at : ℕ) → ◌≡◌ {A = Option ℕ} (cond b (Some at) None) None → b ≡ false
not_found true at none = cc
not_found false at none = refl

-- without an LF the whole script is its last line
pub lines_none : (script : List ℕ) → 0 < length script → position is_lf script ≡ None
    → lines_of script ≡ script ∷ lines_of []
unfolding lines_of
lines_none script some found =
    let first = position_or_len is_lf script in
    let past = not_found (ltb first (length script)) first found in
    let whole : length script ≤ position_or_len is_lf script = grind (arith, nat_tests) in
    rw (whole_piece script whole) (last_piece script some)
