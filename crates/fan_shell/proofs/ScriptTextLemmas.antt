-- The text of lines is a script, and its transcript is that of their steps.
use Rattle.std.proofs.Common.{◌≡◌, ℕ, Bool, true, false, ◌==◌, List, [], ◌∷◌, ◌++◌, All, Some, map, refl, ap, ◌∙◌, arith, append-nil}
use Rattle.std.specs.List.{join_with_byte, slice_split}
use Rattle.std.proofs.lemmas.Bool.{and_parts}
use Rattle.std.proofs.lemmas.Bool.Decides.{nat_tests}
use Rattle.std.proofs.lemmas.List.Elements.{All-head, All-tail, All-nil, All-cons}
use Rattle.std.proofs.lemmas.List.Splits.{slice_split_at}
use Rattle.fan_machine.specs.World.{initial_world}
use Rattle.fan_script.specs.declared.line.Line.{Line}
use Rattle.fan_script.specs.Lines.{Fits, words_of}
use Rattle.fan_shell.specs.Bulk.{script_text}
use Rattle.fan_shell.specs.declared.status.Status.TheVariants as statuses
use Rattle.fan_shell.specs.Script.{AllTaken, Transcript, lines_of, without_empty_last}
use Rattle.fan_shell.specs.Steps.{all_texts}
use Rattle.fan_shell.proofs.LfLemmas.{is_other, is_plain, line_plain}
use Rattle.fan_shell.proofs.StepLemmas.{printed_follows}

abbrev is_lf : ℕ → Bool
is_lf byte = byte == 10

-- the bytes of a line
abbrev spelled : Line → List ℕ
spelled line = join_with_byte 32 (words_of line)

-- no byte of a plain word is an LF
no_lf : (word : List ℕ) → is_plain word ≡ true → All (λ byte. is_lf byte ≡ false) word
no_lf [] plain = All-nil (λ byte. is_lf byte ≡ false)
no_lf (byte ∷ word) plain =
    let parts = and_parts (is_other byte) (is_plain word) plain in
    let first : is_lf byte ≡ false = grind (arith, nat_tests, parts.0) in
    All-cons (λ byte. is_lf byte ≡ false) byte word first (no_lf word parts.1)

-- the text of lines is split into them, and an empty piece behind the last LF
split_text : (lines : List Line) → All Fits lines
    → slice_split is_lf (script_text lines) ≡ map spelled lines ++ [] ∷ []
split_text [] fits = refl
split_text (line ∷ more) fits =
    let plain = no_lf (spelled line) (line_plain line (All-head Fits line more fits)) in
    slice_split_at is_lf (spelled line) 10 (script_text more) plain refl
    ∙ ap (λ pieces. spelled line ∷ pieces) (split_text more (All-tail Fits line more fits))

-- only the empty piece behind the others is left out
without_last : (pieces : List (List ℕ)) → without_empty_last (pieces ++ [] ∷ []) ≡ pieces
without_last [] = refl
without_last (piece ∷ []) = refl
without_last (piece ∷ next ∷ more) = ap (λ pieces. piece ∷ pieces) (without_last (next ∷ more))

-- the lines of the text are those lines
text_lines : (lines : List Line) → All Fits lines → lines_of (script_text lines) ≡ map spelled lines
unfolding lines_of
text_lines lines fits = rw (split_text lines fits) (without_last (map spelled lines))

-- each of them is taken as itself
all_taken : (lines : List Line) → All Fits lines
    → AllTaken (map spelled lines) (map (λ line. Some line) lines)
all_taken [] fits = tt
all_taken (line ∷ more) fits =
    ((refl, All-head Fits line more fits), all_taken more (All-tail Fits line more fits))

-- so the transcript of the text has the replies to the steps of the lines
pub text_transcript : (lines : List Line) → All Fits lines
    → Transcript (script_text lines) (all_texts initial_world lines) statuses.Ok
text_transcript lines fits = record {
  lines = map (λ line. Some line) lines;
  taken = rw (text_lines lines fits) (all_taken lines fits);
  said = simp append-nil at (printed_follows lines [] initial_world 1);
}
