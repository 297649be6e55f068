-- The lines of a round, by its kind.
use Rattle.std.proofs.Common.{◌≤◌, Bool, true, false, List, [], ◌∷◌, ◌++◌, length, ◌==◌, arith}
use Rattle.std.specs.Prelude.{if◌then◌else◌}
use Rattle.fan_bulk.specs.declared.rounds.Drawn.{Drawn}
use Rattle.fan_bulk.specs.Lines.{Round, allowed_lines, answer_lines, begin_lines, is_denied, is_opening, lines_by, mark_line}
use Rattle.fan_script.specs.declared.line.Line.{Line}
use Rattle.fan_script.specs.declared.line.Line.TheVariants.{One}
use Rattle.fan_script.specs.declared.step.OpWord.TheVariants as ops
use Rattle.fan_script.specs.declared.step.Step.TheVariants as steps

-- what holds of both is true of either
either : {X : Type 0} (P : X → Type 0) (b : Bool) (x y : X) → P x → P y → P (if b then x else y)
either P true x y p q = p
either P false x y p q = q

-- what holds of the lines of each kind of round
pub by_kind : (P : List Line → Type 0) (round : Round) (drawn : Drawn)
    → P (begin_lines round.access ops.Opens drawn.file ++ answer_lines round.access 1 round.first 2)
    → P (begin_lines round.access ops.Opens drawn.file ++ allowed_lines round)
    → P (begin_lines round.access ops.Writes drawn.file)
    → P (mark_line 0x1 drawn.file ∷ [])
    → P (mark_line 0x2 drawn.file ∷ [])
    → P (One (steps.Read 3 65536) ∷ One steps.Grace ∷ [])
    → P (lines_by round drawn)
by_kind P round drawn denied allowed written marked unmarked read =
    let begun = begin_lines round.access ops.Opens drawn.file in
    either P (is_opening drawn) _ _
    (either (λ asked. P (begun ++ asked)) (is_denied drawn) _ _ denied allowed)
    (either P (drawn.kind == 4) _ _ written
    (either P (drawn.kind == 5) _ _ marked (either P (drawn.kind == 6) _ _ unmarked read)))

-- a round has eight lines at most
pub few_lines : (round : Round) (drawn : Drawn) → length (lines_by round drawn) ≤ 8
unfolding answer_lines begin_lines
few_lines round drawn =
    by_kind (λ lines. length lines ≤ 8) round drawn
    (omega arith) (omega arith) (omega arith) (omega arith) (omega arith) (omega arith)
