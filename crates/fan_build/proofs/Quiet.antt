-- Where nothing is altered, no mark is retired.
use Rattle.std.proofs.Common.{◌≡◌, ℕ, ◌+◌, zero, suc, Bool, true, false, cond, List, [], ◌∷◌, Option, Some, None, refl, sym, arith}
use Rattle.std.proofs.lemmas.Bool.{cond_both, false≢true}
use Rattle.std.specs.Prelude.{is_some, not, ◌==◌, ◌&&◌, ◌||◌}
use Rattle.fan_bits.specs.declared.change.Change.{Change}
use Rattle.fan_bits.specs.declared.mark.Mark.{Mark}
use Rattle.fan_bits.specs.Marks.{updated}
use Rattle.fan_rows.specs.Trees.{Tree, child, links_of, marks_in, top}
use Rattle.fan_build.specs.declared.edit.Edit.{Edit}
use Rattle.fan_build.specs.declared.effect.Effect.{Effect}
use Rattle.fan_build.specs.declared.effect.Effects.{Effects}
use Rattle.fan_build.specs.Edits.{added_effect, chain_effect, goes, is_past, kept, no_effect, replaced_effect, stays}
use Rattle.fan_build.specs.Effects.{joined, tree_effect}
use Rattle.fan_build.proofs.ChainSteps.{rest_effect}

-- no mark is retired, if none is altered
abbrev IsQuiet : Effect → Type 0
IsQuiet effect = effect.altered ≡ false → effect.marks ≡ 0

added_quiet : (new : Option Mark) (left : Bool) → IsQuiet (added_effect new left)
added_quiet None left none = refl
added_quiet (Some mark) left none = refl

chain_quiet : (change : Change) (marks : List Mark) → IsQuiet (chain_effect change marks)
chain_quiet change [] = added_quiet (updated None change) false
chain_quiet change (mark ∷ marks) =
    let E = rest_effect change mark marks in
    cond_both (is_past change mark) (added_effect (updated None change) true)
    (replaced_effect (kept change mark) (stays (kept change mark) mark) E) IsQuiet
    (λ past. added_quiet (updated None change) true)
    (λ on. cond_both (stays (kept change mark) mark && not E.altered) (no_effect true) (record {
      altered = true;
      left = is_some (kept change mark) || E.left;
      taken = E.taken + cond (is_some (kept change mark)) 1 0;
      marks = E.marks + cond (stays (kept change mark) mark) 0 1;
    }) IsQuiet (λ settled quiet. refl) (λ moves no. absurd (false≢true (sym no))))

-- four tests that fail
pub record AllFail (a b c d : Bool) : Type 0 where
  pub first : a ≡ false
  pub second : b ≡ false
  pub third : c ≡ false
  pub fourth : d ≡ false

pub all_fail : (a b c d : Bool) → a || b || c || d ≡ false → AllFail a b c d
all_fail false false false false none = record { first = refl; second = refl; third = refl; fourth = refl }
all_fail true b c d none = absurd cc
all_fail false true c d none = absurd cc
all_fail false false true d none = absurd cc
all_fail false false false true none = absurd cc

joined_quiet : (all : Effects) → IsQuiet all.first → IsQuiet all.second → IsQuiet all.third
    → IsQuiet all.fourth → IsQuiet (joined all)
joined_quiet all first second third fourth none =
    let each = all_fail all.first.altered all.second.altered all.third.altered all.fourth.altered none in
    omega (arith, first each.first, second each.second, third each.third, fourth each.fourth)

pub tree_quiet : (edit : Edit) (depth digit : ℕ) (tree : Tree) → IsQuiet (tree_effect edit depth digit tree)
tree_quiet edit zero digit tree =
    cond_both (goes edit.scope (top tree) 0 digit) (chain_effect edit.change (marks_in (links_of tree)))
    (no_effect (not (top tree == 0))) IsQuiet
    (λ comes. chain_quiet edit.change (marks_in (links_of tree))) (λ stay none. refl)
tree_quiet edit (suc depth) digit tree =
    let all : Effects = record {
      first = tree_effect edit depth 0 (child tree 0);
      second = tree_effect edit depth 1 (child tree 1);
      third = tree_effect edit depth 2 (child tree 2);
      fourth = tree_effect edit depth 3 (child tree 3);
    } in
    cond_both (goes edit.scope (top tree) (suc depth) digit) (joined all) (no_effect (not (top tree == 0)))
    IsQuiet
    (λ comes. joined_quiet all (tree_quiet edit depth 0 (child tree 0))
    (tree_quiet edit depth 1 (child tree 1))
    (tree_quiet edit depth 2 (child tree 2))
    (tree_quiet edit depth 3 (child tree 3)))
    (λ stay none. refl)
