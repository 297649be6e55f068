-- How a tree is made anew: where a change does not come, and at a chain.
use Rattle.std.proofs.Common.{◌≡◌, ◌∙◌, ℕ, ◌+◌, zero, suc, Bool, true, false, cond, List, [], ◌∷◌, ◌++◌, Option, Some, None, refl, sym, ap, subst, arith}
use Rattle.std.proofs.lemmas.Bool.{cond_both, false≢true}
use Rattle.std.proofs.lemmas.List.{length-map}
use Rattle.std.specs.Prelude.{not, ◌==◌, ◌&&◌}
use Rattle.fan_bits.specs.declared.change.Change.{Change}
use Rattle.fan_bits.specs.declared.mark.Mark.{Mark}
use Rattle.fan_bits.specs.Marks.{listed, updated}
use Rattle.fan_rows.specs.Rows.{Rows}
use Rattle.fan_rows.specs.Trees.{Branch, Chain, Tree, links_of, marks_in, top}
use Rattle.fan_build.specs.declared.edit.Edit.{Edit}
use Rattle.fan_build.specs.declared.effect.Effect.{Effect}
use Rattle.fan_build.specs.declared.made.Made.{Made}
use Rattle.fan_build.specs.Edits.{added_effect, chain_effect, edited, goes, has_any, is_at, is_past, kept, no_effect, replaced_effect, stays}
use Rattle.fan_build.specs.Effects.{IsEdited, tree_effect}
use Rattle.fan_build.specs.Steps.{ChainBefore, ChainMade, TreeBefore, TreeMade}
use Rattle.fan_build.proofs.Chains.{any_by_row}
use Rattle.fan_build.proofs.ChainSteps.{rest_effect, rest_target}
use Rattle.fan_build.proofs.Growing.{grown_none}
use Rattle.fan_build.proofs.TreeEffects.{effect_flat, effect_none}

-- ---- where a change does not come

-- a tree is itself with the change not made
pub unedited : (edit : Edit) (depth digit : ℕ) (tree : Tree) → goes edit.scope (top tree) depth digit ≡ false
    → IsEdited edit depth digit tree tree
unedited edit zero digit tree stays =
    (λ comes. absurd (false≢true (sym stays ∙ comes)), λ no. refl)
unedited edit (suc depth) digit tree stays =
    (λ comes. absurd (false≢true (sym stays ∙ comes)), λ no. refl)

pub tree_same : (words : ℕ → Option ℕ) (rows : Rows) (edit : Edit) (depth digit row : ℕ) (tree : Tree)
    → TreeBefore words rows edit depth digit row tree → goes edit.scope row depth digit ≡ false
    → TreeMade words words rows rows edit depth digit tree
    (record { row = row; altered = false; marks = 0; rows = 0 })
tree_same words rows edit depth digit row tree before stays =
    let test = subst (λ r. goes edit.scope r depth digit ≡ false) (sym before.top_is) stays in
    let none : no_effect (not (top tree == 0)) ≡ tree_effect edit depth digit tree =
    effect_none edit depth digit tree test in
    record {
      more = [];
      gone = [];
      new = tree;
      grown = grown_none words rows;
      lies = before.lies;
      top_is = before.top_is;
      told = unedited edit depth digit tree test;
      counts = λ one. refl;
      altered_is = ap (λ (effect : Effect). effect.altered) none;
      taken_is = ap (λ (effect : Effect). effect.taken) none;
      marks_is = ap (λ (effect : Effect). effect.marks) none;
      rows_is = refl;
      few = omega arith;
      same = λ quiet. (refl, refl, refl);
      left_is = sym (ap (λ (effect : Effect). effect.left) none);
    }

-- ---- at a chain

-- the effect on a chain tells whether a mark is left
added_left : (new : Option Mark) → (added_effect new false).left ≡ has_any (listed new)
added_left None = refl
added_left (Some mark) = refl

added_before : (new : Option Mark) (mark : Mark) (marks : List Mark)
    → (added_effect new true).left ≡ has_any (listed new ++ mark ∷ marks)
added_before None mark marks = refl
added_before (Some new) mark marks = refl

replaced_left : (left : Option Mark) (mark : Mark) (rest : Effect) (target : List Mark)
    → rest.left ≡ has_any target
    → (replaced_effect left (stays left mark) rest).left ≡ has_any (listed left ++ target)
replaced_left None mark rest target is = is
replaced_left (Some left) mark rest target is =
    cond_both (stays (Some left) mark && not rest.altered) (no_effect true) (record {
      altered = true;
      left = true;
      taken = rest.taken + 1;
      marks = rest.marks + cond (stays (Some left) mark) 0 1;
    }) (λ effect. effect.left ≡ true) (λ settled. refl) (λ moves. refl)

rest_left : (change : Change) (mark : Mark) (marks : List Mark)
    → (chain_effect change marks).left ≡ has_any (edited change marks) → (at : Bool) → is_at change mark ≡ at
    → (rest_effect change mark marks).left ≡ has_any (rest_target change mark marks)
rest_left change mark marks behind true is = rw is refl
rest_left change mark marks behind false is = rw is behind

chain_left_by : (change : Change) (mark : Mark) (marks : List Mark)
    → (rest_effect change mark marks).left ≡ has_any (rest_target change mark marks)
    → (past : Bool) → is_past change mark ≡ past
    → (chain_effect change (mark ∷ marks)).left ≡ has_any (edited change (mark ∷ marks))
chain_left_by change mark marks rest true is = rw is (added_before (updated None change) mark marks)
chain_left_by change mark marks rest false is =
    rw is (replaced_left (kept change mark) mark (rest_effect change mark marks)
    (rest_target change mark marks) rest)

pub chain_left : (change : Change) (marks : List Mark)
    → (chain_effect change marks).left ≡ has_any (edited change marks)
chain_left change [] = added_left (updated None change)
chain_left change (mark ∷ marks) =
    chain_left_by change mark marks
    (rest_left change mark marks (chain_left change marks) (is_at change mark) refl)
    (is_past change mark) refl

pub flat_before : (words : ℕ → Option ℕ) (rows : Rows) (edit : Edit) (depth digit row : ℕ) (tree : Tree)
    → TreeBefore words rows edit depth digit row tree → depth ≡ 0 → goes edit.scope row depth digit ≡ true
    → ChainBefore words rows row (links_of tree) (edited edit.change (marks_in (links_of tree)))
    (chain_effect edit.change (marks_in (links_of tree)))
flat_before words rows edit zero digit row (Chain links) before none comes =
    let test = subst (λ r. goes edit.scope r 0 digit ≡ true) (sym before.top_is) comes in
    record {
      chain = before.lies;
      first = before.top_is;
      apart = before.apart;
      enough = rw (effect_flat edit 0 digit (Chain links) refl test) before.enough;
      possible = before.possible test;
    }
flat_before words rows edit zero digit row (Branch of a b c d) before none comes = absurd before.lies
flat_before words rows edit (suc depth) digit row tree before none comes = absurd (omega arith)

pub flat_made : (words later : ℕ → Option ℕ) (rows after : Rows) (edit : Edit) (depth digit row : ℕ)
    (tree : Tree) (made : Made) → TreeBefore words rows edit depth digit row tree → depth ≡ 0
    → goes edit.scope row depth digit ≡ true
    → ChainMade words later rows after (links_of tree) (edited edit.change (marks_in (links_of tree)))
    (chain_effect edit.change (marks_in (links_of tree))) made
    → TreeMade words later rows after edit depth digit tree made
flat_made words later rows after edit zero digit row (Chain links) made before none comes is =
    let test = subst (λ r. goes edit.scope r 0 digit ≡ true) (sym before.top_is) comes in
    let effect : chain_effect edit.change (marks_in links) ≡ tree_effect edit 0 digit (Chain links) =
    effect_flat edit 0 digit (Chain links) refl test in
    record {
      more = is.more;
      gone = is.gone;
      new = Chain is.new;
      grown = is.grown;
      lies = is.chain;
      top_is = is.first;
      told = (λ yes. is.told, λ no. absurd (false≢true (sym no ∙ test)));
      counts = is.counts;
      altered_is = is.altered_is ∙ ap (λ (e : Effect). e.altered) effect;
      taken_is = is.taken_is ∙ ap (λ (e : Effect). e.taken) effect;
      marks_is = is.marks_is ∙ ap (λ (e : Effect). e.marks) effect;
      rows_is = is.rows_is;
      few = omega (arith, is.few, length-map links (λ link. link.row));
      same = λ quiet.
          let chain = is.same (ap (λ (e : Effect). e.altered) effect ∙ quiet) in
          (ap Chain chain.0, chain.1, chain.2);
      left_is = sym (ap (λ (e : Effect). e.left) effect)
          ∙ chain_left edit.change (marks_in links)
          ∙ ap has_any (sym is.told)
          ∙ sym (any_by_row later is.new is.chain);
    }
flat_made words later rows after edit zero digit row (Branch of a b c d) made before none comes is =
    absurd before.lies
flat_made words later rows after edit (suc depth) digit row tree made before none comes is =
    absurd (omega arith)
