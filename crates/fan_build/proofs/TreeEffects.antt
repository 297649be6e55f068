-- The effect of a change on a tree.
use Rattle.std.proofs.Common.{◌≡◌, ◌≢◌, ◌∙◌, ℕ, ◌+◌, ◌-◌, ◌*◌, ◌≤◌, ◌<◌, ◌^◌, zero, suc, Bool, true, false, cond, Option, length, refl, sym, subst, arith, lit<}
use Rattle.std.proofs.lemmas.Bool.{cond_both}
use Rattle.std.proofs.lemmas.List.{length-map}
use Rattle.std.proofs.Math.Nat.{one-le-pow, pow-le-pow_right, pow-suc}
use Rattle.std.specs.Prelude.{not, ◌==◌, ◌&&◌, ◌||◌}
use Rattle.fan_rows.specs.Trees.{Lies, Tree, child, links_of, marks_in, top}
use Rattle.fan_build.specs.declared.below.Below.{Below}
use Rattle.fan_build.specs.declared.edit.Edit.{Edit}
use Rattle.fan_build.specs.declared.effect.Effect.{Effect}
use Rattle.fan_build.specs.declared.effect.Effects.{Effects}
use Rattle.fan_build.specs.Edits.{chain_effect, goes, no_effect}
use Rattle.fan_build.specs.Effects.{joined, tree_effect}
use Rattle.fan_build.specs.Steps.{AreBelow}
use Rattle.fan_build.proofs.Chains.{few}
use Rattle.fan_build.proofs.ChainEffects.{small}
use Rattle.fan_build.proofs.Trees.{chain_of, lies_child, lies_deep, one_more}

-- an effect takes and retires few
pub record IsFew (depth : ℕ) (effect : Effect) : Type 0 where
  pub taken : effect.taken < 4 ^ depth * 2 ^ 42
  pub retired : effect.marks < 4 ^ depth * 2 ^ 42

none_few : (depth : ℕ) (left : Bool) → IsFew depth (no_effect left)
none_few depth left =
    let some : 1 ≤ 4 ^ depth = one-le-pow depth 4 (lit< tt) in
    record { taken = omega arith; retired = omega arith }

-- a test counts for 1 at most
one_at_most : (b : Bool) → cond b 1 0 ≤ 1
one_at_most true = omega arith
one_at_most false = omega arith

joined_few : (depth : ℕ) (all : Effects) → IsFew depth all.first → IsFew depth all.second
    → IsFew depth all.third → IsFew depth all.fourth → IsFew (suc depth) (joined all)
joined_few depth all first second third fourth =
    let size : 4 ^ suc depth ≡ 4 ^ depth * 4 = pow-suc 4 depth in
    let altered = all.first.altered || all.second.altered || all.third.altered || all.fourth.altered in
    let left = all.first.left || all.second.left || all.third.left || all.fourth.left in
    record {
      taken = rw size (omega (
        arith,
        first.taken,
        second.taken,
        third.taken,
        fourth.taken,
        one_at_most (altered && left),
      ));
      retired = rw size (omega (arith, first.retired, second.retired, third.retired, fourth.retired));
    }

-- the effect on a tree takes and retires few
pub tree_few : (words : ℕ → Option ℕ) (edit : Edit) (depth digit : ℕ) (tree : Tree) → Lies words tree depth
    → IsFew depth (tree_effect edit depth digit tree)
tree_few words edit zero digit tree lies =
    let chain = chain_of words 0 tree lies refl in
    let count : length (marks_in (links_of tree)) ≡ length (links_of tree) =
    length-map (links_of tree) (λ link. link.mark) in
    let all = small edit.change (marks_in (links_of tree)) in
    let behind = few words (links_of tree) chain.0 in
    cond_both (goes edit.scope (top tree) 0 digit) (chain_effect edit.change (marks_in (links_of tree)))
    (no_effect (not (top tree == 0))) (IsFew 0)
    (λ comes. record { taken = omega (arith, all.taken); retired = omega (arith, all.retired) })
    (λ stays. none_few 0 (not (top tree == 0)))
tree_few words edit (suc depth) digit tree lies =
    let one = λ (k : ℕ). tree_few words edit depth k (child tree k) (lies_child words depth k tree lies) in
    let all : Effects = record {
      first = tree_effect edit depth 0 (child tree 0);
      second = tree_effect edit depth 1 (child tree 1);
      third = tree_effect edit depth 2 (child tree 2);
      fourth = tree_effect edit depth 3 (child tree 3);
    } in
    cond_both (goes edit.scope (top tree) (suc depth) digit) (joined all) (no_effect (not (top tree == 0)))
    (IsFew (suc depth))
    (λ comes. joined_few depth all (one 0) (one 1) (one 2) (one 3))
    (λ stays. none_few (suc depth) (not (top tree == 0)))

-- so four of them take and retire less than a number of 64 bits
pub four_few : (depth : ℕ) (all : Effects) → depth ≤ 8 → IsFew depth all.first → IsFew depth all.second
    → IsFew depth all.third → IsFew depth all.fourth
    → (all.first.taken + all.second.taken + all.third.taken + all.fourth.taken + 1 < 2 ^ 64)
    × (all.first.marks + all.second.marks + all.third.marks + all.fourth.marks < 2 ^ 64)
four_few depth all small first second third fourth =
    let size : 4 ^ depth ≤ 4 ^ 8 = pow-le-pow_right (lit< tt) small in (
      omega (arith, first.taken, second.taken, third.taken, fourth.taken),
      omega (arith, first.retired, second.retired, third.retired, fourth.retired),
    )

-- where a change comes, the effect on a tree is that on the trees below, and else there is none
pub effect_deep : (edit : Edit) (depth digit : ℕ) (tree : Tree) → depth ≢ 0
    → goes edit.scope (top tree) depth digit ≡ true → joined (record {
      first = tree_effect edit (depth - 1) 0 (child tree 0);
      second = tree_effect edit (depth - 1) 1 (child tree 1);
      third = tree_effect edit (depth - 1) 2 (child tree 2);
      fourth = tree_effect edit (depth - 1) 3 (child tree 3);
    }) ≡ tree_effect edit depth digit tree
effect_deep edit depth digit tree some comes =
    by (depth - 1) depth (one_more depth some) comes
  where
    by : (low high : ℕ) → high ≡ suc low → goes edit.scope (top tree) high digit ≡ true → joined (record {
      first = tree_effect edit low 0 (child tree 0);
      second = tree_effect edit low 1 (child tree 1);
      third = tree_effect edit low 2 (child tree 2);
      fourth = tree_effect edit low 3 (child tree 3);
    }) ≡ tree_effect edit high digit tree
    by low high is here =
        let test : goes edit.scope (top tree) (suc low) digit ≡ true =
        subst (λ n. goes edit.scope (top tree) n digit ≡ true) is here in
        subst (λ n. joined (record {
          first = tree_effect edit low 0 (child tree 0);
          second = tree_effect edit low 1 (child tree 1);
          third = tree_effect edit low 2 (child tree 2);
          fourth = tree_effect edit low 3 (child tree 3);
        }) ≡ tree_effect edit n digit tree) (sym is) (rw test refl)

pub effect_flat : (edit : Edit) (depth digit : ℕ) (tree : Tree) → depth ≡ 0
    → goes edit.scope (top tree) depth digit ≡ true
    → chain_effect edit.change (marks_in (links_of tree)) ≡ tree_effect edit depth digit tree
effect_flat edit zero digit tree none comes = rw comes refl
effect_flat edit (suc depth) digit tree none comes = absurd (omega arith)

pub effect_none : (edit : Edit) (depth digit : ℕ) (tree : Tree)
    → goes edit.scope (top tree) depth digit ≡ false
    → no_effect (not (top tree == 0)) ≡ tree_effect edit depth digit tree
effect_none edit zero digit tree stays = rw stays refl
effect_none edit (suc depth) digit tree stays = rw stays refl

-- ---- the effect, from those on the trees for the digits

-- an effect is that on each tree that lies at a row
abbrev pub OneIs : (ℕ → Option ℕ) → Edit → ℕ → ℕ → ℕ → Effect → Type 0
OneIs words edit depth digit row effect =
    (tree : Tree) → Lies words tree depth → top tree ≡ row → effect ≡ tree_effect edit depth digit tree

-- four effects are those below a tree
pub record FourAre (words : ℕ → Option ℕ) (edit : Edit) (depth : ℕ) (below : Below) (all : Effects)
    : Type 0 where
  pub one : OneIs words edit depth 0 below.first all.first
  pub two : OneIs words edit depth 1 below.second all.second
  pub three : OneIs words edit depth 2 below.third all.third
  pub four : OneIs words edit depth 3 below.fourth all.fourth

-- they are so if each was told of the same words
pub four_are : (words : ℕ → Option ℕ) (edit : Edit) (depth : ℕ) (below : Below)
    (first second third fourth : Effect) {w0 w1 w2 w3 : ℕ → Option ℕ} → w0 ≡ words → w1 ≡ w0 → w2 ≡ w1
    → w3 ≡ w2 → OneIs w0 edit depth 0 below.first first → OneIs w1 edit depth 1 below.second second
    → OneIs w2 edit depth 2 below.third third → OneIs w3 edit depth 3 below.fourth fourth
    → FourAre words edit depth below (record { first = first; second = second; third = third; fourth = fourth })
four_are words edit depth below first second third fourth s0 s1 s2 s3 one two three four = record {
  one = subst (λ w. OneIs w edit depth 0 below.first first) s0 one;
  two = subst (λ w. OneIs w edit depth 1 below.second second) (s1 ∙ s0) two;
  three = subst (λ w. OneIs w edit depth 2 below.third third) (s2 ∙ s1 ∙ s0) three;
  four = subst (λ w. OneIs w edit depth 3 below.fourth fourth) (s3 ∙ s2 ∙ s1 ∙ s0) four;
}

module _ (words : ℕ → Option ℕ) (edit : Edit) (depth : ℕ) (tree : Tree) (lies : Lies words tree depth)
    (some : depth ≢ 0) (below : Below) (are : AreBelow tree below) (all : Effects)
    (four : FourAre words edit (depth - 1) below all) where
  child_lies : (digit : ℕ) → Lies words (child tree digit) (depth - 1)
  child_lies digit = lies_child words (depth - 1) digit tree (lies_deep words depth tree lies some)

  pub joined_small : depth ≤ 8
      → (all.first.taken + all.second.taken + all.third.taken + all.fourth.taken + 1 < 2 ^ 64)
      × (all.first.marks + all.second.marks + all.third.marks + all.fourth.marks < 2 ^ 64)
  joined_small small =
      let one = λ (digit : ℕ). tree_few words edit (depth - 1) digit (child tree digit) (child_lies digit) in
      four_few (depth - 1) all (omega arith)
      (subst (IsFew (depth - 1)) (sym (four.one (child tree 0) (child_lies 0) are.first_is)) (one 0))
      (subst (IsFew (depth - 1)) (sym (four.two (child tree 1) (child_lies 1) are.second_is)) (one 1))
      (subst (IsFew (depth - 1)) (sym (four.three (child tree 2) (child_lies 2) are.third_is)) (one 2))
      (subst (IsFew (depth - 1)) (sym (four.four (child tree 3) (child_lies 3) are.fourth_is)) (one 3))

  pub joined_is : (digit : ℕ) → goes edit.scope (top tree) depth digit ≡ true
      → joined all ≡ tree_effect edit depth digit tree
  joined_is digit comes =
      let first = four.one (child tree 0) (child_lies 0) are.first_is in
      let second = four.two (child tree 1) (child_lies 1) are.second_is in
      let third = four.three (child tree 2) (child_lies 2) are.third_is in
      let fourth = four.four (child tree 3) (child_lies 3) are.fourth_is in
      rw (first, second, third, fourth) (effect_deep edit depth digit tree some comes)
