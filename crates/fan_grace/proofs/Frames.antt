-- Words that go on with the same numbers picture the same marks.
use Rattle.std.proofs.Common.{◌≡◌, ℕ, ◌+◌, ◌*◌, ◌<◌, zero, suc, Bool, true, false, cond, List, [], ◌∷◌, ◌++◌, Option, map, length, refl, sym, subst, arith, eqb-true, slice_get}
use Rattle.std.specs.Prelude.{IsSome, ◌==◌}
use Rattle.fan_bits.specs.declared.mark.Mark.{Mark}
use Rattle.fan_rows.specs.Rows.{KeepsRows, times}
use Rattle.fan_rows.specs.Trees.{Branch, Chain, IsChain, Lies, Link, Pictures, PicturesBy, Tree, rows_of}
use Rattle.fan_rows.proofs.Chains.{times_append}
use Rattle.fan_rows.proofs.TreeLemmas.{kept_picture, kept_tree}
use Rattle.fan_grace.specs.Stored.{Extends}
use Rattle.fan_grace.proofs.Words.{within}

-- each row of a list has words
abbrev HaveWords : (ℕ → Option ℕ) → List ℕ → Type 0
HaveWords words rows = (row : ℕ) → 0 < times row rows → IsSome (words (4 * row))

have_cons : (words : ℕ → Option ℕ) (row : ℕ) (rows : List ℕ) → IsSome (words (4 * row)) → HaveWords words rows
    → HaveWords words (row ∷ rows)
have_cons words row rows here rest other some = by (row == other) refl
  where
    by : (b : Bool) → (row == other) ≡ b → IsSome (words (4 * other))
    by true is = subst (λ r. IsSome (words (4 * r))) (eqb-true row other is) here
    by false is =
        let later : 0 < cond false 1 0 + times other rows =
        subst (λ b. 0 < cond b 1 0 + times other rows) is some in
        rest other (omega arith)

have_append : (words : ℕ → Option ℕ) (xs ys : List ℕ) → HaveWords words xs → HaveWords words ys
    → HaveWords words (xs ++ ys)
have_append words xs ys first second row some = by (times row xs) refl
  where
    by : (n : ℕ) → times row xs ≡ n → IsSome (words (4 * row))
    by zero none = second row (omega (arith, times_append row xs ys))
    by (suc n) is = first row (omega arith)

chain_has : (words : ℕ → Option ℕ) (links : List Link) → IsChain words links
    → HaveWords words (map (λ link. link.row) links)
chain_has words [] chain = λ row some. absurd (omega arith)
chain_has words (link ∷ links) chain =
    have_cons words link.row (map (λ (of : Link). of.row) links) (subst IsSome (sym chain.0.at.word_0) refl)
    (chain_has words links chain.2)

-- each row of a tree that lies in words has words
pub tree_has : (words : ℕ → Option ℕ) (tree : Tree) (depth : ℕ) → Lies words tree depth
    → HaveWords words (rows_of tree)
tree_has words (Chain links) zero lies = chain_has words links lies
tree_has words (Chain links) (suc depth) lies = rw lies (λ row some. absurd (omega arith))
tree_has words (Branch row a b c d) zero lies = absurd lies
tree_has words (Branch row a b c d) (suc depth) lies =
    have_append words (row ∷ rows_of a ++ rows_of b ++ rows_of c) (rows_of d)
    (have_append words (row ∷ rows_of a ++ rows_of b) (rows_of c)
    (have_append words (row ∷ rows_of a) (rows_of b)
    (have_cons words row (rows_of a) (subst IsSome (sym lies.0.word_0) refl) (tree_has words a depth lies.2))
    (tree_has words b depth lies.3))
    (tree_has words c depth lies.4))
    (tree_has words d depth lies.5)

module _ (words later : List ℕ) (count : ℕ) (whole : length words ≡ 4 * count) (on : Extends words later) where
  -- its rows are kept
  pub keeps_rows : (tree : Tree) (depth : ℕ) → Lies (slice_get words) tree depth
      → KeepsRows (slice_get words) (slice_get later) (rows_of tree)
  keeps_rows tree depth lies row place some small =
      let there : 4 * row < length words =
      within words (4 * row) (tree_has (slice_get words) tree depth lies row some) in
      on (4 * row + place) (omega arith)

  -- the tree stands
  pub tree_stays : (tree : Tree) (depth : ℕ) → Lies (slice_get words) tree depth
      → Lies (slice_get later) tree depth
  tree_stays tree depth lies =
      kept_tree (slice_get words) (slice_get later) tree depth (keeps_rows tree depth lies) lies

  -- and pictures its marks
  pub tree_pictures : (root : ℕ) (tree : Tree) (marks : List Mark)
      → PicturesBy (slice_get words) root tree marks → PicturesBy (slice_get later) root tree marks
  tree_pictures root tree marks by =
      kept_picture (slice_get words) (slice_get later) root tree marks (keeps_rows tree 8 by.lies) by

  pub still_pictures : (root : ℕ) (marks : List Mark) → Pictures (slice_get words) root marks
      → Pictures (slice_get later) root marks
  still_pictures root marks (tree, by) = (tree, tree_pictures root tree marks by)
