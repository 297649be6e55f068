-- Trees of rows: at one root there lies one, and words that keep its rows keep it.
use Rattle.std.proofs.Common.{◌≡◌, ◌∙◌, ℕ, ◌+◌, ◌≤◌, zero, suc, List, [], ◌∷◌, ◌++◌, Option, sym, ap, arith}
use Rattle.fan_bits.specs.declared.mark.Mark.{Mark}
use Rattle.fan_rows.specs.Rows.{KeepsRows, times}
use Rattle.fan_rows.specs.Trees.{Branch, Chain, Lies, PicturesBy, Tree, first_row, rows_of, top}
use Rattle.fan_rows.proofs.Chains.{kept_chain, kept_row, one_chain, one_row, times_append, times_first}

-- at one root there lies one tree
pub one_tree : (words : ℕ → Option ℕ) (tree other : Tree) (depth : ℕ) → Lies words tree depth
    → Lies words other depth → top tree ≡ top other → tree ≡ other
one_tree words (Chain xs) (Chain ys) zero here there same = ap Chain (one_chain words xs ys here there same)
one_tree words (Chain xs) (Chain ys) (suc depth) here there same = ap Chain (here ∙ sym there)
one_tree words (Chain xs) (Branch row a b c d) zero here there same = absurd there
one_tree words (Chain xs) (Branch row a b c d) (suc depth) here there same =
    let none : first_row xs ≡ 0 = ap first_row here in
    let above = there.0.above in
    absurd (omega arith)
one_tree words (Branch row a b c d) other zero here there same = absurd here
one_tree words (Branch row a b c d) (Chain xs) (suc depth) here there same =
    let none : first_row xs ≡ 0 = ap first_row there in
    let above = here.0.above in
    absurd (omega arith)
one_tree words (Branch row a b c d) (Branch second e f g h) (suc depth) here there same =
    let rows = one_row words row second _ _ _ _ _ _ _ _ same here.0 there.0 in
    let first : a ≡ e = one_tree words a e depth here.2 there.2 rows.first in
    let next : b ≡ f = one_tree words b f depth here.3 there.3 rows.second in
    let third : c ≡ g = one_tree words c g depth here.4 there.4 rows.third in
    let fourth : d ≡ h = one_tree words d h depth here.5 there.5 rows.fourth in
    cc

-- the rows of a branch are its own and those of its four trees
pub times_branch : (row of : ℕ) (a b c d : Tree) → times row (rows_of (Branch of a b c d))
    ≡ times row (of ∷ [])
    + times row (rows_of a)
    + times row (rows_of b)
    + times row (rows_of c)
    + times row (rows_of d)
times_branch row of a b c d =
    omega (
      arith,
      times_append row (rows_of a ++ rows_of b ++ rows_of c) (rows_of d),
      times_append row (rows_of a ++ rows_of b) (rows_of c),
      times_append row (rows_of a) (rows_of b),
    )

-- what is kept on rows is kept on fewer
kept_on_fewer : (words later : ℕ → Option ℕ) (rows more : List ℕ)
    → ((row : ℕ) → times row rows ≤ times row more) → KeepsRows words later more → KeepsRows words later rows
kept_on_fewer words later rows more fewer keeps row place some =
    keeps row place (omega (arith, fewer row))

-- a tree whose rows are kept lies where it lay
pub kept_tree : (words later : ℕ → Option ℕ) (tree : Tree) (depth : ℕ)
    → KeepsRows words later (rows_of tree) → Lies words tree depth → Lies later tree depth
kept_tree words later (Chain links) zero keeps lies = kept_chain words later links keeps lies
kept_tree words later (Chain links) (suc depth) keeps lies = lies
kept_tree words later (Branch of a b c d) zero keeps lies = lies
kept_tree words later (Branch of a b c d) (suc depth) keeps lies =
    let part : (rows : List ℕ) → ((row : ℕ) → times row rows ≤ times row (rows_of (Branch of a b c d)))
    → KeepsRows words later rows =
    λ rows fewer. kept_on_fewer words later rows (rows_of (Branch of a b c d)) fewer keeps in (
      kept_row words later of _ _ _ _ (λ place. keeps of place (times_first of _)) lies.0,
      lies.1,
      kept_tree words later a depth (part (rows_of a) (λ row. omega (arith, times_branch row of a b c d)))
          lies.2,
      kept_tree words later b depth (part (rows_of b) (λ row. omega (arith, times_branch row of a b c d)))
          lies.3,
      kept_tree words later c depth (part (rows_of c) (λ row. omega (arith, times_branch row of a b c d)))
          lies.4,
      kept_tree words later d depth (part (rows_of d) (λ row. omega (arith, times_branch row of a b c d)))
          lies.5,
    )

-- so words that keep the rows of a picture's tree picture the same marks by it
pub kept_picture : (words later : ℕ → Option ℕ) (root : ℕ) (tree : Tree) (marks : List Mark)
    → KeepsRows words later (rows_of tree) → PicturesBy words root tree marks
    → PicturesBy later root tree marks
kept_picture words later root tree marks keeps by = record {
  root_is = by.root_is;
  lies = kept_tree words later tree 8 keeps by.lies;
  once = by.once;
  told = by.told;
}
