-- The rows of a tree: its own, and those of the four trees below.
use Rattle.std.proofs.Common.{◌≡◌, ◌≢◌, ◌∙◌, ℕ, ◌+◌, ◌*◌, ◌<◌, ◌≤◌, ◌^◌, zero, suc, [], ◌∷◌, ◌++◌, Option, Some, length, refl, sym, ap, subst, arith, lit<, length-append}
use Rattle.std.proofs.lemmas.Bool.{ne_eqb}
use Rattle.std.proofs.lemmas.Bool.Decides.{nat_tests}
use Rattle.std.proofs.lemmas.List.{length-map}
use Rattle.std.proofs.Math.Nat.{pow-le-pow_right, pow-suc}
use Rattle.std.specs.Prelude.{IsSome, not, ◌==◌, ◌||◌}
use Rattle.fan_rows.specs.Rows.{times}
use Rattle.fan_rows.specs.Trees.{Branch, Chain, Lies, Tree, child, first_row, rows_of, top}
use Rattle.fan_rows.proofs.TreeLemmas.{times_branch}
use Rattle.fan_build.specs.Steps.{own_row}
use Rattle.fan_build.proofs.Chains.{few}
use Rattle.fan_build.proofs.Trees.{lies_child}

-- a row that isn't 0 is an index row
own_is : (row : ℕ) → 0 < row → own_row row ≡ row ∷ []
own_is row above = rw (ne_eqb row 0 (λ is. omega arith)) refl

pub children_times : (words : ℕ → Option ℕ) (depth : ℕ) (tree : Tree) → Lies words tree (suc depth)
    → (one : ℕ) → times one (rows_of tree)
    ≡ times one (own_row (top tree))
    + times one (rows_of (child tree 0))
    + times one (rows_of (child tree 1))
    + times one (rows_of (child tree 2))
    + times one (rows_of (child tree 3))
children_times words depth (Chain links) lies one = rw lies refl
children_times words depth (Branch row a b c d) lies one =
    let own : times one (own_row row) ≡ times one (row ∷ []) = ap (times one) (own_is row lies.0.above) in
    omega (arith, times_branch one row a b c d)

pub children_length : (words : ℕ → Option ℕ) (depth : ℕ) (tree : Tree) → Lies words tree (suc depth)
    → length (rows_of tree)
    ≡ length (own_row (top tree))
    + length (rows_of (child tree 0))
    + length (rows_of (child tree 1))
    + length (rows_of (child tree 2))
    + length (rows_of (child tree 3))
children_length words depth (Chain links) lies = rw lies refl
children_length words depth (Branch row a b c d) lies =
    let own : length (own_row row) ≡ 1 = ap length (own_is row lies.0.above) in
    omega (
      arith,
      length-append (rows_of a ++ rows_of b ++ rows_of c) (rows_of d),
      length-append (rows_of a ++ rows_of b) (rows_of c),
      length-append (rows_of a) (rows_of b),
    )

-- a tree is reached if one below is
some_left : (k l m n row : ℕ) → 0 < k + l + m + n → 0 < row
    → (not (k == 0) || not (l == 0) || not (m == 0) || not (n == 0)) ≡ not (row == 0)
some_left k l m n row some above = grind (arith, nat_tests, some, above)

pub left_below : (words : ℕ → Option ℕ) (depth : ℕ) (tree : Tree) → Lies words tree (suc depth)
    → (not (top (child tree 0) == 0) || not (top (child tree 1) == 0) || not (top (child tree 2) == 0)
    || not (top (child tree 3) == 0)) ≡ not (top tree == 0)
left_below words depth (Chain links) lies = rw lies refl
left_below words depth (Branch row a b c d) lies =
    some_left (top a) (top b) (top c) (top d) row lies.1 lies.0.above

-- an index row has words
pub index_word : (words : ℕ → Option ℕ) (depth row : ℕ) (tree : Tree) → Lies words tree (suc depth)
    → top tree ≡ row → row ≢ 0 → IsSome (words (4 * row))
index_word words depth row (Chain links) lies is some =
    absurd (some (sym is ∙ ap first_row lies))
index_word words depth row (Branch of a b c d) lies is some =
    let here : words (4 * row) ≡ Some (top a) = subst (λ r. words (4 * r) ≡ Some (top a)) is lies.0.word_0 in
    subst IsSome (sym here) refl

-- a tree has few rows
own_few : (row : ℕ) → length (own_row row) ≤ 1
own_few zero = omega arith
own_few (suc row) = rw (own_is (suc row) (omega arith)) (omega arith)

pub rows_few : (words : ℕ → Option ℕ) (depth : ℕ) (tree : Tree) → Lies words tree depth
    → length (rows_of tree) < 4 ^ depth * 2 ^ 42
rows_few words zero (Chain links) lies =
    omega (arith, few words links lies, length-map links (λ link. link.row))
rows_few words zero (Branch row a b c d) lies = absurd lies
rows_few words (suc depth) tree lies =
    let one = λ (k : ℕ). rows_few words depth (child tree k) (lies_child words depth k tree lies) in
    rw (pow-suc 4 depth) (omega (
      arith,
      children_length words depth tree lies,
      own_few (top tree),
      one 0,
      one 1,
      one 2,
      one 3,
    ))

-- so four of them and one more are fewer than a number of 64 bits
pub four_rows : (words : ℕ → Option ℕ) (depth : ℕ) (tree : Tree) → Lies words tree (suc depth) → depth ≤ 8
    → length (rows_of (child tree 0))
    + length (rows_of (child tree 1))
    + length (rows_of (child tree 2))
    + length (rows_of (child tree 3))
    + 1 < 2 ^ 64
four_rows words depth tree lies small =
    let size : 4 ^ depth ≤ 4 ^ 8 = pow-le-pow_right (lit< tt) small in
    let one = λ (k : ℕ). rows_few words depth (child tree k) (lies_child words depth k tree lies) in
    omega (arith, one 0, one 1, one 2, one 3)
