-- Trees that lie in words, and the trees below them.
use Rattle.std.proofs.Common.{◌≡◌, ◌≢◌, ℕ, ◌-◌, zero, suc, Option, refl, subst, arith}
use Rattle.fan_rows.specs.Trees.{Branch, Chain, IsChain, Lies, Tree, child, first_row, links_of, top}

-- a number that isn't 0 is one more than another
pub one_more : (depth : ℕ) → depth ≢ 0 → depth ≡ suc (depth - 1)
one_more depth some = omega (arith, some)

-- so a tree lies with an index row above
pub lies_deep : (words : ℕ → Option ℕ) (depth : ℕ) (tree : Tree) → Lies words tree depth → depth ≢ 0
    → Lies words tree (suc (depth - 1))
lies_deep words depth tree lies some = subst (λ n. Lies words tree n) (one_more depth some) lies

-- the trees below lie, with one index row less above
pub lies_child : (words : ℕ → Option ℕ) (depth digit : ℕ) (tree : Tree) → Lies words tree (suc depth)
    → Lies words (child tree digit) depth
lies_child words zero digit (Chain links) lies = tt
lies_child words (suc depth) digit (Chain links) lies = refl
lies_child words depth zero (Branch row a b c d) lies = lies.2
lies_child words depth (suc zero) (Branch row a b c d) lies = lies.3
lies_child words depth (suc (suc zero)) (Branch row a b c d) lies = lies.4
lies_child words depth (suc (suc (suc digit))) (Branch row a b c d) lies = lies.5

-- without index rows there is just a chain
pub chain_of : (words : ℕ → Option ℕ) (depth : ℕ) (tree : Tree) → Lies words tree depth → depth ≡ 0
    → IsChain words (links_of tree) × (first_row (links_of tree) ≡ top tree)
chain_of words zero (Chain links) lies none = (lies, refl)
chain_of words zero (Branch row a b c d) lies none = absurd lies
chain_of words (suc depth) tree lies none = absurd (omega arith)
