-- Trees of rows, and the lists of marks that rows picture: docs/FORMATS.md, "Rows".
use Rattle.std.specs.Prelude.{◌≡◌, ℕ, zero, suc, ◌+◌, ◌/◌, ◌%◌, ◌<◌, ◌≤◌, ◌^◌, List, [], ◌∷◌, ◌++◌, map, Option, All}
use Rattle.fan_bits.specs.declared.mark.Mark.{Mark}
use Rattle.fan_bits.specs.Marks.{on, order_of}
use Rattle.fan_rows.specs.Rows.{MarkAt, RowAt, times}

-- a mark and its row
pub record Link : Type 0 where
  pub row : ℕ
  pub mark : Mark

-- the marks of one object, or an index row with the trees for the digits 0 to 3. Where nothing is marked
-- stands the chain of no marks
pub data Tree : Type 0 where
  Chain : (links : List Link) → Tree
  Branch : (row : ℕ) (a b c d : Tree) → Tree

-- the first row of a chain, or 0
abbrev pub first_row : List Link → ℕ
first_row [] = 0
first_row (link ∷ links) = link.row

-- the row by which a tree is reached, or 0 where nothing is marked
abbrev pub top : Tree → ℕ
top (Chain links) = first_row links
top (Branch row a b c d) = row

-- the marks of a chain
abbrev pub marks_in : List Link → List Mark
marks_in links = map (λ link. link.mark) links

-- the rows that are reached, each as often as it is
abbrev pub rows_of : Tree → List ℕ
rows_of (Chain links) = map (λ link. link.row) links
rows_of (Branch row a b c d) = row ∷ rows_of a ++ rows_of b ++ rows_of c ++ rows_of d

-- one of four, by a digit
abbrev pub pick : {X : Type 0} → ℕ → X → X → X → X → X
pick zero a b c d = a
pick (suc zero) a b c d = b
pick (suc (suc zero)) a b c d = c
pick (suc (suc (suc digit))) a b c d = d

-- the tree for a digit
abbrev pub child : Tree → ℕ → Tree
child (Chain links) digit = Chain []
child (Branch row a b c d) digit = pick digit a b c d

-- the marks of a chain; an index row has none itself
abbrev pub links_of : Tree → List Link
links_of (Chain links) = links
links_of (Branch row a b c d) = []

-- the chain that digits lead to
abbrev pub chain_at : Tree → List ℕ → List Link
chain_at tree [] = links_of tree
chain_at tree (digit ∷ digits) = chain_at (child tree digit) digits

-- what the lowest digits of a number stand for, the most significant first
abbrev pub places : ℕ → List ℕ
places zero = []
places (suc place) = 4 ^ place ∷ places place

-- the base-four digits of an object at some places
abbrev pub digits_at : ℕ → List ℕ → List ℕ
digits_at object places = map (λ place. object / place % 4) places

-- its eight base-four digits, the most significant first
unfoldable pub digits : ℕ → List ℕ
digits object = digits_at object (places 8)

-- a chain lies in words: its marks rise by rank, then group, and each row names the next one
abbrev pub IsChain : (ℕ → Option ℕ) → List Link → Type 0
IsChain words [] = Unit {0}
IsChain words (link ∷ links) =
    MarkAt words link.row (first_row links) link.mark
    × All (λ later. order_of link.mark < order_of later.mark) links
    × IsChain words links

-- a tree lies in words, so many index rows above its chains. An index row has a word that isn't 0
abbrev pub Lies : (ℕ → Option ℕ) → Tree → ℕ → Type 0
Lies words (Chain links) zero = IsChain words links
Lies words (Chain links) (suc depth) = links ≡ []
Lies words (Branch row a b c d) zero = ⊥
Lies words (Branch row a b c d) (suc depth) =
    RowAt words row (top a) (top b) (top c) (top d)
    × (0 < top a + top b + top c + top d)
    × Lies words a depth
    × Lies words b depth
    × Lies words c depth
    × Lies words d depth

-- words picture a list of marks from a root by a tree: it lies there, no row is reached twice, and each
-- object's chain has the marks on it
pub record PicturesBy (words : ℕ → Option ℕ) (root : ℕ) (tree : Tree) (marks : List Mark) : Type 0 where
  pub root_is : top tree ≡ root
  pub lies : Lies words tree 8
  pub once : (row : ℕ) → times row (rows_of tree) ≤ 1
  pub told : (object : ℕ) → object < 2 ^ 16 → marks_in (chain_at tree (digits object)) ≡ on object marks

-- words picture a list of marks from a root
abbrev pub Pictures : (ℕ → Option ℕ) → ℕ → List Mark → Type 0
Pictures words root marks = (tree : Tree) × PicturesBy words root tree marks
