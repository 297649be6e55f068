-- What a step of a change of rows takes, writes, gives up and makes.
use Rattle.std.specs.Prelude.{◌≡◌, ◌≢◌, ℕ, zero, suc, ◌+◌, ◌*◌, ◌<◌, ◌≤◌, ◌^◌, ◌==◌, Bool, IsSome, if◌then◌else◌, true, false, not, List, [], ◌∷◌, ◌++◌, Option, All, length, map}
use Rattle.fan_bits.specs.declared.mark.Mark.{Mark}
use Rattle.fan_bits.specs.Marks.{IsMark, listed, order_of}
use Rattle.fan_rows.specs.Rows.{RowAt, Rows, times}
use Rattle.fan_rows.specs.Trees.{IsChain, Lies, Link, Tree, child, first_row, links_of, marks_in, pick, rows_of, top}
use Rattle.fan_build.specs.declared.below.Below.{Below}
use Rattle.fan_build.specs.declared.edit.Edit.{Edit}
use Rattle.fan_build.specs.declared.effect.Effect.{Effect}
use Rattle.fan_build.specs.declared.made.Made.{Made}
use Rattle.fan_build.specs.declared.made.Parts.{Parts}
use Rattle.fan_build.specs.Parts.{parts_left}
use Rattle.fan_build.specs.Edits.{edited, goes}
use Rattle.fan_build.specs.Effects.{IsEdited, tree_effect}

-- some rows were taken from the free ones, and some given up; only the former were written
pub record Grown (words later : ℕ → Option ℕ) (rows after : Rows) (more gone : List ℕ) : Type 0 where
  pub given_on : after.given ≡ rows.given ++ more
  pub retired_on : after.retired ≡ rows.retired ++ gone
  pub from_free : (row : ℕ) → times row rows.free ≡ times row after.free + times row more
  pub fewer : length rows.free ≡ length after.free + length more
  pub others : (row place : ℕ) → place < 4 → times row more ≡ 0
      → later (4 * row + place) ≡ words (4 * row + place)

-- no row is in two of a list, the free rows and those that were given up, or twice in one
abbrev pub Apart : List ℕ → Rows → Type 0
Apart reached rows = (row : ℕ) → times row reached + times row rows.free + times row rows.retired ≤ 1

-- old rows and rows that were taken are the new ones and those that were given up
abbrev pub Counts : List ℕ → List ℕ → List ℕ → List ℕ → Type 0
Counts old more new gone = (row : ℕ) → times row new + times row gone ≡ times row old + times row more

-- the rows of a chain
abbrev pub rows_in : List Link → List ℕ
rows_in links = map (λ link. link.row) links

-- marks that a chain can have: their groups rise
abbrev pub IsConnector : List Mark → Type 0
IsConnector [] = Unit {0}
IsConnector (mark ∷ marks) =
    IsMark mark × All (λ later. order_of mark < order_of later) marks × IsConnector marks

-- a chain that lies at a row can become one with other marks, with some effect
pub record ChainBefore (words : ℕ → Option ℕ) (rows : Rows) (row : ℕ) (links : List Link) (target : List Mark)
    (effect : Effect) : Type 0 where
  pub chain : IsChain words links
  pub first : first_row links ≡ row
  pub apart : Apart (rows_in links) rows
  pub enough : effect.taken ≤ length rows.free
  pub possible : IsConnector target

-- it became one
pub record ChainMade (words later : ℕ → Option ℕ) (rows after : Rows) (links : List Link) (target : List Mark)
    (effect : Effect) (made : Made) : Type 0 where
  pub more : List ℕ
  pub gone : List ℕ
  pub new : List Link
  pub grown : Grown words later rows after more gone
  pub chain : IsChain later new
  pub first : first_row new ≡ made.row
  pub told : marks_in new ≡ target
  pub counts : Counts (rows_in links) more (rows_in new) gone
  pub altered_is : made.altered ≡ effect.altered
  pub taken_is : length more ≡ effect.taken
  pub marks_is : made.marks ≡ effect.marks
  pub rows_is : made.rows ≡ length gone
  pub few : length gone ≤ length links
  pub same : effect.altered ≡ false → (new ≡ links) × (more ≡ []) × (gone ≡ [])

-- a mark's row can be replaced before a chain that lies
pub record ReplaceBefore (words : ℕ → Option ℕ) (rows : Rows) (row : ℕ) (left : Option Mark) (rest : Made)
    (links : List Link) : Type 0 where
  pub chain : IsChain words links
  pub first : first_row links ≡ rest.row
  pub there : IsSome (words (4 * row))
  pub apart : Apart (row ∷ rows_in links) rows
  pub enough : length (listed left) ≤ length rows.free
  pub possible : IsConnector (listed left ++ marks_in links)
  pub small : (rest.marks < 2 ^ 62) × (rest.rows < 2 ^ 62)

-- it was replaced by the row of what is left, if anything is
pub record Replaced (words later : ℕ → Option ℕ) (rows after : Rows) (row : ℕ) (left : Option Mark)
    (same : Bool) (rest : Made) (links : List Link) (made : Made) : Type 0 where
  pub more : List ℕ
  pub new : List Link
  pub grown : Grown words later rows after more (row ∷ [])
  pub chain : IsChain later new
  pub first : first_row new ≡ made.row
  pub told : marks_in new ≡ listed left ++ marks_in links
  pub counts : Counts (rows_in links) more (rows_in new) []
  pub taken_is : length more ≡ length (listed left)
  pub altered_is : made.altered ≡ true
  pub marks_is : made.marks ≡ rest.marks + (if same then 0 else 1)
  pub rows_is : made.rows ≡ rest.rows + 1

-- an index row, if it is one
abbrev pub own_row : ℕ → List ℕ
own_row row = if row == 0 then [] else row ∷ []

-- a new index row was written, or there is none where nothing is left
pub record IndexWritten (words later : ℕ → Option ℕ) (rows after : Rows) (parts : Parts) (row : ℕ)
    : Type 0 where
  pub more : List ℕ
  pub grown : Grown words later rows after more []
  pub some : parts_left parts ≡ true
      → RowAt later row parts.first.row parts.second.row parts.third.row parts.fourth.row
      × (more ≡ row ∷ [])
  pub none : parts_left parts ≡ false → (row ≡ 0) × (more ≡ [])

-- an index row can be replaced above four trees that were made
pub record IndexBefore (words : ℕ → Option ℕ) (rows : Rows) (depth row : ℕ) (parts : Parts) (a b c d : Tree)
    : Type 0 where
  pub lies_a : Lies words a depth
  pub lies_b : Lies words b depth
  pub lies_c : Lies words c depth
  pub lies_d : Lies words d depth
  pub top_a : top a ≡ parts.first.row
  pub top_b : top b ≡ parts.second.row
  pub top_c : top c ≡ parts.third.row
  pub top_d : top d ≡ parts.fourth.row
  pub there : row ≢ 0 → IsSome (words (4 * row))
  pub apart : Apart (own_row row ++ rows_of a ++ rows_of b ++ rows_of c ++ rows_of d) rows
  pub enough : parts_left parts ≡ true → 0 < length rows.free
  pub small_marks : parts.first.marks + parts.second.marks + parts.third.marks + parts.fourth.marks < 2 ^ 64
  pub small_rows : parts.first.rows + parts.second.rows + parts.third.rows + parts.fourth.rows + 1 < 2 ^ 64

-- it was replaced
pub record IndexMade (words later : ℕ → Option ℕ) (rows after : Rows) (depth row : ℕ) (parts : Parts)
    (a b c d : Tree) (made : Made) : Type 0 where
  pub more : List ℕ
  pub new : Tree
  pub grown : Grown words later rows after more (own_row row)
  pub lies : Lies later new (suc depth)
  pub top_is : top new ≡ made.row
  pub child_is : (digit : ℕ) → child new digit ≡ pick digit a b c d
  pub counts : (one : ℕ) → times one (rows_of new)
      ≡ times one (rows_of a ++ rows_of b ++ rows_of c ++ rows_of d) + times one more
  pub taken_is : length more ≡ (if parts_left parts then 1 else 0)
  pub left_is : parts_left parts ≡ not (made.row == 0)
  pub altered_is : made.altered ≡ true
  pub marks_is : made.marks
      ≡ parts.first.marks + parts.second.marks + parts.third.marks + parts.fourth.marks
  pub rows_is : made.rows
      ≡ parts.first.rows + parts.second.rows + parts.third.rows + parts.fourth.rows + length (own_row row)

-- the rows below an index row, or below none, are those of the trees for the digits
pub record AreBelow (tree : Tree) (below : Below) : Type 0 where
  pub first_is : top (child tree 0) ≡ below.first
  pub second_is : top (child tree 1) ≡ below.second
  pub third_is : top (child tree 2) ≡ below.third
  pub fourth_is : top (child tree 3) ≡ below.fourth

-- the chains to which a change comes can become what it makes of them
abbrev pub CanBe : Edit → ℕ → ℕ → Tree → Type 0
CanBe edit zero digit tree =
    goes edit.scope (top tree) 0 digit ≡ true → IsConnector (edited edit.change (marks_in (links_of tree)))
CanBe edit (suc depth) digit tree =
    goes edit.scope (top tree) (suc depth) digit ≡ true
    → (one : ℕ) → one < 4 → CanBe edit depth one (child tree one)

-- a tree that lies at a row and stands for a digit, with so many index rows above its chains, can be changed
pub record TreeBefore (words : ℕ → Option ℕ) (rows : Rows) (edit : Edit) (depth digit row : ℕ) (tree : Tree)
    : Type 0 where
  pub lies : Lies words tree depth
  pub top_is : top tree ≡ row
  pub apart : Apart (rows_of tree) rows
  pub enough : (tree_effect edit depth digit tree).taken ≤ length rows.free
  pub possible : CanBe edit depth digit tree

-- it was changed
pub record TreeMade (words later : ℕ → Option ℕ) (rows after : Rows) (edit : Edit) (depth digit : ℕ)
    (tree : Tree) (made : Made) : Type 0 where
  pub more : List ℕ
  pub gone : List ℕ
  pub new : Tree
  pub grown : Grown words later rows after more gone
  pub lies : Lies later new depth
  pub top_is : top new ≡ made.row
  pub told : IsEdited edit depth digit tree new
  pub counts : Counts (rows_of tree) more (rows_of new) gone
  pub altered_is : made.altered ≡ (tree_effect edit depth digit tree).altered
  pub taken_is : length more ≡ (tree_effect edit depth digit tree).taken
  pub marks_is : made.marks ≡ (tree_effect edit depth digit tree).marks
  pub rows_is : made.rows ≡ length gone
  pub few : length gone ≤ length (rows_of tree)
  pub same : (tree_effect edit depth digit tree).altered ≡ false → (new ≡ tree) × (more ≡ []) × (gone ≡ [])
  pub left_is : (tree_effect edit depth digit tree).left ≡ not (top new == 0)
