-- What a change makes of a tree that tells the marks of a block, and the effect on it.
use Rattle.std.proofs.Common.{◌≡◌, ◌≢◌, ◌∙◌, ℕ, ◌+◌, ◌*◌, ◌/◌, ◌%◌, ◌^◌, ◌<◌, zero, suc, Bool, true, false, List, [], ◌∷◌, Option, refl, sym, ap, subst, arith, eqb-true, eq-eqb}
use Rattle.std.proofs.lemmas.Bool.{false≢true}
use Rattle.std.proofs.lemmas.Bool.Decides.{nat_tests}
use Rattle.std.proofs.Math.Nat.{div-div-eq-div-mul, div-one, pow-suc}
use Rattle.std.specs.List.{list_any}
use Rattle.std.specs.Prelude.{not, ◌==◌}
use Rattle.fan_bits.specs.declared.mark.Mark.{Mark}
use Rattle.fan_bits.specs.Marks.{on}
use Rattle.fan_rows.specs.Trees.{Chain, Lies, Tree, chain_at, child, digits_at, links_of, marks_in, places, top}
use Rattle.fan_rows.proofs.Counting.{Told, part_told}
use Rattle.fan_build.specs.declared.edit.Edit.{Edit}
use Rattle.fan_build.specs.declared.edit.Scope.{Scope}
use Rattle.fan_build.specs.declared.edit.Scope.TheVariants.{Everywhere, Object, Nowhere}
use Rattle.fan_build.specs.Building.{IsIn, IsOut, Makes}
use Rattle.fan_build.specs.Edits.{chain_effect, edited, goes, has_any, no_effect}
use Rattle.fan_build.specs.Effects.{IsEdited, joined, tree_effect}
use Rattle.fan_build.specs.Needs.{is_within}
use Rattle.fan_build.specs.Steps.{CanBe, IsConnector}
use Rattle.fan_build.proofs.Blocks.{InRange, SameOn, any_four, any_here, effect_four, effect_here, in_part, joined_by, last_small, list_effect, unaltered}
use Rattle.fan_build.proofs.ChainNeeds.{chain_told, told_effect}
use Rattle.fan_build.proofs.Chains.{any_by_row}
use Rattle.fan_build.proofs.IndexSteps.{no_tree}
use Rattle.fan_build.proofs.ObjectEdits.{connector_on}
use Rattle.fan_build.proofs.TreeRows.{left_below}
use Rattle.fan_build.proofs.Trees.{chain_of, lies_child}

-- from the chain of no marks no digits lead anywhere
pub nothing_at : (digits : List ℕ) → chain_at (Chain []) digits ≡ []
nothing_at [] = refl
nothing_at (digit ∷ digits) = nothing_at digits

-- a tree is reached if it has a mark
pub reached_is : (words : ℕ → Option ℕ) (marks : List Mark) (depth block : ℕ) (tree : Tree)
    → Lies words tree depth → InRange depth block → Told marks depth block tree
    → not (top tree == 0) ≡ list_any (is_within depth block) marks
reached_is words marks zero block tree lies range told =
    let chain = chain_of words 0 tree lies refl in
    ap (λ r. not (r == 0)) (sym chain.1)
    ∙ any_by_row words (links_of tree) chain.0
    ∙ ap has_any (told block (div-one block) (last_small block range))
    ∙ sym (any_here block marks)
reached_is words marks (suc depth) block tree lies range told =
    let one = λ (k : ℕ) (less : k < 4). reached_is words marks depth (4 * block + k) (child tree k)
    (lies_child words depth k tree lies) (in_part depth block k less range)
    (part_told marks depth block k tree less told) in
    let zero_is = one 0 (omega arith) in
    let one_is = one 1 (omega arith) in
    let two_is = one 2 (omega arith) in
    let three_is = one 3 (omega arith) in
    sym (left_below words depth tree lies) ∙ rw (zero_is, one_is, two_is, three_is) (sym (any_four depth block marks))

-- if a change is made on one object alone, it is within a block
abbrev pub OnPath : Scope → ℕ → ℕ → Type 0
OnPath (Object object) depth block = object / 4 ^ depth ≡ block
OnPath _ depth block = Unit {0}

path_down : (scope : Scope) (row depth block digit : ℕ) → digit < 4 → OnPath scope (suc depth) block
    → goes scope row depth digit ≡ true → OnPath scope depth (4 * block + digit)
path_down Everywhere row depth block digit small on comes = tt
path_down (Object object) row depth block digit small on comes =
    let quotient : object / 4 ^ depth / 4 ≡ object / (4 ^ depth * 4) =
    div-div-eq-div-mul object (4 ^ depth) 4 in
    let above : object / 4 ^ depth / 4 ≡ block = quotient ∙ ap (λ n. object / n) (sym (pow-suc 4 depth)) ∙ on in
    let here : object / 4 ^ depth % 4 ≡ digit = eqb-true (object / 4 ^ depth % 4) digit comes in
    omega (arith, above, here)
path_down Nowhere row depth block digit small on comes = tt

at_object : (scope : Scope) (row block digit : ℕ) → OnPath scope 0 block → goes scope row 0 digit ≡ true
    → IsIn scope block
at_object Everywhere row block digit on comes = tt
at_object (Object object) row block digit on comes = sym on ∙ div-one object
at_object Nowhere row block digit on comes = absurd (false≢true comes)

module _ (words : ℕ → Option ℕ) (edit : Edit) (marks new : List Mark) (makes : Makes edit marks new) where
  -- where a change does not come, the objects of the block have the same marks
  elsewhere : (object depth q digit at : ℕ) → digit < 4 → object / 4 ^ depth ≡ 4 * q + digit
      → (at / 4 ^ depth % 4 == digit) ≡ false → object ≢ at
  elsewhere object depth q digit at small within never same =
      let here : at / 4 ^ depth % 4 ≡ digit =
      subst (λ n. n / 4 ^ depth % 4 ≡ digit) same (omega (arith, within)) in
      false≢true (sym never ∙ eq-eqb (at / 4 ^ depth % 4) digit here)

  no_marks_there : (depth block row : ℕ) (tree : Tree) → Lies words tree depth → top tree ≡ row
      → not (row == 0) ≡ false → Told marks depth block tree → (object : ℕ)
      → object / 4 ^ depth ≡ block → object < 2 ^ 16 → on object marks ≡ []
  no_marks_there depth block row tree lies is none told object within bound =
      let zero_row : row ≡ 0 = grind (arith, nat_tests, none) in
      let empty = no_tree words depth tree lies (is ∙ zero_row) in
      sym (told object within bound)
      ∙ ap (λ t. marks_in (chain_at t (digits_at object (places depth)))) empty
      ∙ ap marks_in (nothing_at (digits_at object (places depth)))

  same_by : (depth q digit row : ℕ) (tree : Tree) → Lies words tree depth → top tree ≡ row → digit < 4
      → Told marks depth (4 * q + digit) tree → (object : ℕ) → object / 4 ^ depth ≡ 4 * q + digit
      → object < 2 ^ 16 → (scope : Scope) → edit.scope ≡ scope → goes scope row depth digit ≡ false
      → on object new ≡ on object marks
  same_by depth q digit row tree lies is small told object within bound Everywhere all never =
      let none = no_marks_there depth (4 * q + digit) row tree lies is never told object within bound in
      makes.nothing all object none ∙ sym none
  same_by depth q digit row tree lies is small told object within bound (Object at) one never =
      makes.elsewhere object bound (subst (λ scope. IsOut scope object) (sym one)
      (elsewhere object depth q digit at small within never))
  same_by depth q digit row tree lies is small told object within bound Nowhere none never =
      makes.elsewhere object bound (subst (λ scope. IsOut scope object) (sym none) tt)

  same_there : (depth q digit row : ℕ) (tree : Tree) → Lies words tree depth → top tree ≡ row → digit < 4
      → Told marks depth (4 * q + digit) tree → goes edit.scope row depth digit ≡ false
      → SameOn marks new depth (4 * q + digit)
  same_there depth q digit row tree lies is small told never object within bound =
      same_by depth q digit row tree lies is small told object within bound edit.scope refl never

  -- what a change makes of the marks of an object to which it comes
  edited_here : (q digit object : ℕ) (tree : Tree) → digit < 4 → Told marks 0 (4 * q + digit) tree
      → OnPath edit.scope 1 q → goes edit.scope (top tree) 0 digit ≡ true
      → object / 4 ^ 0 ≡ 4 * q + digit → object < 2 ^ 16
      → edited edit.change (marks_in (links_of tree)) ≡ on object new
  edited_here q digit object tree small told path comes within bound =
      let block : object ≡ 4 * q + digit = sym (div-one object) ∙ within in
      let at = subst (IsIn edit.scope) (sym block)
      (at_object edit.scope (top tree) (4 * q + digit) digit
      (path_down edit.scope (top tree) 0 q digit small path comes) comes) in
      ap (edited edit.change) (told object within bound) ∙ makes.here object bound at

  -- ---- the effect

  quiet_told : (depth q digit : ℕ) (tree : Tree) → Lies words tree depth → InRange depth (4 * q + digit)
      → digit < 4 → Told marks depth (4 * q + digit) tree
      → goes edit.scope (top tree) depth digit ≡ false
      → no_effect (not (top tree == 0)) ≡ list_effect marks new depth (4 * q + digit)
  quiet_told depth q digit tree lies range small told never =
      ap no_effect (reached_is words marks depth (4 * q + digit) tree lies range told)
      ∙ sym (unaltered marks new depth (4 * q + digit) range
      (same_there depth q digit (top tree) tree lies refl small told never))

  chain_by : (q digit : ℕ) (tree : Tree) → Lies words tree 0 → InRange 0 (4 * q + digit) → digit < 4
      → Told marks 0 (4 * q + digit) tree → OnPath edit.scope 1 q → (comes : Bool)
      → goes edit.scope (top tree) 0 digit ≡ comes
      → tree_effect edit 0 digit tree ≡ list_effect marks new 0 (4 * q + digit)
  chain_by q digit tree lies range small told path true is =
      let block = 4 * q + digit in
      let bound = last_small block range in
      let here = told block (div-one block) bound in
      let after = edited_here q digit block tree small told path is (div-one block) bound in
      let effect : tree_effect edit 0 digit tree ≡ chain_effect edit.change (marks_in (links_of tree)) =
      rw is refl in
      effect ∙ ap (chain_effect edit.change) here
      ∙ chain_told edit.change (on block marks) (connector_on marks makes.before block)
      ∙ ap (told_effect (on block marks)) (sym (ap (edited edit.change) here) ∙ after)
      ∙ sym (effect_here marks new block)
  chain_by q digit tree lies range small told path false is =
      let effect : tree_effect edit 0 digit tree ≡ no_effect (not (top tree == 0)) = rw is refl in
      effect ∙ quiet_told 0 q digit tree lies range small told is

  node_by : (depth q digit : ℕ) (tree : Tree) → Lies words tree (suc depth)
      → InRange (suc depth) (4 * q + digit) → digit < 4 → Told marks (suc depth) (4 * q + digit) tree
      → OnPath edit.scope (suc (suc depth)) q
      → (OnPath edit.scope (suc depth) (4 * q + digit) → (k : ℕ) → k < 4
      → tree_effect edit depth k (child tree k) ≡ list_effect marks new depth (4 * (4 * q + digit) + k))
      → (comes : Bool) → goes edit.scope (top tree) (suc depth) digit ≡ comes
      → tree_effect edit (suc depth) digit tree ≡ list_effect marks new (suc depth) (4 * q + digit)
  node_by depth q digit tree lies range small told path below true is =
      let down = path_down edit.scope (top tree) (suc depth) q digit small path is in
      let effect : tree_effect edit (suc depth) digit tree ≡ joined (record {
        first = tree_effect edit depth 0 (child tree 0);
        second = tree_effect edit depth 1 (child tree 1);
        third = tree_effect edit depth 2 (child tree 2);
        fourth = tree_effect edit depth 3 (child tree 3);
      }) = rw is refl in
      effect
      ∙ joined_by _ _ _ _ _ _ _ _ (below down 0 (omega arith)) (below down 1 (omega arith))
      (below down 2 (omega arith)) (below down 3 (omega arith))
      ∙ effect_four marks new depth (4 * q + digit)
  node_by depth q digit tree lies range small told path below false is =
      let effect : tree_effect edit (suc depth) digit tree ≡ no_effect (not (top tree == 0)) = rw is refl in
      effect ∙ quiet_told (suc depth) q digit tree lies range small told is

  pub tree_told : (depth q digit : ℕ) (tree : Tree) → Lies words tree depth → InRange depth (4 * q + digit)
      → digit < 4 → Told marks depth (4 * q + digit) tree → OnPath edit.scope (suc depth) q
      → tree_effect edit depth digit tree ≡ list_effect marks new depth (4 * q + digit)
  tree_told zero q digit tree lies range small told path =
      chain_by q digit tree lies range small told path (goes edit.scope (top tree) 0 digit) refl
  tree_told (suc depth) q digit tree lies range small told path =
      node_by depth q digit tree lies range small told path (λ down k less.
      tree_told depth (4 * q + digit) k (child tree k) (lies_child words depth k tree lies)
      (in_part depth (4 * q + digit) k less range) less
      (part_told marks depth (4 * q + digit) k tree less told) down)
      (goes edit.scope (top tree) (suc depth) digit) refl

  -- ---- the marks after the change

  leaf_edited : (q digit : ℕ) (tree after : Tree) → Lies words tree 0 → digit < 4
      → Told marks 0 (4 * q + digit) tree → OnPath edit.scope 1 q → IsEdited edit 0 digit tree after
      → (comes : Bool) → goes edit.scope (top tree) 0 digit ≡ comes
      → Told new 0 (4 * q + digit) after
  leaf_edited q digit tree after lies small told path edited_is true is object within bound =
      edited_is.0 is ∙ edited_here q digit object tree small told path is within bound
  leaf_edited q digit tree after lies small told path edited_is false is object within bound =
      ap (λ t. marks_in (links_of t)) (edited_is.1 is) ∙ told object within bound
      ∙ sym (same_there 0 q digit (top tree) tree lies refl small told is object within bound)

  node_edited : (depth q digit : ℕ) (tree after : Tree) → Lies words tree (suc depth) → digit < 4
      → Told marks (suc depth) (4 * q + digit) tree → OnPath edit.scope (suc (suc depth)) q
      → IsEdited edit (suc depth) digit tree after
      → (OnPath edit.scope (suc depth) (4 * q + digit) → (k : ℕ) → k < 4
      → IsEdited edit depth k (child tree k) (child after k)
      → Told new depth (4 * (4 * q + digit) + k) (child after k))
      → (comes : Bool) → goes edit.scope (top tree) (suc depth) digit ≡ comes
      → Told new (suc depth) (4 * q + digit) after
  node_edited depth q digit tree after lies small told path edited_is below true is object within bound =
      let k = object / 4 ^ depth % 4 in
      let quotient : object / 4 ^ depth / 4 ≡ object / (4 ^ depth * 4) =
      div-div-eq-div-mul object (4 ^ depth) 4 in
      let above : object / 4 ^ depth / 4 ≡ 4 * q + digit =
      quotient ∙ ap (λ n. object / n) (sym (pow-suc 4 depth)) ∙ within in
      below (path_down edit.scope (top tree) (suc depth) q digit small path is) k (omega arith)
      (edited_is.0 is k (omega arith)) object (omega (arith, above)) bound
  node_edited depth q digit tree after lies small told path edited_is below false is object within bound =
      ap (λ t. marks_in (chain_at t (digits_at object (places (suc depth))))) (edited_is.1 is)
      ∙ told object within bound
      ∙ sym (same_there (suc depth) q digit (top tree) tree lies refl small told is object within bound)

  pub tree_edited : (depth q digit : ℕ) (tree after : Tree) → Lies words tree depth → digit < 4
      → Told marks depth (4 * q + digit) tree → OnPath edit.scope (suc depth) q
      → IsEdited edit depth digit tree after → Told new depth (4 * q + digit) after
  tree_edited zero q digit tree after lies small told path edited_is =
      leaf_edited q digit tree after lies small told path edited_is
      (goes edit.scope (top tree) 0 digit) refl
  tree_edited (suc depth) q digit tree after lies small told path edited_is =
      node_edited depth q digit tree after lies small told path edited_is (λ down k less part.
      tree_edited depth (4 * q + digit) k (child tree k) (child after k)
      (lies_child words depth k tree lies) less (part_told marks depth (4 * q + digit) k tree less told) down
      part)
      (goes edit.scope (top tree) (suc depth) digit) refl

  -- ---- its chains can be made

  pub tree_can : (depth q digit : ℕ) (tree : Tree) → Lies words tree depth → InRange depth (4 * q + digit)
      → digit < 4 → Told marks depth (4 * q + digit) tree → OnPath edit.scope (suc depth) q
      → CanBe edit depth digit tree
  tree_can zero q digit tree lies range small told path = λ comes.
      let block = 4 * q + digit in
      let after = edited_here q digit block tree small told path comes (div-one block) (last_small block range) in
      subst IsConnector (sym after)
      (connector_on new makes.list block)
  tree_can (suc depth) q digit tree lies range small told path = λ comes k less.
      tree_can depth (4 * q + digit) k (child tree k) (lies_child words depth k tree lies)
      (in_part depth (4 * q + digit) k less range) less
      (part_told marks depth (4 * q + digit) k tree less told)
      (path_down edit.scope (top tree) (suc depth) q digit small path comes)
