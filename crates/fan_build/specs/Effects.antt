-- The effect of a change on the marks below an index row.
use Rattle.std.specs.Prelude.{◌≡◌, ℕ, zero, suc, ◌+◌, ◌<◌, ◌==◌, ◌&&◌, ◌||◌, true, false, not, if◌then◌else◌}
use Rattle.fan_rows.specs.Trees.{Tree, child, links_of, marks_in, top}
use Rattle.fan_build.specs.declared.edit.Edit.{Edit}
use Rattle.fan_build.specs.declared.effect.Effect.{Effect}
use Rattle.fan_build.specs.declared.effect.Effects.{Effects}
use Rattle.fan_build.specs.Edits.{chain_effect, edited, goes, no_effect}

-- an index row is taken where a mark below is altered and one is left
abbrev pub joined : Effects → Effect
joined all =
    let altered = all.first.altered || all.second.altered || all.third.altered || all.fourth.altered in
    let left = all.first.left || all.second.left || all.third.left || all.fourth.left in
    record {
      altered = altered;
      left = left;
      taken = all.first.taken + all.second.taken + all.third.taken + all.fourth.taken
          + (if altered && left then 1 else 0);
      marks = all.first.marks + all.second.marks + all.third.marks + all.fourth.marks;
    }

-- the effect on a tree that stands for a digit, with so many index rows above its chains
abbrev pub tree_effect : Edit → ℕ → ℕ → Tree → Effect
tree_effect edit zero digit tree =
    if goes edit.scope (top tree) 0 digit then chain_effect edit.change (marks_in (links_of tree))
    else no_effect (not (top tree == 0))
tree_effect edit (suc depth) digit tree =
    if goes edit.scope (top tree) (suc depth) digit
    then joined (record {
      first = tree_effect edit depth 0 (child tree 0);
      second = tree_effect edit depth 1 (child tree 1);
      third = tree_effect edit depth 2 (child tree 2);
      fourth = tree_effect edit depth 3 (child tree 3);
    })
    else no_effect (not (top tree == 0))

-- a tree is another one with the change made of the chains to which it comes
abbrev pub IsEdited : Edit → ℕ → ℕ → Tree → Tree → Type 0
IsEdited edit zero digit tree new =
    (goes edit.scope (top tree) 0 digit ≡ true
    → marks_in (links_of new) ≡ edited edit.change (marks_in (links_of tree)))
    × (goes edit.scope (top tree) 0 digit ≡ false → new ≡ tree)
IsEdited edit (suc depth) digit tree new =
    (goes edit.scope (top tree) (suc depth) digit ≡ true
    → (one : ℕ) → one < 4 → IsEdited edit depth one (child tree one) (child new one))
    × (goes edit.scope (top tree) (suc depth) digit ≡ false → new ≡ tree)
