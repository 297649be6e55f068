-- An edit of the marks that are pictured from a root.
use Rattle.std.proofs.Common.{◌≡◌, ◌∙◌, ℕ, ◌+◌, ◌^◌, ◌<◌, false, List, [], ◌++◌, Option, drop, length, refl, sym, ap, subst, arith, eq-eqb}
use Rattle.std.proofs.Math.Seq.{drop-append_seam}
use Rattle.std.proofs.lemmas.List.Sums.{length-filter}
use Rattle.std.proofs.lemmas.List.Elements.{All-filter}
use Rattle.std.specs.List.{list_any}
use Rattle.std.specs.Prelude.{All, count_by, not}
use Rattle.fan_bits.specs.declared.change.Change.{Change}
use Rattle.fan_bits.specs.declared.mark.Mark.{Mark}
use Rattle.fan_bits.specs.Marks.{IsMark, changed, gone, on, retired, same_mark}
use Rattle.fan_lists.proofs.Filters.{filter_all}
use Rattle.fan_rows.specs.Rows.{Rows, times}
use Rattle.fan_rows.specs.Trees.{Pictures, PicturesBy, Tree, chain_at, digits, digits_at, marks_in, places, rows_of, top}
use Rattle.fan_rows.proofs.Counting.{Told}
use Rattle.fan_rows.proofs.SameLists.{one_list}
use Rattle.fan_rows.proofs.TreeLemmas.{kept_picture, one_tree}
use Rattle.fan_build.specs.declared.edit.Edit.{Edit}
use Rattle.fan_build.specs.declared.edit.Scope.{Scope}
use Rattle.fan_build.specs.declared.edit.Scope.TheVariants.{Everywhere, Object, Nowhere}
use Rattle.fan_build.specs.declared.effect.Effect.{Effect}
use Rattle.fan_build.specs.declared.made.Made.{Made}
use Rattle.fan_build.specs.Building.{CanBuild, IsBuilt, IsNumbered, Makes}
use Rattle.fan_build.specs.Edits.{edit_of, edit_on}
use Rattle.fan_build.specs.Effects.{tree_effect}
use Rattle.fan_build.specs.Needs.{is_within, needed_between, needed_rows}
use Rattle.fan_build.specs.Objects.{changed_on}
use Rattle.fan_build.specs.Publishing.{CanChange, CanPublish, CanPublishOn, Reaches, Wrote, given_since, retired_since}
use Rattle.fan_build.specs.Steps.{TreeBefore, TreeMade}
use Rattle.fan_build.proofs.Blocks.{list_effect, unaltered, whole_range}
use Rattle.fan_build.proofs.Growing.{apart_after, keeps}
use Rattle.fan_build.proofs.Scopes.{makes_change, makes_change_on}
use Rattle.fan_build.proofs.TreeNeeds.{OnPath, tree_can, tree_edited, tree_told}

-- a picture tells the marks on all objects
root_told : (words : ℕ → Option ℕ) (root : ℕ) (tree : Tree) (marks : List Mark)
    → PicturesBy words root tree marks → Told marks 8 0 tree
unfolding digits
root_told words root tree marks by object within bound = by.told object bound

whole_digits : (object : ℕ) (tree : Tree) (all : List Mark)
    → marks_in (chain_at tree (digits_at object (places 8))) ≡ on object all
    → marks_in (chain_at tree (digits object)) ≡ on object all
unfolding digits
whole_digits object tree all same = same

-- the object of an edit is among them
path_start : (scope : Scope) → IsNumbered scope → OnPath scope 9 0
path_start Everywhere is = tt
path_start (Object object) small = omega (arith, small)
path_start Nowhere is = tt

module _ (words : ℕ → Option ℕ) (root : ℕ) (edit : Edit) (marks after : List Mark)
    (pictured : Pictures words root marks) (makes : Makes edit marks after) where
  abbrev tree : Tree
  tree = pictured.0

  pub root_effect : tree_effect edit 8 0 tree ≡ list_effect marks after 8 0
  root_effect =
      let by = pictured.1 in
      tree_told words edit marks after makes 8 0 0 tree by.lies whole_range (omega arith)
      (root_told words root tree marks by) (path_start edit.scope makes.numbered)

  pub root_needs : (tree_effect edit 8 0 tree).taken ≡ needed_between marks after
  unfolding needed_between
  root_needs = ap (λ (e : Effect). e.taken) root_effect

  -- each mark is on an object below 2^16
  all_within : (all : List Mark) → All IsMark all → count_by (is_within 8 0) all ≡ length all
  all_within all each =
      sym (length-filter (is_within 8 0) all)
      ∙ ap length (filter_all (is_within 8 0) all (λ k d within.
      let here = (each k d within).object.1 in eq-eqb _ 0 (omega (arith, here))))

  pub root_marks : (tree_effect edit 8 0 tree).marks ≡ length (gone marks after)
  root_marks =
      ap (λ (e : Effect). e.marks) root_effect
      ∙ all_within (gone marks after)
      (All-filter (λ mark. not (list_any (same_mark mark) after)) IsMark marks makes.before.each)

  -- nothing is altered where the lists are one
  root_quiet : after ≡ marks → (tree_effect edit 8 0 tree).altered ≡ false
  root_quiet same =
      ap (λ (e : Effect). e.altered) root_effect
      ∙ ap (λ (e : Effect). e.altered)
      (unaltered marks after 8 0 whole_range (λ object within bound. ap (on object) same))

-- ---- an edit can begin

module _ (words : ℕ → Option ℕ) (rows : Rows) (root : ℕ) (edit : Edit) (marks after : List Mark)
    (can : CanBuild words rows root edit marks after) where
  abbrev root_tree : Tree
  root_tree = can.pictured.0

  pub root_before : TreeBefore words rows edit 8 0 root root_tree
  root_before =
      let by = can.pictured.1 in
      record {
        lies = by.lies;
        top_is = by.root_is;
        apart = can.apart (rows_of root_tree) (root_tree, by.lies, by.root_is, refl);
        enough = omega (arith, can.enough, root_needs words root edit marks after can.pictured can.makes);
        possible = tree_can words edit marks after can.makes 8 0 0 root_tree by.lies whole_range (omega arith)
            (root_told words root root_tree marks by) (path_start edit.scope can.makes.numbered);
      }

  module _ (later : ℕ → Option ℕ) (end : Rows) (made : Made)
      (is : TreeMade words later rows end edit 8 0 root_tree made) where
    -- it retires few marks
    pub root_retired : made.marks ≡ length (gone marks after)
    root_retired = is.marks_is ∙ root_marks words root edit marks after can.pictured can.makes

    pub root_few : made.marks < 2 ^ 32
    root_few = omega (arith, root_retired, can.makes.few)

    -- the rows that were taken and given up are those since the begin
    given_is : given_since rows end ≡ is.more
    given_is =
        ap (drop (length rows.given)) is.grown.given_on ∙ drop-append_seam rows.given is.more

    retired_is : retired_since rows end ≡ is.gone
    retired_is =
        ap (drop (length rows.retired)) is.grown.retired_on ∙ drop-append_seam rows.retired is.gone

    root_pictures : Pictures later made.row after
    root_pictures =
        let by = can.pictured.1 in (
          is.new,
          record {
            root_is = is.top_is;
            lies = is.lies;
            once = λ row.
                let all = apart_after words later rows end is.more is.gone (rows_of root_tree) (rows_of is.new)
                (rows_of root_tree) [] is.grown is.counts root_before.apart (λ one. omega arith) row in
                omega (arith, all);
            told = λ object bound. whole_digits object is.new after
                (tree_edited words edit marks after can.makes 8 0 0 root_tree is.new by.lies (omega arith)
                (root_told words root root_tree marks by) (path_start edit.scope can.makes.numbered) is.told
                object (omega arith) bound);
          },
        )

    root_wrote : Wrote words later rows end
    root_wrote = record {
      given_on = subst (λ more. end.given ≡ rows.given ++ more) (sym given_is) is.grown.given_on;
      retired_on = subst (λ gone. end.retired ≡ rows.retired ++ gone) (sym retired_is) is.grown.retired_on;
      from_free = λ row. subst (λ more. times row rows.free ≡ times row end.free + times row more)
          (sym given_is) (is.grown.from_free row);
      fewer = subst (λ more. length rows.free ≡ length end.free + length more) (sym given_is) is.grown.fewer;
      others = λ row place small none.
          is.grown.others row place small (subst (λ more. times row more ≡ 0) given_is none);
    }

    root_once : (before last : List ℕ) → Reaches words root before → Reaches later made.row last
        → (row : ℕ) → times row before + times row (given_since rows end)
        ≡ times row last + times row (retired_since rows end)
    root_once before last (first, lies, top_is, rows_are) (new, lies_new, top_new, new_are) row =
        let by = can.pictured.1 in
        let one : first ≡ root_tree = one_tree words first root_tree 8 lies by.lies (top_is ∙ sym by.root_is) in
        let other : new ≡ is.new = one_tree later new is.new 8 lies_new is.lies (top_new ∙ sym is.top_is) in
        let old_rows : rows_of root_tree ≡ before = ap rows_of (sym one) ∙ rows_are in
        let new_rows : rows_of is.new ≡ last = ap rows_of (sym other) ∙ new_are in
        rw (given_is, retired_is, ← old_rows, ← new_rows) (sym (is.counts row))

    -- the old root pictures the old list still; so if it is the new one, the lists are one
    root_kept : made.row ≡ root → after ≡ marks
    root_kept same =
        let still = kept_picture words later root root_tree marks
        (keeps words later rows end is.more is.gone (rows_of root_tree) is.grown root_before.apart)
        can.pictured.1 in
        one_list later root after marks (subst (λ row. Pictures later row after) same root_pictures)
        (root_tree, still) can.makes.list can.makes.before

    root_same : after ≡ marks → made.row ≡ root
    root_same one =
        let quiet = root_quiet words root edit marks after can.pictured can.makes one in
        sym is.top_is ∙ ap top (is.same quiet).0 ∙ can.pictured.1.root_is

    pub root_built : IsBuilt words later rows end root marks after
        (record { root = made.row; marks_retired = made.marks; rows_retired = made.rows })
    root_built = record {
      pictures = root_pictures;
      reached = λ before last old new row. omega (arith, root_once before last old new row);
      fresh = root_wrote;
      needed = ap length given_is
          ∙ is.taken_is
          ∙ root_needs words root edit marks after can.pictured can.makes;
      marks_is = root_retired;
      rows_is = is.rows_is ∙ sym (ap length retired_is);
      once = root_once;
      same = root_same;
      kept = root_kept;
    }

-- ---- a change, and its part on one object

module _ (words : ℕ → Option ℕ) (rows : Rows) (root : ℕ) (marks : List Mark) (change : Change) where
  pub can_build : (edit : Edit) → edit ≡ edit_of change → CanPublish words rows root marks change
      → CanBuild words rows root edit marks (changed marks change)
  can_build edit is can = record {
    makes = subst (λ e. Makes e marks (changed marks change)) (sym is)
        (makes_change marks change can.possible.list can.possible.allowed);
    pictured = can.possible.pictured;
    enough = can.enough;
    apart = can.apart;
  }

  pub can_build_on : (object : ℕ) (edit : Edit) → edit ≡ edit_on change object
      → CanPublishOn words rows root marks change object
      → CanBuild words rows root edit marks (changed_on marks change object)
  can_build_on object edit is can = record {
    makes = subst (λ e. Makes e marks (changed_on marks change object)) (sym is)
        (makes_change_on marks change object can.possible.list can.possible.allowed);
    pictured = can.possible.pictured;
    enough = can.enough;
    apart = can.apart;
  }

-- and what they take
module _ (words : ℕ → Option ℕ) (root : ℕ) (marks : List Mark) (change : Change)
    (can : CanChange words root marks change) where
  pub change_needs : (edit : Edit) → edit ≡ edit_of change
      → (tree_effect edit 8 0 can.pictured.0).taken ≡ needed_rows marks change
  change_needs edit is =
      root_needs words root edit marks (changed marks change) can.pictured
      (subst (λ e. Makes e marks (changed marks change)) (sym is) (makes_change marks change can.list can.allowed))

  pub change_needs_on : (object : ℕ) (edit : Edit) → edit ≡ edit_on change object
      → (tree_effect edit 8 0 can.pictured.0).taken ≡ needed_between marks (changed_on marks change object)
  change_needs_on object edit is =
      root_needs words root edit marks (changed_on marks change object) can.pictured
      (subst (λ e. Makes e marks (changed_on marks change object)) (sym is)
      (makes_change_on marks change object can.list can.allowed))

-- the marks that a change retires are those that are gone
pub retired_are : (marks : List Mark) (change : Change)
    → length (gone marks (changed marks change)) ≡ length (retired marks change)
unfolding retired
retired_are marks change = refl
