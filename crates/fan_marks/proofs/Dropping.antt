-- Marks that are taken away one after another.
use Rattle.std.proofs.Common.{◌≡◌, ◌∙◌, ℕ, ◌+◌, Bool, true, false, List, [], ◌∷◌, ◌++◌, Option, Some, None, get_or, length, refl, ap, sym, subst, arith}
use Rattle.std.specs.Prelude.{filter, find, not}
use Rattle.std.specs.List.{Contains}
use Rattle.std.specs.Option.{IsSomeAnd}
use Rattle.std.proofs.lemmas.List.Elements.{All-contains_itself, All-weaker, filter-append}
use Rattle.std.proofs.lemmas.List.Filters.{length-filter_both}
use Rattle.std.proofs.lemmas.List.Sums.{length-filter}
use Rattle.fan_lists.proofs.Filters.{filter_all, filter_from_length}
use Rattle.fan_lists.proofs.Pairs.{Contains-filter}
use Rattle.fan_bits.specs.declared.mark.Mark.{Mark}
use Rattle.fan_bits.specs.Marks.{Rises, changed, listed}
use Rattle.fan_marks.specs.declared.keys.ObjectKey.{ObjectKey}
use Rattle.fan_marks.specs.declared.selection.Selection.{Selection}
use Rattle.fan_marks.specs.declared.selection.Selection.TheVariants.{OfKind, OfGroup, OnObject}
use Rattle.fan_marks.specs.Keys.{before, behind, between, has_object_key, replaced}
use Rattle.fan_marks.specs.Selected.{IsOneOf, dropping, is_selected}
use Rattle.fan_marks.specs.Summary.{IsMade, summary_of}
use Rattle.fan_marks.proofs.Replaced.{length-replaced, split_at}
use Rattle.fan_marks.proofs.Summaries.{is_made}

-- a filter of two lists with a mark, or none, between them
pub filter-between : (q : Mark → Bool) (front : List Mark) (here : Option Mark) (back : List Mark)
    → filter q (between front here back) ≡ filter q front ++ filter q (listed here) ++ filter q back
filter-between q front here back =
    filter-append q (front ++ listed here) back
    ∙ ap (λ first. first ++ filter q back) (filter-append q front (listed here))

module _ (p : Mark → Bool) where
  abbrev left : List Mark → List Mark
  left marks = filter (λ mark. not (p mark)) marks

  -- where a mark goes that passes, the others are still left, and there is one mark less
  pub one_less : (key : ObjectKey) (marks : List Mark) → Rises marks
      → IsSomeAnd (find (has_object_key key) marks) (λ mark. p mark ≡ true)
      → (left (replaced marks key None) ≡ left marks) × (length (replaced marks key None) + 1 ≡ length marks)
  one_less key marks rises there = by (find (has_object_key key) marks) refl there
    where
      by : (found : Option Mark) → find (has_object_key key) marks ≡ found
          → IsSomeAnd found (λ mark. p mark ≡ true)
          → (left (replaced marks key None) ≡ left marks) × (length (replaced marks key None) + 1
          ≡ length marks)
      by None found is = absurd is
      by (Some mark) found passes =
          let q : Mark → Bool = λ mark. not (p mark) in
          let none : filter q (mark ∷ []) ≡ [] = rw passes refl in (
            filter-between q (before key marks) None (behind key marks)
                ∙ ap (λ here. left (before key marks) ++ here ++ left (behind key marks)) (sym none)
                ∙ sym (filter-between q (before key marks) (Some mark) (behind key marks))
                ∙ sym (ap left (split_at key marks (Some mark) rises found)),
            omega (arith, length-replaced key marks rises (Some mark) None found),
          )

-- the change takes away what is selected
dropping_is : (selection : Selection) (marks : List Mark)
    → changed marks (dropping selection) ≡ filter (λ mark. not (is_selected selection mark)) marks
unfolding changed
dropping_is (OfKind group kind) marks = refl
dropping_is (OfGroup group) marks = refl
dropping_is (OnObject object) marks = refl

-- the summary where all that are selected are gone
pub drop_made : (selection : Selection) (old new : List Mark) (count : ℕ)
    → IsOneOf (is_selected selection) new None
    → filter (λ mark. not (is_selected selection mark)) new ≡ filter (λ mark. not
    (is_selected selection mark)) old
    → count + length new ≡ length old → IsMade old new (dropping selection) (summary_of count)
drop_made selection old new count none kept counts =
    let p : Mark → Bool = is_selected selection in
    let q : Mark → Bool = λ mark. not (p mark) in
    let all : filter q new ≡ new =
    filter_all q new (All-weaker (λ mark. p mark ≡ false) (λ mark. q mark
    ≡ true) (λ mark fails. ap not fails) new none) in
    let is : new ≡ filter q old = sym all ∙ kept in
    let both = length-filter_both p q (λ mark. refl) old in
    is_made p old new none
    (λ k d within fails. subst (λ marks. Contains marks (get_or old k d)) (sym is)
    (Contains-filter q (get_or old k d) old (All-contains_itself old k d within) (ap not fails)))
    (dropping selection) count (is ∙ sym (dropping_is selection old))
    (omega (arith, counts, both, length-filter p old, ap length is))
    (λ zero. is ∙ filter_from_length q old (omega (arith, zero, both, length-filter p old)))
