-- Two lists of marks with the same marks on each object are one; so words picture one list.
use Rattle.std.proofs.Common.{◌≡◌, ◌∙◌, ℕ, ◌+◌, ◌*◌, ◌^◌, ◌<◌, true, Option, List, [], ◌∷◌, refl, sym, ap, subst, arith, eq-eqb, get_or}
use Rattle.std.proofs.lemmas.Bool.Decides.{nat_tests}
use Rattle.std.proofs.lemmas.List.Elements.{All-head, All-tail, Contains-get_or}
use Rattle.std.specs.List.{Contains}
use Rattle.std.specs.Prelude.{All, ◌==◌}
use Rattle.fan_bits.specs.declared.mark.Mark.{Mark}
use Rattle.fan_bits.specs.Marks.{IsMark, IsMarkList, Rises, is_before, on, order_of}
use Rattle.fan_bits.proofs.InterestLemmas.{order_number-lt}
use Rattle.fan_bits.proofs.Lists.{Contains-filtered}
use Rattle.fan_bits.proofs.Rising.{RisesBy, same_elements}
use Rattle.fan_lists.proofs.Pairs.{Contains-filter}
use Rattle.fan_rows.specs.Trees.{Pictures, chain_at, digits, marks_in}
use Rattle.fan_rows.proofs.TreeLemmas.{one_tree}

-- where a mark stands in a list: by object, and then by order
place_of : Mark → ℕ
place_of mark = mark.object * 2 ^ 40 + order_of mark

before_place : (x y : Mark) → IsMark x → is_before y.object (order_of y) x ≡ true → place_of x < place_of y
unfolding place_of
before_place x y is before =
    let small = order_number-lt x.class x.group is.group.1 in
    grind (arith, nat_tests)

rises_by_place : (marks : List Mark) → All IsMark marks → Rises marks → RisesBy place_of marks
rises_by_place [] each rises = tt
rises_by_place (x ∷ xs) each rises = (
  λ k d within. before_place x (get_or xs k d) (All-head IsMark x xs each) (rises.0 k d within),
  rises_by_place xs (All-tail IsMark x xs each) rises.1,
)

-- what one list has, the other has
moved : (xs ys : List Mark) → All IsMark xs
    → ((object : ℕ) → object < 2 ^ 16 → on object xs ≡ on object ys) → All (Contains ys) xs
moved xs ys each same = λ k d within.
    let mark = get_or xs k d in
    let number = (each k d within).object.1 in
    let here : Contains (on mark.object xs) mark =
    Contains-filter (λ other. other.object == mark.object) mark xs (Contains-get_or xs k d within)
    (eq-eqb mark.object mark.object refl) in
    (Contains-filtered (λ other. other.object == mark.object) mark ys
    (subst (λ list. Contains list mark) (same mark.object (omega (arith, number))) here)).0

-- two lists of marks with the same marks on each object are one
pub same_list : (xs ys : List Mark) → IsMarkList xs → IsMarkList ys
    → ((object : ℕ) → object < 2 ^ 16 → on object xs ≡ on object ys) → xs ≡ ys
same_list xs ys is other same =
    same_elements place_of xs ys (rises_by_place xs is.each is.rises)
    (rises_by_place ys other.each other.rises) (moved xs ys is.each same) (moved ys xs other.each (λ object within. sym (same object within)))

-- words picture at most one list of marks from a root
pub one_list : (words : ℕ → Option ℕ) (root : ℕ) (marks others : List Mark) → Pictures words root marks
    → Pictures words root others → IsMarkList marks → IsMarkList others → marks ≡ others
one_list words root marks others (tree, by) (other, too) is also =
    let one : tree ≡ other = one_tree words tree other 8 by.lies too.lies (by.root_is ∙ sym too.root_is) in
    same_list marks others is also (λ object within. sym (by.told object within)
    ∙ ap (λ t. marks_in (chain_at t (digits object))) one ∙ too.told object within)
