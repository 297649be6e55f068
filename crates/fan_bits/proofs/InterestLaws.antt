-- Who has an interest, once and in which class; and that marks elsewhere don't matter.
use Rattle.std.proofs.Common.{◌≡◌, ◌≢◌, ◌∙◌, ℕ, ◌≤◌, ◌==◌, ◌&&◌, ◌||◌, Bool, true, false, List, [], ◌∷◌, refl, sym, ap, arith, subst, eqb, eqb-true, eq-eqb, map, length, get_or}
use Rattle.std.specs.Prelude.{◌↔◌, All, filter}
use Rattle.std.specs.List.{Contains, IsDistinct, list_any}
use Rattle.std.proofs.lemmas.Bool.{and_parts, ne_eqb}
use Rattle.std.proofs.lemmas.Cmp.{nat_eq_equiv}
use Rattle.std.proofs.lemmas.List.{length-map}
use Rattle.std.proofs.lemmas.List.Elements.{All-contains, All-map, All-tail, All-head, Contains-get_or, recursion_from_All}
use Rattle.std.proofs.lemmas.List.Folds.{Any-from_list_any, list_any-from_Any}
use Rattle.std.proofs.lemmas.Map.Made.{length-le_from_is_member}
use Rattle.fan_bits.specs.declared.mark.Mark.{Mark}
use Rattle.fan_bits.specs.declared.place.Happening.{Happening}
use Rattle.fan_bits.specs.declared.place.Interest.{Interest}
use Rattle.fan_bits.specs.declared.place.Place.{Place}
use Rattle.fan_bits.specs.Interest.{concerns, ignores, interest_of, interest_order, interests, is_on_place, near, reaches, wanted, wants, watches_children}
use Rattle.fan_bits.specs.Marks.{IsMarkList}
use Rattle.fan_bits.specs.Places.{is_parent}
use Rattle.fan_bits.specs.Words.{occurs}
use Rattle.fan_bits.proofs.InterestLemmas.{bits_that_agree, bits_that_some}
use Rattle.fan_bits.proofs.Interests.{IsWish, groups_differ, interest_there, one_class, rises-interests, wishes-interests}
use Rattle.fan_lists.proofs.Pairs.{Contains-filter, Contains-map}
use Rattle.fan_bits.proofs.Lists.{Contains-filtered, Contains-mapped, any_wider}
use Rattle.fan_bits.proofs.MarkLists.{IsMarkList-filter}
use Rattle.fan_bits.proofs.Rising.{RisesBy, same_elements}

-- ---- marks near a place

reached_near : (here parent watches asked : Bool) → (here || (parent && watches && asked)) ≡ true
    → (here || parent) ≡ true
reached_near true parent watches asked reached = refl
reached_near false true watches asked reached = refl
reached_near false false watches asked reached = absurd cc

-- a mark that reaches a place is near it
reaches_near : (mark : Mark) (place : Place) (event : ℕ) → reaches mark place event ≡ true
    → near place mark ≡ true
reaches_near mark place event reached =
    reached_near (is_on_place mark place) (is_parent mark.object place.parent) (watches_children mark) _
    reached

-- and so is one that concerns an event there, or ignores it
pub concerns_near : (mark : Mark) (happening : Happening) (event : ℕ) → concerns mark happening event ≡ true
    → near happening.place mark ≡ true
concerns_near mark happening event concerned =
    reaches_near mark happening.place event (and_parts _ (reaches mark happening.place event) concerned).1

pub ignores_near : (mark : Mark) (happening : Happening) (event : ℕ) → ignores mark happening event ≡ true
    → near happening.place mark ≡ true
ignores_near mark happening event ignored =
    reaches_near mark happening.place event (and_parts _ (reaches mark happening.place event) ignored).1

-- a group that wants something has a mark near the place
pub wanting_mark : (marks : List Mark) (happening : Happening) (group : ℕ) → wanted marks group happening ≢ 0
    → (mark : Mark) × Contains marks mark × (mark.group ≡ group) × (near happening.place mark ≡ true)
unfolding wanted
wanting_mark marks happening group some =
    let event = bits_that_some 32 (wants marks group happening) some in
    let by_mark = λ (mark : Mark). mark.group == group && concerns mark happening event.0 in
    let parts = and_parts (occurs happening.bits event.0 && list_any by_mark marks) _ event.2 in
    let concerned = and_parts (occurs happening.bits event.0) (list_any by_mark marks) parts.0 in
    let found = Any-from_list_any by_mark marks concerned.1 in
    let both = and_parts (found.1.group == group) (concerns found.1 happening event.0) found.4 in (
      found.1,
      (found.0, found.2, found.3),
      eqb-true _ _ both.0,
      concerns_near found.1 happening event.0 both.1,
    )

-- marks elsewhere don't matter to what a group wants
pub wanted_near : (marks : List Mark) (happening : Happening) (group : ℕ)
    → wanted (filter (near happening.place) marks) group happening ≡ wanted marks group happening
unfolding wanted
wanted_near marks happening group =
    let around = near happening.place in
    bits_that_agree 32 (wants (filter around marks) group happening) (wants marks group happening)
    (λ event below.
    let concerned = any_wider around (λ mark. mark.group == group && concerns mark happening event)
    (λ mark passes. concerns_near mark happening event (and_parts _ (concerns mark happening event) passes).1)
    marks in
    let ignored = any_wider around (λ mark. mark.group == group && ignores mark happening event)
    (λ mark passes. ignores_near mark happening event (and_parts _ (ignores mark happening event) passes).1)
    marks in
    rw (concerned, ignored) refl)

-- each interest is of the bits that its group wants
pub bits_wanted : (marks : List Mark) (happening : Happening)
    → All (λ interest. interest.bits ≡ wanted marks interest.group happening) (interests marks happening)
bits_wanted marks happening k d within =
    let wish = wishes-interests marks happening k d within in
    ap (λ i. i.bits) wish.whole ∙ ap (λ g. wanted marks g happening) (sym (ap (λ i. i.group) wish.whole))

-- ---- of a list of marks

module _ (marks : List Mark) (is_list : IsMarkList marks) (happening : Happening) where
  abbrev found : List Interest
  found = interests marks happening

  abbrev group_of : Interest → ℕ
  group_of interest = interest.group

  -- each interest is of the class that its group has in the list
  pub class_marked : All (λ interest.
      All (λ mark. mark.group ≡ interest.group → mark.class ≡ interest.class) marks) found
  class_marked k d within = λ at default inside same.
      let wish = wishes-interests marks happening k d within in
      let mark = get_or marks at default in
      one_class marks is_list mark wish.mark (Contains-get_or marks at default inside) wish.among
      (same ∙ ap group_of wish.whole) ∙ sym (ap (λ i. i.class) wish.whole)

  -- just the groups that want something have one
  pub groups_wanting : (group : ℕ) → Contains (map group_of found) group ↔ (wanted marks group happening ≢ 0)
  groups_wanting group = (
    λ has none.
        let interest = Contains-mapped group_of group found has in
        let wish = All-contains (IsWish marks happening) found interest.0
        (wishes-interests marks happening) interest.1 in
        let same : wish.mark.group ≡ group = sym (ap group_of wish.whole) ∙ interest.2 in
        wish.some (ap (λ g. wanted marks g happening) same ∙ none),
    λ some.
        let mark = wanting_mark marks happening group some in
        let wants : wanted marks mark.0.group happening ≢ 0 = rw mark.2 some in
        subst (Contains (map group_of found)) mark.2
        (Contains-map group_of (interest_of marks happening mark.0) found
        (interest_there marks is_list happening mark.0 mark.1 wants)),
  )

  distinct : (some : List Interest) → RisesBy interest_order some → All (IsWish marks happening) some
      → IsDistinct eqb (map group_of some)
  unfolding IsDistinct
  distinct [] rises each = tt
  distinct (interest ∷ more) rises each =
      let wish = All-head (IsWish marks happening) interest more each in
      let wishes = All-tail (IsWish marks happening) interest more each in
      let Differs : ℕ → Type 0 = λ group. eqb interest.group group ≡ false in (
        recursion_from_All Differs (map group_of more) (All-map Differs group_of more (λ k d within.
            let other = get_or more k d in
            ne_eqb interest.group other.group
            (groups_differ marks is_list happening interest other wish (wishes k d within)
            (rises.0 k d within)))),
        distinct more rises.1 wishes,
      )

  -- and have it once
  pub interests_distinct : IsDistinct eqb (map group_of found)
  interests_distinct = distinct found (rises-interests marks happening) (wishes-interests marks happening)

  -- so there are no more interests than groups, of which each mark has one
  pub interests_few : (groups : List ℕ) → All (λ mark. Contains groups mark.group) marks
      → length found ≤ length groups
  interests_few groups each =
      let few : length (map group_of found) ≤ length groups =
      length-le_from_is_member nat_eq_equiv (map group_of found) groups interests_distinct (λ group has.
      let place = Any-from_list_any (eqb group) (map group_of found) has in
      let interest = Contains-mapped group_of place.1 found (place.0, place.2, place.3) in
      let wish = All-contains (IsWish marks happening) found interest.0
      (wishes-interests marks happening) interest.1 in
      let has_group : Contains groups wish.mark.group =
      All-contains (λ mark. Contains groups mark.group) marks wish.mark each wish.among in
      let same : group ≡ wish.mark.group =
      eqb-true group place.1 place.4 ∙ sym interest.2 ∙ ap group_of wish.whole in
      list_any-from_Any (eqb group) groups
      (has_group.0, wish.mark.group, has_group.1, has_group.2, eq-eqb group wish.mark.group same)) in
      omega (arith, few, simp length-map at few)

  abbrev around : List Mark
  around = filter (near happening.place) marks

  interest_near : All (Contains (interests around happening)) found
  interest_near k d within =
      let wish = wishes-interests marks happening k d within in
      let group = wish.mark.group in
      let mark = wanting_mark marks happening group wish.some in
      let same_class = one_class marks is_list mark.0 wish.mark mark.1 wish.among mark.2 in
      let wants : wanted around mark.0.group happening ≢ 0 =
      rw (mark.2, wanted_near marks happening group) wish.some in
      let whole : interest_of around happening mark.0 ≡ get_or found k d =
      rw (mark.2, same_class, wanted_near marks happening group) (sym wish.whole) in
      subst (Contains (interests around happening)) whole
      (interest_there around (IsMarkList-filter (near happening.place) marks is_list) happening mark.0
      (Contains-filter (near happening.place) mark.0 marks mark.1 mark.3) wants)

  near_interest : All (Contains found) (interests around happening)
  near_interest k d within =
      let wish = wishes-interests around happening k d within in
      let same = wanted_near marks happening wish.mark.group in
      let whole : interest_of marks happening wish.mark ≡ get_or (interests around happening) k d =
      rw (← same) (sym wish.whole) in
      subst (Contains found) whole
      (interest_there marks is_list happening wish.mark
      (Contains-filtered (near happening.place) wish.mark marks wish.among).0 (rw (← same) wish.some))

  -- marks elsewhere don't matter
  pub interests_near : interests (filter (near happening.place) marks) happening ≡ found
  interests_near =
      same_elements interest_order (interests around happening) found (rises-interests around happening)
      (rises-interests marks happening) near_interest interest_near
