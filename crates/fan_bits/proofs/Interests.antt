-- The interests of a list of marks: they rise in the order of asks and tells, each is that of a group that
-- wants something, and each such group has one.
use Rattle.std.proofs.Common.{Bool, true, ◌≡◌, ◌≢◌, ◌∙◌, ℕ, ◌*◌, ◌^◌, ◌<◌, ◌==◌, List, [], ◌∷◌, Some, None, refl, sym, ap, arith, subst, ⊎_elim, eqb-true}
use Rattle.std.specs.Prelude.{All, filter, nat_lt, if◌then◌else◌}
use Rattle.std.specs.List.{Contains}
use Rattle.std.proofs.lemmas.Bool.{cond_both}
use Rattle.std.proofs.lemmas.Bool.Decides.{nat_tests}
use Rattle.std.proofs.lemmas.List.Elements.{All-cons, All-contains, All-contains_itself, All-head, All-nil, All-tail}
use Rattle.fan_bits.specs.declared.mark.Mark.{Mark}
use Rattle.fan_bits.specs.declared.place.Happening.{Happening}
use Rattle.fan_bits.specs.declared.place.Interest.{Interest}
use Rattle.fan_bits.specs.Interest.{interest_of, interest_order, interests, interests_among, next_interest, placed, wanted}
use Rattle.fan_bits.specs.Marks.{IsMark, IsMarkList, order_of}
use Rattle.fan_bits.proofs.InterestLemmas.{order_number-lt, same_group}
use Rattle.fan_lists.proofs.Finds.{Contains-find, filter_from_find, find_passes}
use Rattle.fan_lists.proofs.Pairs.{Contains-cases, Contains-first, Contains-later}
use Rattle.fan_bits.proofs.Lists.{Contains-nil}
use Rattle.fan_bits.proofs.Rising.{RisesBy, all_behind, filter_first}

-- an interest is put before another, is dropped for one with its order, or is put behind it
placed_cases : (P : List Interest → Type 0) (interest other : Interest) (more : List Interest)
    → (interest_order interest < interest_order other → P (interest ∷ other ∷ more))
    → (interest_order interest ≡ interest_order other → P (other ∷ more))
    → (interest_order other < interest_order interest → P (other ∷ placed interest more))
    → P (placed interest (other ∷ more))
placed_cases P interest other more before same behind =
    let order = interest_order interest in
    let second = interest_order other in
    cond_both (nat_lt order second) (interest ∷ other ∷ more)
    (if order == second then other ∷ more else other ∷ placed interest more) P
    (λ less. before (grind (arith, nat_tests)))
    (λ no_less. cond_both (order == second) (other ∷ more) (other ∷ placed interest more) P
    (λ equal. same (eqb-true order second equal))
    (λ differ. behind (grind (arith, nat_tests))))

-- a group that wants nothing is left out, and the interest of any other is put at its place
among_cases : (P : List Interest → Type 0) (marks : List Mark) (mark : Mark) (more : List Mark)
    (happening : Happening)
    → (wanted marks mark.group happening ≡ 0 → P (interests_among marks more happening))
    → (wanted marks mark.group happening ≢ 0
    → P (placed (interest_of marks happening mark) (interests_among marks more happening)))
    → P (interests_among marks (mark ∷ more) happening)
among_cases P marks mark more happening nothing something =
    let word = wanted marks mark.group happening in
    let rest = interests_among marks more happening in
    cond_both (word == 0) rest (placed (interest_of marks happening mark) rest) P
    (λ none. nothing (eqb-true word 0 none)) (λ some. something (grind (arith, nat_tests)))

-- an interest that is put at its place keeps what holds of all
All-placed : (P : Interest → Type 0) (interest : Interest) (others : List Interest)
    → P interest → All P others → All P (placed interest others)
All-placed P interest [] here each = All-cons P interest [] here (All-nil P)
All-placed P interest (other ∷ more) here each =
    placed_cases (All P) interest other more
    (λ before. All-cons P interest (other ∷ more) here each)
    (λ same. each)
    (λ behind. All-cons P other (placed interest more) (All-head P other more each)
    (All-placed P interest more here (All-tail P other more each)))

-- interests rise with one more at its place
rises-placed : (interest : Interest) (others : List Interest)
    → RisesBy interest_order others → RisesBy interest_order (placed interest others)
rises-placed interest [] rises = (All-nil (λ y. interest_order interest < interest_order y), tt)
rises-placed interest (other ∷ more) rises =
    placed_cases (RisesBy interest_order) interest other more
    (λ before. (
      All-cons (λ y. interest_order interest < interest_order y) other more before
          (λ k d within. omega (arith, rises.0 k d within)),
      rises,
    ))
    (λ same. rises)
    (λ behind. (
      All-placed (λ y. interest_order other < interest_order y) interest more behind rises.0,
      rises-placed interest more rises.1,
    ))

rises-among : (marks some : List Mark) (happening : Happening)
    → RisesBy interest_order (interests_among marks some happening)
rises-among marks [] happening = tt
rises-among marks (mark ∷ more) happening =
    let rest = rises-among marks more happening in
    among_cases (RisesBy interest_order) marks mark more happening (λ none. rest)
    (λ some. rises-placed (interest_of marks happening mark) (interests_among marks more happening) rest)

-- the interests rise in the order of asks and tells
pub rises-interests : (marks : List Mark) (happening : Happening)
    → RisesBy interest_order (interests marks happening)
unfolding interests
rises-interests marks happening = rises-among marks marks happening

-- an interest is that of the group of a mark, which wants something
pub record IsWish (marks : List Mark) (happening : Happening) (interest : Interest) : Type 0 where
  pub mark : Mark
  pub among : Contains marks mark
  pub whole : interest ≡ interest_of marks happening mark
  pub some : wanted marks mark.group happening ≢ 0

wishes-among : (marks some : List Mark) (happening : Happening) → All (Contains marks) some
    → All (IsWish marks happening) (interests_among marks some happening)
wishes-among marks [] happening each = All-nil (IsWish marks happening)
wishes-among marks (mark ∷ more) happening each =
    let rest = wishes-among marks more happening (All-tail (Contains marks) mark more each) in
    let has = All-head (Contains marks) mark more each in
    among_cases (All (IsWish marks happening)) marks mark more happening (λ none. rest)
    (λ some. All-placed (IsWish marks happening) (interest_of marks happening mark)
    (interests_among marks more happening)
    (record { mark = mark; among = has; whole = refl; some = some }) rest)

-- each interest is such a one
pub wishes-interests : (marks : List Mark) (happening : Happening)
    → All (IsWish marks happening) (interests marks happening)
unfolding interests
wishes-interests marks happening = wishes-among marks marks happening (All-contains_itself marks)

-- an interest with this order is there
abbrev HasOrder : ℕ → List Interest → Type 0
HasOrder order interests =
    (interest : Interest) × Contains interests interest × (interest_order interest ≡ order)

-- also with one more before it
HasOrder-later : (order : ℕ) (other : Interest) (interests : List Interest) → HasOrder order interests
    → HasOrder order (other ∷ interests)
HasOrder-later order other interests (interest, within, is) =
    (interest, Contains-later interest other interests within, is)

-- an interest that is put at its place has its order there
placed_has : (interest : Interest) (others : List Interest)
    → HasOrder (interest_order interest) (placed interest others)
placed_has interest [] = (interest, Contains-first interest [], refl)
placed_has interest (other ∷ more) =
    placed_cases (HasOrder (interest_order interest)) interest other more
    (λ before. (interest, Contains-first interest (other ∷ more), refl))
    (λ same. (other, Contains-first other more, sym same))
    (λ behind. HasOrder-later (interest_order interest) other (placed interest more)
    (placed_has interest more))

-- and those that were there stay
placed_keeps : (order : ℕ) (interest : Interest) (others : List Interest) → HasOrder order others
    → HasOrder order (placed interest others)
placed_keeps order interest [] (x, within, is) = absurd (Contains-nil x within)
placed_keeps order interest (other ∷ more) has =
    placed_cases (HasOrder order) interest other more
    (λ before. HasOrder-later order interest (other ∷ more) has)
    (λ same. has)
    (λ behind. ⊎_elim
    (λ is. (other, Contains-first other (placed interest more), ap interest_order is ∙ has.2))
    (λ later. HasOrder-later order other (placed interest more)
    (placed_keeps order interest more (has.0, later, has.2)))
    (Contains-cases has.0 other more has.1))

has-among : (marks some : List Mark) (happening : Happening) (mark : Mark) → Contains some mark
    → wanted marks mark.group happening ≢ 0
    → HasOrder (order_of mark) (interests_among marks some happening)
has-among marks [] happening mark has wants = absurd (Contains-nil mark has)
has-among marks (other ∷ more) happening mark has wants =
    let own = interest_of marks happening other in
    let rest = interests_among marks more happening in
    let later = has-among marks more happening mark in
    among_cases (HasOrder (order_of mark)) marks other more happening
    (λ none. ⊎_elim
    (λ is. absurd (wants (ap (λ m. wanted marks m.group happening) (sym is) ∙ none)))
    (λ there. later there wants) (Contains-cases mark other more has))
    (λ some. ⊎_elim
    (λ is. subst (λ m. HasOrder (order_of m) (placed own rest)) is (placed_has own rest))
    (λ there. placed_keeps (order_of mark) own rest (later there wants)) (Contains-cases mark other more has))

-- the group of a mark has an interest if it wants something
pub has-interests : (marks : List Mark) (happening : Happening) (mark : Mark) → Contains marks mark
    → wanted marks mark.group happening ≢ 0
    → (interest : Interest) × Contains (interests marks happening) interest
    × (interest_order interest ≡ order_of mark)
unfolding interests
has-interests marks happening mark has wants = has-among marks marks happening mark has wants

-- the interests behind an order are the next one and those behind it
pub interests_behind_Some : (marks : List Mark) (happening : Happening) (after : ℕ) (interest : Interest)
    → next_interest marks happening after ≡ Some interest
    → filter (λ other. nat_lt after (interest_order other)) (interests marks happening)
    ≡ interest ∷ filter (λ other. nat_lt (interest_order interest) (interest_order other))
    (interests marks happening)
interests_behind_Some marks happening after interest found =
    filter_first interest_order after interest (interests marks happening)
    (rises-interests marks happening) found

-- and none if there is no next one
pub interests_behind_None : (marks : List Mark) (happening : Happening) (after : ℕ)
    → next_interest marks happening after ≡ None
    → filter (λ other. nat_lt after (interest_order other)) (interests marks happening) ≡ []
interests_behind_None marks happening after none =
    filter_from_find (λ other. nat_lt after (interest_order other)) (interests marks happening) none

-- ---- of a list of marks, in which a group has one class

-- marks of one group have one class
pub one_class : (marks : List Mark) → IsMarkList marks → (mark other : Mark) → Contains marks mark
    → Contains marks other → mark.group ≡ other.group → mark.class ≡ other.class
one_class marks is_list mark other has others same =
    let P : Mark → Mark → Type 0 = λ mark other. mark.group ≡ other.group → mark.class ≡ other.class in
    let here : All (P mark) marks =
    All-contains (λ mark. All (P mark) marks) marks mark is_list.classes has in
    All-contains (P mark) marks other here others same

-- and one place in the order of groups
pub one_order : (marks : List Mark) → IsMarkList marks → (mark other : Mark) → Contains marks mark
    → Contains marks other → mark.group ≡ other.group → order_of mark ≡ order_of other
one_order marks is_list mark other has others same =
    rw (one_class marks is_list mark other has others same, same) refl

-- which tells group and class
pub order_group : (marks : List Mark) → IsMarkList marks → (mark other : Mark) → Contains marks mark
    → Contains marks other → order_of mark ≡ order_of other
    → (mark.class ≡ other.class) × (mark.group ≡ other.group)
order_group marks is_list mark other has others same =
    let small = (All-contains IsMark marks mark is_list.each has).group.1 in
    let less = (All-contains IsMark marks other is_list.each others).group.1 in
    same_group mark.class other.class mark.group other.group small less same

module _ (marks : List Mark) (is_list : IsMarkList marks) (happening : Happening) where
  abbrev found : List Interest
  found = interests marks happening

  -- the interest of a mark's group is there if it wants something
  pub interest_there : (mark : Mark) → Contains marks mark → wanted marks mark.group happening ≢ 0
      → Contains found (interest_of marks happening mark)
  interest_there mark has wants =
      let there = has-interests marks happening mark has wants in
      let wish = All-contains (IsWish marks happening) found there.0
      (wishes-interests marks happening) there.1 in
      let same = order_group marks is_list wish.mark mark wish.among has
      (sym (ap interest_order wish.whole) ∙ there.2) in
      let whole : there.0 ≡ interest_of marks happening mark = wish.whole ∙ rw (same.0, same.1) refl in
      subst (Contains found) whole there.1

  -- interests in order are of two groups
  pub groups_differ : (interest other : Interest) → IsWish marks happening interest
      → IsWish marks happening other
      → interest_order interest < interest_order other → interest.group ≢ other.group
  groups_differ interest other wish second before same =
      let groups : wish.mark.group ≡ second.mark.group =
      sym (ap (λ i. i.group) wish.whole) ∙ same ∙ ap (λ i. i.group) second.whole in
      let order = one_order marks is_list wish.mark second.mark wish.among second.among groups in
      absurd (omega (arith, before, order, ap interest_order wish.whole, ap interest_order second.whole))

  -- all interests are behind the start
  pub interests_behind_start : filter (λ other. nat_lt 0 (interest_order other)) found ≡ found
  interests_behind_start =
      all_behind interest_order 0 found (λ k d within.
      let wish = wishes-interests marks happening k d within in
      let is_mark = All-contains IsMark marks wish.mark is_list.each wish.among in
      omega (arith, ap interest_order wish.whole, is_mark.group.0))

  -- the next interest is behind the order that was asked for, and below the greatest
  pub next_interest_order : (after : ℕ) (interest : Interest)
      → next_interest marks happening after ≡ Some interest
      → (after < interest_order interest) × (interest_order interest < 3 * 2 ^ 32)
  next_interest_order after interest is =
      let test : Interest → Bool = λ other. nat_lt after (interest_order other) in
      let passes : test interest ≡ true = find_passes test found interest is in
      let wish = All-contains (IsWish marks happening) found interest
      (wishes-interests marks happening) (Contains-find test found interest is) in
      let small = (All-contains IsMark marks wish.mark is_list.each wish.among).group.1 in
      let order : interest_order interest ≡ order_of wish.mark = ap interest_order wish.whole in
      (grind (arith, nat_tests), rw order (order_number-lt wish.mark.class wish.mark.group small))
