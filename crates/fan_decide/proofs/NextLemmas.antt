-- The next interest by the first group behind an order that has a mark on an object of the place.
use Rattle.std.proofs.Common.{◌≡◌, ◌≢◌, ◌∙◌, ℕ, ◌*◌, ◌^◌, ◌<◌, ◌≤◌, Bool, true, List, Option, Some, None, get_or, refl, sym, ap, arith, ⊎_elim}
use Rattle.std.specs.Prelude.{nat_lt}
use Rattle.std.specs.List.{Contains}
use Rattle.std.proofs.lemmas.Bool.{cases_lt}
use Rattle.std.proofs.lemmas.Bool.Decides.{nat_tests}
use Rattle.std.proofs.lemmas.List.Elements.{All-contains}
use Rattle.fan_bits.specs.declared.mark.Mark.{Mark}
use Rattle.fan_bits.specs.declared.place.Happening.{Happening}
use Rattle.fan_bits.specs.declared.place.Interest.{Interest}
use Rattle.fan_bits.specs.Interest.{interest_of, interest_order, interests, next_interest, wanted}
use Rattle.fan_bits.specs.Marks.{IsMark, IsMarkList, order_of}
use Rattle.fan_bits.proofs.InterestLemmas.{order_number-lt}
use Rattle.fan_decide.specs.Answers.{answers, first_of, interest_by, next_marked, objects}
use Rattle.fan_decide.specs.Words.{wanted_by}
use Rattle.fan_bits.proofs.InterestLaws.{wanting_mark}
use Rattle.fan_bits.proofs.Interests.{IsWish, interest_there, one_order, order_group, rises-interests, wishes-interests}
use Rattle.fan_lists.proofs.Finds.{Contains-find, find_passes}
use Rattle.fan_bits.proofs.Rising.{find_behind, find_none, find_upto}
use Rattle.fan_decide.proofs.AnswerLemmas.{IsFirst, answer_is, answer_upto, first_before, first_of-None, first_of-Some, near_object, same_wanted}

-- no interest comes of no mark
interest_by-none : (given : List (Option Mark)) (happening : Happening) (answer : Option Mark)
    → interest_by given happening answer ≡ None → answer ≡ None
interest_by-none given happening None none = refl
interest_by-none given happening (Some first) none = absurd cc

-- and one that comes is that of the mark
interest_by-some : (given : List (Option Mark)) (happening : Happening) (answer : Option Mark)
    (interest : Interest)
    → interest_by given happening answer ≡ Some interest → (first : Mark) × (answer ≡ Some first)
    × (interest ≡ record {
      group = first.group;
      class = first.class;
      bits =
          wanted_by given first.group happening;
    })
interest_by-some given happening None interest is = absurd cc
interest_by-some given happening (Some first) interest is = (first, refl, cc)

module _ (marks : List Mark) (is_list : IsMarkList marks) (happening : Happening) (after : ℕ) where
  abbrev given : List (Option Mark)
  given = answers marks (objects happening.place) after

  -- a group is that of the first mark, and what it wants by the answers is what it wants by all marks
  record IsMarked (interest : Interest) : Type 0 where
    first : Mark
    is_first : IsFirst given first
    among : Contains marks first
    behind : after < order_of first
    whole : interest ≡ interest_of marks happening first

  is_marked : (interest : Interest) → next_marked marks happening after ≡ Some interest → IsMarked interest
  is_marked interest is =
      let found = interest_by-some given happening (first_of given) interest is in
      let is_first = first_of-Some given found.0 found.1 in
      let one = answer_is marks (objects happening.place) after found.0 is_first.among in
      record {
        first = found.0;
        is_first = is_first;
        among = one.0;
        behind = one.1;
        whole = found.2 ∙ rw (same_wanted marks is_list happening after found.0 is_first) refl;
      }

  -- its order is behind the one that was asked for, and below the greatest
  pub marked_order : (interest : Interest) → next_marked marks happening after ≡ Some interest
      → (after < interest_order interest) × (interest_order interest < 3 * 2 ^ 32)
  marked_order interest is =
      let marked = is_marked interest is in
      let small = (All-contains IsMark marks marked.first is_list.each marked.among).group.1 in
      rw (ap interest_order marked.whole)
      (marked.behind, order_number-lt marked.first.class marked.first.group small)

  -- a group that wants something and is behind the order has a mark on an object of the place
  wish_mark : (interest : Interest) → IsWish marks happening interest → after < interest_order interest
      → (mark : Mark) × Contains marks mark × Contains (objects happening.place) mark.object
      × (order_of mark ≡ interest_order interest)
  wish_mark interest wish behind =
      let found = wanting_mark marks happening wish.mark.group wish.some in
      let order = one_order marks is_list found.0 wish.mark found.1 wish.among found.2 in (
        found.0,
        found.1,
        near_object found.0 happening.place found.3,
        order ∙ sym (ap interest_order wish.whole),
      )

  -- so the first mark has its order or a lesser one
  first_least : (first : Mark) → IsFirst given first → (interest : Interest) → IsWish marks happening interest
      → after < interest_order interest → order_of first ≤ interest_order interest
  first_least first is_first interest wish behind =
      let found = wish_mark interest wish behind in
      let least = first_before marks is_list
      (objects happening.place) after first is_first found.0 found.1 found.2
      (omega (arith, behind, found.3)) in
      omega (arith, least, found.3)

  -- an interest with the order of a mark is that of its group
  own_group : (first : Mark) → Contains marks first
      → (interest : Interest) (wish : IsWish marks happening interest)
      → interest_order interest ≡ order_of first → (wish.mark.class ≡ first.class)
      × (wish.mark.group ≡ first.group)
  own_group first has interest wish same =
      order_group marks is_list wish.mark first wish.among has (sym (ap interest_order wish.whole) ∙ same)

  -- if there is no mark, no group behind the order wants anything
  pub next_interest-none : next_marked marks happening after ≡ None → next_interest marks happening after
      ≡ None
  next_interest-none is =
      let none = interest_by-none given happening (first_of given) is in
      find_none interest_order after (interests marks happening) (λ k d within.
      let interest = get_or (interests marks happening) k d in
      let wish = wishes-interests marks happening k d within in
      ⊎_elim (λ behind.
      let own = wish_mark interest wish behind in
      let answer = answer_upto marks (objects happening.place) after own.0 is_list.rises own.1 own.2
      (omega (arith, behind, own.3)) in
      absurd (first_of-None given none answer.0 answer.1))
      (λ within. within) (cases_lt after (interest_order interest)))

  -- if the first group with a mark wants something, it is the next one
  pub next_interest-some : (interest : Interest) → next_marked marks happening after ≡ Some interest
      → interest.bits ≢ 0 → next_interest marks happening after ≡ Some interest
  next_interest-some interest is some =
      let marked = is_marked interest is in
      let wants : wanted marks marked.first.group happening ≢ 0 =
      λ none. some (ap (λ i. i.bits) marked.whole ∙ none) in
      let own = interest_of marks happening marked.first in
      let next = find_upto interest_order after own (interests marks happening)
      (rises-interests marks happening)
      (interest_there marks is_list happening marked.first marked.among wants)
      marked.behind in
      ⊎_elim (λ same. next.1 ∙ ap (λ i. Some i) (same ∙ sym marked.whole))
      (λ less.
      let test : Interest → Bool = λ i. nat_lt after (interest_order i) in
      let passes : test next.0 ≡ true = find_passes test (interests marks happening) next.0 next.1 in
      let lesser = All-contains (IsWish marks happening) (interests marks happening) next.0
      (wishes-interests marks happening) (Contains-find test (interests marks happening) next.0 next.1) in
      let behind : after < interest_order next.0 = grind (arith, nat_tests) in
      absurd (omega (arith, first_least marked.first marked.is_first next.0 lesser behind, less)))
      next.2

  -- if it wants nothing, the next one is behind its order
  pub next_interest-on : (interest : Interest) → next_marked marks happening after ≡ Some interest
      → interest.bits ≡ 0 → next_interest marks happening after
      ≡ next_interest marks happening (interest_order interest)
  next_interest-on interest is none =
      let marked = is_marked interest is in
      let order : interest_order interest ≡ order_of marked.first = ap interest_order marked.whole in
      rw order (find_behind interest_order after (order_of marked.first) (interests marks happening)
      (omega (arith, marked.behind)) (λ k d within behind.
      let other = get_or (interests marks happening) k d in
      let wish = wishes-interests marks happening k d within in
      let least = first_least marked.first marked.is_first other wish behind in
      ⊎_elim (λ less. less)
      (λ no_less.
      let group = own_group marked.first marked.among other wish (omega (arith, least, no_less)) in
      absurd (wish.some (ap (λ g. wanted marks g happening) group.1 ∙ sym (ap (λ i. i.bits) marked.whole)
      ∙ none)))
      (cases_lt (order_of marked.first) (interest_order other))))
