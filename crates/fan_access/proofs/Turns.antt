-- The turns that are left of some rounds: which one is next, and what is left behind it.
use Rattle.std.proofs.Common.{◌≡◌, ◌∙◌, ℕ, ◌+◌, List, [], ◌∷◌, Option, Some, None, zero, suc, drop, refl, sym, ap, add-one}
use Rattle.std.specs.Prelude.{option_map, slice_get}
use Rattle.fan_access.specs.Kept.{turns_behind}
use Rattle.fan_access.specs.Rounds.{Round, turns}
use Rattle.fan_bits.specs.declared.mark.Mark.{Mark}
use Rattle.fan_bits.specs.declared.place.Happening.{Happening}
use Rattle.fan_bits.specs.declared.place.Interest.{Interest}
use Rattle.fan_bits.specs.Interest.{interest_order, next_interest}
use Rattle.fan_bits.specs.Marks.{IsMarkList}
use Rattle.fan_bits.proofs.Interests.{interests_behind_None, interests_behind_Some, interests_behind_start}
use Rattle.fan_lists.proofs.Places.{drop_end, drop_next}

-- ---- lists from a number on

module _ {X : Type 0} where
  -- the first from a number on is there, and the others are from the next number on
  pub got-drop : (xs : List X) (at : ℕ) (x : X) (more : List X) → drop at xs ≡ x ∷ more
      → (slice_get xs at ≡ Some x) × (drop (at + 1) xs ≡ more)
  got-drop [] zero x more left = absurd cc
  got-drop [] (suc at) x more left = absurd cc
  got-drop (y ∷ ys) zero x more left = (cc, cc)
  got-drop (y ∷ ys) (suc at) x more left =
      let rest = got-drop ys at x more left in
      (rest.0, rw add-one (ap (λ n. drop n ys) (sym (add-one at)) ∙ rest.1))

  -- where none is left, none is there
  pub none-drop : (xs : List X) (at : ℕ) → drop at xs ≡ [] → slice_get xs at ≡ None
  none-drop [] at left = refl
  none-drop (y ∷ ys) zero left = absurd cc
  none-drop (y ∷ ys) (suc at) left = none-drop ys at left

-- ---- the turns that are left by a list of marks

-- behind the start all turns are left
pub turns_behind-start : (marks : List Mark) (rounds : List Round) → IsMarkList marks
    → turns_behind marks rounds 0 ≡ turns marks rounds
turns_behind-start marks [] is_list = refl
turns_behind-start marks (round ∷ more) is_list =
    rw (interests_behind_start marks is_list round.happening) refl

-- the next interest of the first round has the next turn, and those behind it are left behind it
turns_behind-Some : (marks : List Mark) (round : Round) (more : List Round) (after : ℕ)
    (interest : Interest) → next_interest marks round.happening after ≡ Some interest
    → turns_behind marks (round ∷ more) after
    ≡ record { happening = round.happening; name = round.name; interest = interest }
    ∷ turns_behind marks (round ∷ more) (interest_order interest)
turns_behind-Some marks round more after interest found =
    rw (interests_behind_Some marks round.happening after interest found) refl

-- if there is no next interest, the turns of the other rounds are left
turns_behind-None : (marks : List Mark) (round : Round) (more : List Round) (after : ℕ)
    → IsMarkList marks → next_interest marks round.happening after ≡ None
    → turns_behind marks (round ∷ more) after ≡ turns_behind marks more 0
turns_behind-None marks round more after is_list none =
    rw (interests_behind_None marks round.happening after none, turns_behind-start marks more is_list) refl

-- ---- the same from a round on

module _ (marks : List Mark) (rounds : List Round) (number after : ℕ) (round : Round)
    (got : slice_get rounds number ≡ Some round) (happening : Happening)
    (happens : happening ≡ round.happening) where
  -- the next interest in the round has the next turn
  pub turns_left-Some : (interest : Interest) (order : ℕ)
      → Some interest ≡ next_interest marks happening after → order ≡ interest_order interest
      → turns_behind marks (drop number rounds) after
      ≡ record { happening = happening; name = round.name; interest = interest }
      ∷ turns_behind marks (drop number rounds) order
  turns_left-Some interest order found is =
      rw (drop_next rounds number round got, is, happens)
      (turns_behind-Some marks round (drop (number + 1) rounds) after interest
      (rw (sym happens) (sym found)))

  -- if there is none, the turns of the next round are left
  pub turns_left-None : IsMarkList marks → None ≡ next_interest marks happening after
      → turns_behind marks (drop number rounds) after ≡ turns_behind marks (drop (number + 1) rounds) 0
  turns_left-None is_list none =
      rw (drop_next rounds number round got)
      (turns_behind-None marks round (drop (number + 1) rounds) after is_list
      (rw (sym happens) (sym none)))

-- from behind the last round none is left
pub none_left : (marks : List Mark) (rounds : List Round) (number after : ℕ)
    → slice_get rounds number ≡ None → turns_behind marks (drop number rounds) after ≡ []
none_left marks rounds number after none = rw (drop_end rounds number none) refl

-- the happening of a round is the one that is found there
pub same_happening : (found : Option Round) (round : Round) → found ≡ Some round → (happening : Happening)
    → Some happening ≡ option_map (λ round. round.happening) found → happening ≡ round.happening
same_happening None round got happening is = absurd cc
same_happening (Some other) round got happening is = let same : other ≡ round = cc in rw (sym same) cc
