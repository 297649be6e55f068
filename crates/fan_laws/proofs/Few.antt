-- How many groups an access asks or tells: no more than are open.
use Rattle.std.proofs.Common.{◌≡◌, ℕ, zero, suc, ◌+◌, ◌*◌, ◌≤◌, true, false, cond, eqb, List, [], ◌∷◌, Some, length, map, refl, sym, ap, subst, arith, get_or, inl, inr}
use Rattle.std.proofs.lemmas.Bool.{cond_both, eq-eqb, eqb-true, ne_eqb, or_cases, or_left, or_right}
use Rattle.std.proofs.Math.Nat.{min-le_right}
use Rattle.std.proofs.lemmas.Cmp.{nat_eq_equiv}
use Rattle.std.proofs.lemmas.List.{length-append, length-map}
use Rattle.std.proofs.lemmas.Map.Made.{length-le_from_is_member}
use Rattle.std.proofs.lemmas.List.Elements.{All-contains, All-head, All-map, All-tail, All-weaker, recursion_from_All}
use Rattle.std.proofs.lemmas.Slice.Zip.{length-zip}
use Rattle.std.specs.List.{IsDistinct, list_any, zip}
use Rattle.std.specs.Prelude.{All, count_by, slice_get}
use Rattle.fan_access.specs.declared.op.Op.{Op}
use Rattle.fan_access.specs.declared.op.Op.TheVariants as ops
use Rattle.fan_access.specs.declared.report.Report.TheVariants.{Itself}
use Rattle.fan_access.specs.declared.spot.Spot.{Spot}
use Rattle.fan_access.specs.Operations.{asked_events, is_dir_entry, told_events}
use Rattle.fan_access.specs.Rounds.{Round, Turn, asked_rounds, round_at, told_rounds, turns, turns_of}
use Rattle.fan_bits.specs.declared.mark.Mark.{Mark}
use Rattle.fan_bits.specs.declared.place.Happening.{Happening}
use Rattle.fan_bits.specs.declared.place.Interest.{Interest}
use Rattle.fan_bits.specs.Interest.{interest_order, interests}
use Rattle.fan_bits.proofs.Interests.{IsWish, rises-interests, wishes-interests}
use Rattle.fan_bits.proofs.Rising.{RisesBy}
use Rattle.fan_lists.proofs.Counts.{count_by-cons}
use Rattle.fan_listener.specs.Groups.{is_open, listener_at}
use Rattle.fan_listener.specs.ListenerState.{ListenerState}
use Rattle.fan_machine.specs.Groups.{max_open_groups}
use Rattle.fan_laws.specs.Whole.{IsOpenOf}
use Rattle.fan_laws.proofs.Marked.{AreOpenOf, of_class}
use Rattle.fan_laws.proofs.Moves.{opened_is}

-- the numbers of the open groups, the first of which has this number
open_from : ℕ → List ListenerState → List ℕ
open_from first [] = []
open_from first (listener ∷ more) =
    cond (is_open listener) (first ∷ open_from (first + 1) more) (open_from (first + 1) more)

length_open : (first : ℕ) (groups : List ListenerState) → length (open_from first groups)
    ≡ count_by is_open groups
unfolding open_from
length_open first [] = refl
length_open first (listener ∷ more) =
    let rest = length_open (first + 1) more in
    (elim (is_open listener) as (λ b. is_open listener ≡ b
    → length (cond b (first ∷ open_from (first + 1) more) (open_from (first + 1) more))
    ≡ count_by is_open (listener ∷ more)) [
      | true ↦ λ is. let one : cond {A = ℕ} (is_open listener) 1 0 ≡ 1 = ap (λ b. cond {A = ℕ} b 1 0) is in
          omega (arith, rest, one, count_by-cons is_open listener more)
      | false ↦ λ is. let none : cond {A = ℕ} (is_open listener) 1 0 ≡ 0 = ap (λ b. cond {A = ℕ} b 1 0) is in
          omega (arith, rest, none, count_by-cons is_open listener more)
    ]) refl

-- a group that is open is among them
among_open : (groups : List ListenerState) (first index : ℕ) (listener : ListenerState)
    → slice_get groups index ≡ Some listener → is_open listener ≡ true
    → list_any (eqb (index + first)) (open_from first groups) ≡ true
unfolding open_from
among_open [] first index listener is opened = absurd cc
among_open (other ∷ more) first zero listener is opened =
    let same : other ≡ listener = cc in
    rw (same, opened) (or_left (eqb (0 + first) first) _ (eq-eqb (0 + first) first (omega arith)))
among_open (other ∷ more) first (suc index) listener is opened =
    let next : suc index + first ≡ index + (first + 1) = omega arith in
    let rest = among_open more (first + 1) index listener is opened in
    rw next
    (cond_both (is_open other) (first ∷ open_from (first + 1) more) (open_from (first + 1) more)
    (λ numbers. list_any (eqb (index + (first + 1))) numbers ≡ true)
    (λ was. or_right (eqb (index + (first + 1)) first) _ rest) (λ not. rest))

group_among : (groups : List ListenerState) (group : ℕ) (listener : ListenerState)
    → listener_at groups group ≡ Some listener → is_open listener ≡ true
    → list_any (eqb group) (open_from 1 groups) ≡ true
group_among groups zero listener is opened = absurd cc
group_among groups (suc index) listener is opened =
    let here : suc index ≡ index + 1 = omega arith in
    rw here (among_open groups 1 index listener is opened)

length-turns : (round : Round) (wanting : List Interest) → length (turns_of round wanting) ≡ length wanting
length-turns round wanting =
    length-map wanting (λ (interest : Interest). turn_of round interest)
  where
    turn_of : Round → Interest → Turn
    turn_of round interest = record { happening = round.happening; name = round.name; interest = interest }

-- an operation asks a round for each event that it asks about at most, and so it tells
length-asked : (op : Op) (spots : List Spot) → length (asked_rounds op spots) ≤ length (asked_events op)
length-asked op [] = omega arith
length-asked op (spot ∷ more) =
    let same = length-map (asked_events op) (λ bits. round_at false spot (Itself bits)) in omega (arith, same)

length-told : (op : Op) (spots : List Spot) → length (told_rounds op spots) ≤ length (told_events op)
length-told op spots =
    let told = zip spots (told_events op) in
    let same = length-map told (λ pair. round_at (is_dir_entry op spots) pair.0 pair.1) in
    let least = length-zip spots (told_events op) in
    let upto = min-le_right (length spots) (length (told_events op)) in
    omega (arith, same, least, upto)

-- an operation asks about two events at most, and asks about and tells of three at most
few_events : (op : Op)
    → (length (asked_events op) ≤ 2) × (length (asked_events op) + length (told_events op) ≤ 3)
few_events ops.Opens = (omega arith, omega arith)
few_events op = (omega arith, omega arith)

module _ (groups : List ListenerState) where
  -- an interest is of an open group, by its class
  abbrev IsOf : Interest → Type 0
  IsOf interest = IsOpenOf groups interest.group interest.class

  wish_open : (marks : List Mark) (happening : Happening) (interest : Interest) → AreOpenOf groups marks
      → IsWish marks happening interest → IsOf interest
  wish_open marks happening interest each wish =
      let its = All-contains (λ mark. IsOpenOf groups mark.group mark.class) marks wish.mark each wish.among
      in
      rw (wish.whole) its

  -- interests of open groups in order are of different groups
  distinct : (some : List Interest) → RisesBy interest_order some → All IsOf some
      → IsDistinct eqb (map (λ interest. interest.group) some)
  unfolding IsDistinct
  distinct [] rises each = tt
  distinct (interest ∷ more) rises each =
      let Differs : ℕ → Type 0 = λ group. eqb interest.group group ≡ false in
      let first = All-head IsOf interest more each in
      let rest = All-tail IsOf interest more each in (
        recursion_from_All Differs (map (λ interest. interest.group) more)
            (All-map Differs (λ (interest : Interest). interest.group) more (λ k d within.
            let other = get_or more k d in
            ne_eqb interest.group other.group (λ same.
            let class = of_class groups other.group interest.class other.class
            (subst (λ g. IsOpenOf groups g interest.class) same first) (rest k d within) in
            let order : interest_order interest ≡ interest_order other = rw (class, same) refl in
            let above = rises.0 k d within in absurd (omega (arith, order, above))))),
        distinct more rises.1 rest,
      )

  member_open : (numbers : List ℕ) (number : ℕ) → All (λ n. list_any (eqb n) (open_from 1 groups)
      ≡ true) numbers
      → list_any (eqb number) numbers ≡ true → list_any (eqb number) (open_from 1 groups) ≡ true
  member_open [] number each is = absurd cc
  member_open (n ∷ more) number each is =
      let P : ℕ → Type 0 = λ n. list_any (eqb n) (open_from 1 groups) ≡ true in
      elim (or_cases (eqb number n) (list_any (eqb number) more) is) [
        | inl here ↦ subst P (sym (eqb-true number n here)) (All-head P n more each)
        | inr later ↦ member_open more number (All-tail P n more each) later
      ]

  -- so there are no more of them than open groups
  few_interests : (some : List Interest) → RisesBy interest_order some → All IsOf some
      → length some ≤ count_by is_open groups
  few_interests some rises each =
      let numbers = map (λ (interest : Interest). interest.group) some in
      let upto : length numbers ≤ length (open_from 1 groups) =
      length-le_from_is_member nat_eq_equiv numbers (open_from 1 groups) (distinct some rises each)
      (λ number is. member_open numbers number
      (All-map (λ n. list_any (eqb n) (open_from 1 groups)
      ≡ true) (λ (interest : Interest). interest.group) some
      (All-weaker IsOf (λ interest. list_any (eqb interest.group) (open_from 1 groups) ≡ true)
      (λ interest its. let was = opened_is groups interest.group its.listener its.found in
      group_among groups interest.group its.listener was.there was.opened) some each)) is) in
      omega (arith, upto, length-map some (λ (interest : Interest). interest.group), length_open 1 groups)

  module _ (marks : List Mark) (each : AreOpenOf groups marks) where
    few_of : (happening : Happening) → length (interests marks happening) ≤ count_by is_open groups
    few_of happening =
        few_interests (interests marks happening) (rises-interests marks happening)
        (All-weaker (IsWish marks happening) IsOf
        (λ interest wish. wish_open marks happening interest each wish)
        (interests marks happening) (wishes-interests marks happening))

    few_turns : (rounds : List Round) → count_by is_open groups ≤ max_open_groups
        → length (turns marks rounds) ≤ max_open_groups * length rounds
    few_turns [] few = omega arith
    few_turns (round ∷ more) few =
        let wanting = interests marks round.happening in
        let first = few_of round.happening in
        let rest = few_turns more few in
        rw (length-append (turns_of round wanting) (turns marks more), length-turns round wanting)
        (omega (arith, few, first, rest))

    -- an operation asks two rounds of groups at most, and asks and tells three at most
    pub few_rounds : (op : Op) (spots : List Spot) → count_by is_open groups ≤ max_open_groups →
        let asked = length (turns marks (asked_rounds op spots)) in
        let told = length (turns marks (told_rounds op spots)) in
        (asked ≤ 2 * max_open_groups) × (asked + told ≤ 3 * max_open_groups)
    few_rounds op spots few =
        let events = few_events op in
        let asks = length-asked op spots in
        let tells = length-told op spots in
        let asked = few_turns (asked_rounds op spots) few in
        let told = few_turns (told_rounds op spots) few in
        (omega (arith, events.0, asks, asked), omega (arith, events.1, asks, tells, asked, told))
