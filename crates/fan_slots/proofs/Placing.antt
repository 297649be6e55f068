-- What slots hold when a value comes, changes or goes.
use Rattle.std.proofs.Common.{◌≡◌, ◌≢◌, ◌∙◌, ◌<◌, ℕ, Bool, true, false, cond, List, [], ◌∷◌, ◌++◌, Option, Some, None, is_some, length, slice_get, option_map, refl, ap, subst, sym, arith}
use Rattle.std.proofs.lemmas.List.Sums.{sum_by-set}
use Rattle.std.specs.BTreeMap.{insert_entry, is_at}
use Rattle.std.specs.Map.{keys_of, lookup, remove_entry, set_value}
use Rattle.std.specs.Ordering.{is_eq, match_ordering, nat_cmp}
use Rattle.std.specs.declared.cmp.Ordering.{Ordering}
use Rattle.std.specs.declared.cmp.Ordering.TheVariants.{Less, Equal, Greater}
use Rattle.slab.proofs.SlabLemmas.{ContainsKey-within}
use Rattle.slab.specs.Slab.{Slab, get, slab_len, with_value}
use Rattle.fan_slots.specs.Placed.{AreElsewhere, ArePlaced, held, in_slots}

-- a slot to which no number leads is not that of a number
other_slot : (other slot : ℕ) (test : ℕ → Bool) (places : List (ℕ × ℕ)) → AreElsewhere other places
    → lookup test places ≡ Some slot → other ≢ slot
other_slot other slot test [] elsewhere found = absurd cc
other_slot other slot test (place ∷ places) elsewhere found =
    by (test place.0) found (other_slot other slot test places elsewhere.1)
  where
    by : (here : Bool) → cond here (Some place.1) (lookup test places) ≡ Some slot
        → (lookup test places ≡ Some slot → other ≢ slot) → other ≢ slot
    by true is rest = λ same. let one : place.1 ≡ slot = cc in elsewhere.0 (one ∙ sym same)
    by false later rest = rest later

module _ {X : Type 0} where
  -- what is there has a value
  pub value_of : (found : Option X) → is_some found ≡ true → (value : X) × (found ≡ Some value)
  value_of None some = absurd cc
  value_of (Some value) some = (value, refl)

  -- what a slot holds, if a number leads to it
  abbrev pub value_in : Slab X → Option ℕ → Option X
  value_in slots None = None
  value_in slots (Some slot) = get slots slot

  -- the slot of a number holds a value
  pub held_at : (slots : Slab X) (test : ℕ → Bool) (slot : ℕ) (places : List (ℕ × ℕ)) → ArePlaced slots places
      → lookup test places ≡ Some slot → is_some (get slots slot) ≡ true
  held_at slots test slot [] are found = absurd cc
  held_at slots test slot (place ∷ places) are found =
      by (test place.0) found (held_at slots test slot places are.1.1)
    where
      by : (here : Bool) → cond here (Some place.1) (lookup test places) ≡ Some slot
          → (lookup test places ≡ Some slot → is_some (get slots slot) ≡ true) → is_some (get slots slot) ≡ true
      by true is rest = let same : place.1 ≡ slot = cc in subst (λ s. is_some (get slots s) ≡ true) same are.0
      by false later rest = rest later

  -- the numbers are those of the places
  pub keys_of-in_slots : (slots : Slab X) (places : List (ℕ × ℕ)) → ArePlaced slots places
      → keys_of (in_slots slots places) ≡ keys_of places
  keys_of-in_slots slots [] are = refl
  keys_of-in_slots slots (place ∷ places) are =
      let one = value_of (get slots place.1) are.0 in
      rw one.1 (ap (λ keys. place.0 ∷ keys) (keys_of-in_slots slots places are.1.1))

  -- and so is the first of them
  pub first-in_slots : (slots : Slab X) (places : List (ℕ × ℕ)) → ArePlaced slots places
      → option_map (λ entry. entry.0) (slice_get (in_slots slots places) 0)
      ≡ option_map (λ place. place.0) (slice_get places 0)
  first-in_slots slots [] are = refl
  first-in_slots slots (place ∷ places) are = let one = value_of (get slots place.1) are.0 in rw one.1 refl

  -- a number's value is what its slot holds
  pub lookup-in_slots : (slots : Slab X) (test : ℕ → Bool) (places : List (ℕ × ℕ)) → ArePlaced slots places
      → lookup test (in_slots slots places) ≡ value_in slots (lookup test places)
  lookup-in_slots slots test [] are = refl
  lookup-in_slots slots test (place ∷ places) are =
      let one = value_of (get slots place.1) are.0 in
      rw one.1 (by (test place.0) one.0 one.1 (lookup-in_slots slots test places are.1.1))
    where
      by : (here : Bool) (value : X) → get slots place.1 ≡ Some value
          → lookup test (in_slots slots places) ≡ value_in slots (lookup test places)
          → cond here (Some value) (lookup test (in_slots slots places))
          ≡ value_in slots (cond here (Some place.1) (lookup test places))
      by true value is rest = sym is
      by false value is rest = rest

  -- a number without a value leads to no slot
  pub no_place : (slots : Slab X) (test : ℕ → Bool) (places : List (ℕ × ℕ)) → ArePlaced slots places
      → lookup test (in_slots slots places) ≡ None → lookup test places ≡ None
  no_place slots test places are none = by (lookup test places) refl
    where
      by : (found : Option ℕ) → lookup test places ≡ found → found ≡ None
      by None is = refl
      by (Some slot) is =
          let some = held_at slots test slot places are is in
          let empty : get slots slot ≡ None =
          sym (lookup-in_slots slots test places are ∙ ap (value_in slots) is) ∙ none in absurd cc

  -- the same of a whole of slots, by what callers see of it
  pub no_place_of : (slots : Slab X) (test : ℕ → Bool) (places : List (ℕ × ℕ)) (entries : List (ℕ × X))
      → ArePlaced slots places → in_slots slots places ≡ entries → lookup test entries ≡ None
      → lookup test places ≡ None
  no_place_of slots test places entries are same none = no_place slots test places are (ap (lookup test) same ∙ none)

  -- no number leads to a vacant slot
  pub vacant_elsewhere : (slots : Slab X) (slot : ℕ) (places : List (ℕ × ℕ)) → ArePlaced slots places
      → get slots slot ≡ None → AreElsewhere slot places
  vacant_elsewhere slots slot [] are vacant = tt
  vacant_elsewhere slots slot (place ∷ places) are vacant = (
    λ same. let empty : get slots place.1 ≡ None = ap (get slots) same ∙ vacant in absurd cc,
    vacant_elsewhere slots slot places are.1.1 vacant,
  )

  module _ (old new : Slab X) (slot : ℕ)
      (others : (other : ℕ) → other ≢ slot → get new other ≡ get old other) where
    -- where no number leads to the slot, all stays
    pub kept : (places : List (ℕ × ℕ)) → AreElsewhere slot places → in_slots new places ≡ in_slots old places
    kept [] elsewhere = refl
    kept (place ∷ places) elsewhere = rw (others place.1 elsewhere.0, kept places elsewhere.1) refl

    pub kept_placed : (places : List (ℕ × ℕ)) → AreElsewhere slot places → ArePlaced old places
        → ArePlaced new places
    kept_placed [] elsewhere are = tt
    kept_placed (place ∷ places) elsewhere are =
        (rw (others place.1 elsewhere.0) are.0, (are.1.0, kept_placed places elsewhere.1 are.1.1))

  -- slots with the same values hold the same
  module _ (old new : Slab X) (same : (slot : ℕ) → get new slot ≡ get old slot) where
    pub same_in : (places : List (ℕ × ℕ)) → in_slots new places ≡ in_slots old places
    same_in [] = refl
    same_in (place ∷ places) = rw (same place.1, same_in places) refl

    pub same_placed : (places : List (ℕ × ℕ)) → ArePlaced old places → ArePlaced new places
    same_placed [] are = tt
    same_placed (place ∷ places) are = (rw (same place.1) are.0, (are.1.0, same_placed places are.1.1))

-- ---- a value comes

-- a number more that leads elsewhere
elsewhere_insert : (slot number other : ℕ) (places : List (ℕ × ℕ)) → other ≢ slot → AreElsewhere slot places
    → AreElsewhere slot (insert_entry nat_cmp places number other)
elsewhere_insert slot number other [] differs elsewhere = (differs, tt)
elsewhere_insert slot number other (place ∷ places) differs elsewhere =
    by (nat_cmp number place.0) (elsewhere_insert slot number other places differs elsewhere.1)
  where
    by : (order : Ordering) → AreElsewhere slot (insert_entry nat_cmp places number other)
        → AreElsewhere slot (match_ordering order ((number, other) ∷ place ∷ places)
        ((place.0, other) ∷ places) (place ∷ insert_entry nat_cmp places number other))
    by Less rest = (differs, elsewhere)
    by Equal rest = (differs, elsewhere.1)
    by Greater rest = (elsewhere.0, rest)

module _ {X : Type 0} (old new : Slab X) (slot number : ℕ) (value : X)
    (others : (other : ℕ) → other ≢ slot → get new other ≡ get old other) (here : get new slot ≡ Some value) where
  -- its entry comes at its place
  pub in_slots-insert : (places : List (ℕ × ℕ)) → AreElsewhere slot places → ArePlaced old places
      → lookup (is_at (nat_cmp number)) places ≡ None
      → in_slots new (insert_entry nat_cmp places number slot) ≡ insert_entry nat_cmp (in_slots old places) number value
  in_slots-insert [] elsewhere are absent = rw here refl
  in_slots-insert (place ∷ places) elsewhere are absent =
      let one = value_of (get old place.1) are.0 in
      rw one.1 (by (nat_cmp number place.0) absent (in_slots-insert places elsewhere.1 are.1.1) one.0 one.1)
    where
      by : (order : Ordering) → cond (is_eq order) (Some place.1) (lookup (is_at (nat_cmp number)) places) ≡ None
          → (lookup (is_at (nat_cmp number)) places ≡ None → in_slots new (insert_entry nat_cmp places number slot)
          ≡ insert_entry nat_cmp (in_slots old places) number value) → (first : X) → get old place.1 ≡ Some first
          → in_slots new (match_ordering order ((number, slot) ∷ place ∷ places) ((place.0, slot) ∷ places)
          (place ∷ insert_entry nat_cmp places number slot))
          ≡ match_ordering order ((number, value) ∷ (place.0, first) ∷ in_slots old places)
          ((place.0, value) ∷ in_slots old places)
          ((place.0, first) ∷ insert_entry nat_cmp (in_slots old places) number value)
      by Less none rest first is =
          rw (here, others place.1 elsewhere.0, is, kept old new slot others places elsewhere.1) refl
      by Equal none rest first is = absurd cc
      by Greater none rest first is = rw (others place.1 elsewhere.0, is, rest none) refl

  pub placed-insert : (places : List (ℕ × ℕ)) → AreElsewhere slot places → ArePlaced old places
      → lookup (is_at (nat_cmp number)) places ≡ None → ArePlaced new (insert_entry nat_cmp places number slot)
  placed-insert [] elsewhere are absent = (rw here refl, (tt, tt))
  placed-insert (place ∷ places) elsewhere are absent =
      by (nat_cmp number place.0) absent (placed-insert places elsewhere.1 are.1.1)
    where
      by : (order : Ordering) → cond (is_eq order) (Some place.1) (lookup (is_at (nat_cmp number)) places) ≡ None
          → (lookup (is_at (nat_cmp number)) places ≡ None → ArePlaced new (insert_entry nat_cmp places number slot))
          → ArePlaced new (match_ordering order ((number, slot) ∷ place ∷ places) ((place.0, slot) ∷ places)
          (place ∷ insert_entry nat_cmp places number slot))
      by Less none rest = (rw here refl, (elsewhere, kept_placed old new slot others (place ∷ places) elsewhere are))
      by Equal none rest = absurd cc
      by Greater none rest = (
        rw (others place.1 elsewhere.0) are.0,
        (
          elsewhere_insert place.1 number slot places (λ same. elsewhere.0 (sym same)) are.1.0,
          rest none,
        ),
      )

-- ---- a value changes, or goes

-- where a number goes, the others lead where they did
elsewhere_remove : (slot : ℕ) (test : ℕ → Bool) (places : List (ℕ × ℕ)) → AreElsewhere slot places
    → AreElsewhere slot (remove_entry test places)
elsewhere_remove slot test [] elsewhere = tt
elsewhere_remove slot test (place ∷ places) elsewhere =
    by (test place.0) (elsewhere_remove slot test places elsewhere.1)
  where
    by : (is : Bool) → AreElsewhere slot (remove_entry test places)
        → AreElsewhere slot (cond is places (place ∷ remove_entry test places))
    by true rest = elsewhere.1
    by false rest = (elsewhere.0, rest)

module _ {X : Type 0} (old new : Slab X) (slot : ℕ) (test : ℕ → Bool)
    (others : (other : ℕ) → other ≢ slot → get new other ≡ get old other) where
  -- the entry of the number that leads to the slot gets the slot's value
  pub in_slots-set : (value : X) → get new slot ≡ Some value → (places : List (ℕ × ℕ)) → ArePlaced old places
      → lookup test places ≡ Some slot → in_slots new places ≡ set_value test (in_slots old places) value
  in_slots-set value here [] are found = absurd cc
  in_slots-set value here (place ∷ places) are found =
      let one = value_of (get old place.1) are.0 in
      rw one.1 (by (test place.0) found (in_slots-set value here places are.1.1) one.0 one.1)
    where
      by : (is : Bool) → cond is (Some place.1) (lookup test places) ≡ Some slot
          → (lookup test places ≡ Some slot → in_slots new places ≡ set_value test (in_slots old places) value)
          → (first : X) → get old place.1 ≡ Some first
          → held place.0 (get new place.1) ++ in_slots new places
          ≡ cond is ((place.0, value) ∷ in_slots old places) ((place.0, first) ∷ set_value test (in_slots old places) value)
      by true is rest first had =
          let same : place.1 ≡ slot = cc in
          rw (ap (get new) same, here, kept old new slot others places (subst (λ s. AreElsewhere s places) same are.1.0)) refl
      by false later rest first had =
          rw (others place.1 (other_slot place.1 slot test places are.1.0 later), had, rest later) refl

  pub placed-set : (value : X) → get new slot ≡ Some value → (places : List (ℕ × ℕ)) → ArePlaced old places
      → lookup test places ≡ Some slot → ArePlaced new places
  placed-set value here [] are found = tt
  placed-set value here (place ∷ places) are found =
      by (test place.0) found (placed-set value here places are.1.1)
    where
      by : (is : Bool) → cond is (Some place.1) (lookup test places) ≡ Some slot
          → (lookup test places ≡ Some slot → ArePlaced new places) → ArePlaced new (place ∷ places)
      by true is rest =
          let same : place.1 ≡ slot = cc in (
            rw (ap (get new) same, here) refl,
            (are.1.0, kept_placed old new slot others places (subst (λ s. AreElsewhere s places) same are.1.0) are.1.1),
          )
      by false later rest = (
        rw (others place.1 (other_slot place.1 slot test places are.1.0 later)) are.0,
        (are.1.0, rest later),
      )

  -- the entry of the number that leads to the slot goes
  pub in_slots-remove : (places : List (ℕ × ℕ)) → ArePlaced old places → lookup test places ≡ Some slot
      → in_slots new (remove_entry test places) ≡ remove_entry test (in_slots old places)
  in_slots-remove [] are found = absurd cc
  in_slots-remove (place ∷ places) are found =
      let one = value_of (get old place.1) are.0 in
      rw one.1 (by (test place.0) found (in_slots-remove places are.1.1) one.0 one.1)
    where
      by : (is : Bool) → cond is (Some place.1) (lookup test places) ≡ Some slot
          → (lookup test places ≡ Some slot
          → in_slots new (remove_entry test places) ≡ remove_entry test (in_slots old places))
          → (first : X) → get old place.1 ≡ Some first
          → in_slots new (cond is places (place ∷ remove_entry test places))
          ≡ cond is (in_slots old places) ((place.0, first) ∷ remove_entry test (in_slots old places))
      by true is rest first had =
          let same : place.1 ≡ slot = cc in
          kept old new slot others places (subst (λ s. AreElsewhere s places) same are.1.0)
      by false later rest first had =
          rw (others place.1 (other_slot place.1 slot test places are.1.0 later), had, rest later) refl

  pub placed-remove : (places : List (ℕ × ℕ)) → ArePlaced old places → lookup test places ≡ Some slot
      → ArePlaced new (remove_entry test places)
  placed-remove [] are found = tt
  placed-remove (place ∷ places) are found =
      by (test place.0) found (placed-remove places are.1.1)
    where
      by : (is : Bool) → cond is (Some place.1) (lookup test places) ≡ Some slot
          → (lookup test places ≡ Some slot → ArePlaced new (remove_entry test places))
          → ArePlaced new (cond is places (place ∷ remove_entry test places))
      by true is rest =
          let same : place.1 ≡ slot = cc in
          kept_placed old new slot others places (subst (λ s. AreElsewhere s places) same are.1.0) are.1.1
      by false later rest = (
        rw (others place.1 (other_slot place.1 slot test places are.1.0 later)) are.0,
        (elsewhere_remove place.1 test places are.1.0, rest later),
      )

-- ---- what a look-up tells

-- a number without a slot has no value
pub none_in : {X : Type 0} (slots : Slab X) (test : ℕ → Bool) (places : List (ℕ × ℕ)) → ArePlaced slots places
    → lookup test places ≡ None → lookup test (in_slots slots places) ≡ None
none_in slots test places are none = lookup-in_slots slots test places are ∙ ap (value_in slots) none

-- and one with a slot has what this holds
pub some_in : {X : Type 0} (slots : Slab X) (test : ℕ → Bool) (slot : ℕ) (places : List (ℕ × ℕ))
    → ArePlaced slots places → lookup test places ≡ Some slot
    → lookup test (in_slots slots places) ≡ get slots slot
some_in slots test slot places are found = lookup-in_slots slots test places are ∙ ap (value_in slots) found

-- another value in a slot that has one leaves as many
pub slab_len-with_value : {X : Type 0} (slots : Slab X) (slot : ℕ) (value : X) → is_some (get slots slot) ≡ true
    → slab_len (with_value slots slot value) ≡ slab_len slots
slab_len-with_value slots slot value some =
    let within : slot < length slots.slots = ContainsKey-within slots slot (rw some refl) in
    let count = sum_by-set (λ found. cond (is_some found) 1 0) slots.slots slot (Some value) None within in
    let one : cond {A = ℕ} (is_some (get slots slot)) 1 0 ≡ 1 = ap (λ (b : Bool). cond b 1 0) some in
    omega (arith, count, one)

-- where a number that has no entry would go, all stays
pub remove_absent : {X : Type 0} (test : ℕ → Bool) (entries : List (ℕ × X)) → lookup test entries ≡ None
    → remove_entry test entries ≡ entries
remove_absent test [] none = refl
remove_absent test (entry ∷ entries) none = by (test entry.0) none (remove_absent test entries)
  where
    by : (is : Bool) → cond is (Some entry.1) (lookup test entries) ≡ None
        → (lookup test entries ≡ None → remove_entry test entries ≡ entries)
        → cond is entries (entry ∷ remove_entry test entries) ≡ entry ∷ entries
    by true found rest = absurd cc
    by false later rest = ap (λ more. entry ∷ more) (rest later)
