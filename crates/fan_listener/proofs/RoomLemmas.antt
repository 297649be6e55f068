-- Which verdicts stand in rooms, once a room came, got its verdict or went.
use Rattle.std.proofs.Common.{◌≡◌, ◌∙◌, ℕ, ◌≤◌, Bool, true, false, cond, List, [], ◌∷◌, ◌++◌, Option, Some, None, refl, ap, sym, arith}
use Rattle.std.proofs.lemmas.Bool.Decides.{nat_tests}
use Rattle.std.proofs.lemmas.Cmp.{nat_cmp_total}
use Rattle.std.proofs.lemmas.Map.Keys.{sorted_head, sorted_tail}
use Rattle.std.specs.BTreeMap.{insert_entry, is_at}
use Rattle.std.specs.List.{AllByRecursion}
use Rattle.std.specs.List.Sorted.{IsStrictlySortedBy}
use Rattle.std.specs.Map.{keys_of, lookup, remove_entry, set_value}
use Rattle.std.specs.Option.{option_flatten}
use Rattle.std.specs.Ordering.{nat_cmp}
use Rattle.std.specs.declared.cmp.Ordering.{Ordering}
use Rattle.std.specs.declared.cmp.Ordering.TheVariants.{Less, Equal, Greater}
use Rattle.fan_map.proofs.Insertions.{lookup_after_remove}
use Rattle.fan_listener.specs.Responses.{verdict_on, with_verdict, without_verdict}
use Rattle.fan_listener.specs.Stored.{answers_in, given_in, rooms_of}
use Rattle.fan_listener.specs.declared.answers.Verdict.{Verdict}

-- ---- keys in order

-- the keys behind one are greater
abbrev AreAbove : {X : Type 0} → ℕ → List (ℕ × X) → Type 0
AreAbove floor entries = AllByRecursion (λ key. nat_cmp floor key ≡ Less) (keys_of entries)

-- none of them is one up to it
absent_above : {X : Type 0} (key floor : ℕ) (entries : List (ℕ × X)) → key ≤ floor → AreAbove floor entries
    → lookup (is_at (nat_cmp key)) entries ≡ None
absent_above key floor [] below above = refl
absent_above key floor (entry ∷ entries) below above =
    grind (arith, nat_tests, below, above.0, absent_above key floor entries below above.1)

-- what a look-up finds in keys that are greater has a greater key
found_above : {X : Type 0} (key floor : ℕ) (entries : List (ℕ × X)) (x : X) → AreAbove floor entries
    → lookup (is_at (nat_cmp key)) entries ≡ Some x → nat_cmp key floor ≡ Greater
found_above key floor [] x above found = absurd cc
found_above key floor (entry ∷ entries) x above found =
    grind (arith, nat_tests, found, above.0, found_above key floor entries x above.1)

-- where no key passes, none goes
pub remove_absent : {X : Type 0} (key : ℕ) (entries : List (ℕ × X))
    → lookup (is_at (nat_cmp key)) entries ≡ None → remove_entry (is_at (nat_cmp key)) entries ≡ entries
remove_absent key [] absent = refl
remove_absent key (entry ∷ entries) absent = by (nat_cmp key entry.0) refl (remove_absent key entries)
  where
    by : (o : Ordering) → nat_cmp key entry.0 ≡ o
        → (lookup (is_at (nat_cmp key)) entries ≡ None → remove_entry (is_at (nat_cmp key)) entries ≡ entries)
        → remove_entry (is_at (nat_cmp key)) (entry ∷ entries) ≡ entry ∷ entries
    by Less is later = grind (arith, is, absent, later)
    by Equal is later = grind (arith, is, absent)
    by Greater is later = grind (arith, is, absent, later)

-- keys stay above a floor where an entry goes
above-remove : {X : Type 0} (key floor : ℕ) (entries : List (ℕ × X)) → AreAbove floor entries
    → AreAbove floor (remove_entry (is_at (nat_cmp key)) entries)
above-remove key floor [] above = above
above-remove key floor (entry ∷ entries) above =
    elim (is_at (nat_cmp key) entry.0) as (λ b. AreAbove floor
    (cond b entries (entry ∷ remove_entry (is_at (nat_cmp key)) entries))) [
      | true ↦ above.1
      | false ↦ (above.0, above-remove key floor entries above.1)
    ]

-- and they stay in order
pub sorted-remove : {X : Type 0} (key : ℕ) (entries : List (ℕ × X))
    → IsStrictlySortedBy nat_cmp (keys_of entries)
    → IsStrictlySortedBy nat_cmp (keys_of (remove_entry (is_at (nat_cmp key)) entries))
unfolding IsStrictlySortedBy
sorted-remove key [] sorted = sorted
sorted-remove key (entry ∷ entries) sorted =
    elim (is_at (nat_cmp key) entry.0) as (λ b. IsStrictlySortedBy nat_cmp (keys_of
    (cond b entries (entry ∷ remove_entry (is_at (nat_cmp key)) entries)))) [
      | true ↦ sorted.1
      | false ↦ (above-remove key entry.0 entries sorted.0, sorted-remove key entries sorted.1)
    ]

-- ---- a room comes

-- a room without a verdict adds none
pub answers_in-insert : (key : ℕ) (rooms : List (ℕ × Option Verdict)) → rooms_of rooms key ≡ None
    → answers_in (insert_entry nat_cmp rooms key None) ≡ answers_in rooms
answers_in-insert key [] new = refl
answers_in-insert key (room ∷ rooms) new = by (nat_cmp key room.0) refl (answers_in-insert key rooms)
  where
    by : (o : Ordering) → nat_cmp key room.0 ≡ o
        → (rooms_of rooms key ≡ None → answers_in (insert_entry nat_cmp rooms key None) ≡ answers_in rooms)
        → answers_in (insert_entry nat_cmp (room ∷ rooms) key None) ≡ answers_in (room ∷ rooms)
    by Less is later = rw is refl
    by Equal is later = grind (arith, is, new)
    by Greater is later =
        let rest : rooms_of rooms key ≡ None = grind (arith, is, new) in
        rw is (ap (λ given. given_in room.0 room.1 ++ given) (later rest))

-- ---- a verdict

-- the verdict on an entry is what stands in its room
pub verdict_on-answers_in : (key : ℕ) (rooms : List (ℕ × Option Verdict))
    → IsStrictlySortedBy nat_cmp (keys_of rooms)
    → verdict_on key (answers_in rooms) ≡ option_flatten (rooms_of rooms key)
verdict_on-answers_in key [] sorted = refl
verdict_on-answers_in key ((at, given) ∷ rooms) sorted =
    by given (nat_cmp key at) refl
    (verdict_on-answers_in key rooms (sorted_tail nat_cmp at (keys_of rooms) sorted))
  where
    by : (given : Option Verdict) (o : Ordering) → nat_cmp key at ≡ o
        → verdict_on key (answers_in rooms) ≡ option_flatten (rooms_of rooms key)
        → verdict_on key (answers_in ((at, given) ∷ rooms))
        ≡ option_flatten (rooms_of ((at, given) ∷ rooms) key)
    by None Equal is later =
        let below : key ≤ at = grind (arith, nat_tests, is) in
        let none = absent_above key at rooms below (sorted_head nat_cmp at (keys_of rooms) sorted) in
        rw is (later ∙ ap option_flatten none)
    by None Less is later = rw is later
    by None Greater is later = rw is later
    by (Some verdict) Equal is later = rw is refl
    by (Some verdict) Less is later = rw is later
    by (Some verdict) Greater is later = rw is later

-- the verdicts of rooms behind one stand behind its own
insert_first : (key : ℕ) (verdict : Verdict) (rooms : List (ℕ × Option Verdict)) → AreAbove key rooms
    → with_verdict key verdict (answers_in rooms) ≡ (key, verdict) ∷ answers_in rooms
insert_first key verdict [] above = refl
insert_first key verdict ((at, None) ∷ rooms) above = insert_first key verdict rooms above.1
insert_first key verdict ((at, Some given) ∷ rooms) above = rw above.0 refl

-- a verdict that comes into its room comes to its place
pub answers_in-set : (key : ℕ) (verdict : Verdict) (rooms : List (ℕ × Option Verdict))
    → IsStrictlySortedBy nat_cmp (keys_of rooms) → rooms_of rooms key ≡ Some None
    → answers_in (set_value (is_at (nat_cmp key)) rooms (Some verdict))
    ≡ with_verdict key verdict (answers_in rooms)
answers_in-set key verdict [] sorted found = absurd cc
answers_in-set key verdict ((at, given) ∷ rooms) sorted found =
    by given (nat_cmp key at) refl found
    (answers_in-set key verdict rooms (sorted_tail nat_cmp at (keys_of rooms) sorted))
  where
    behind : AreAbove at rooms
    behind = sorted_head nat_cmp at (keys_of rooms) sorted

    by : (given : Option Verdict) (o : Ordering) → nat_cmp key at ≡ o
        → rooms_of ((at, given) ∷ rooms) key ≡ Some None
        → (rooms_of rooms key ≡ Some None → answers_in (set_value (is_at (nat_cmp key)) rooms (Some verdict))
        ≡ with_verdict key verdict (answers_in rooms))
        → answers_in (set_value (is_at (nat_cmp key)) ((at, given) ∷ rooms) (Some verdict))
        ≡ with_verdict key verdict (answers_in ((at, given) ∷ rooms))
    by None Equal is found later =
        let same : key ≡ at = grind (arith, nat_tests, is) in
        rw is (rw same (sym (insert_first at verdict rooms behind)))
    by (Some other) Equal is found later = grind (arith, is, found)
    by given Less is found later =
        let rest : rooms_of rooms key ≡ Some None = grind (arith, is, found) in
        let greater = found_above key at rooms None behind rest in
        absurd cc
    by None Greater is found later =
        let rest : rooms_of rooms key ≡ Some None = grind (arith, is, found) in rw is (later rest)
    by (Some other) Greater is found later =
        let rest : rooms_of rooms key ≡ Some None = grind (arith, is, found) in
        rw is (ap (λ answers. (at, other) ∷ answers) (later rest))

-- a room that goes takes its verdict along
pub answers_in-remove : (key : ℕ) (rooms : List (ℕ × Option Verdict))
    → IsStrictlySortedBy nat_cmp (keys_of rooms)
    → answers_in (remove_entry (is_at (nat_cmp key)) rooms) ≡ without_verdict key (answers_in rooms)
answers_in-remove key [] sorted = refl
answers_in-remove key ((at, given) ∷ rooms) sorted =
    by given (nat_cmp key at) refl (answers_in-remove key rooms tail)
  where
    tail : IsStrictlySortedBy nat_cmp (keys_of rooms)
    tail = sorted_tail nat_cmp at (keys_of rooms) sorted

    by : (given : Option Verdict) (o : Ordering) → nat_cmp key at ≡ o
        → answers_in (remove_entry (is_at (nat_cmp key)) rooms) ≡ without_verdict key (answers_in rooms)
        → answers_in (remove_entry (is_at (nat_cmp key)) ((at, given) ∷ rooms))
        ≡ without_verdict key (answers_in ((at, given) ∷ rooms))
    by None Equal is later =
        let below : key ≤ at = grind (arith, nat_tests, is) in
        let none = absent_above key at rooms below (sorted_head nat_cmp at (keys_of rooms) sorted) in
        rw is (sym (remove_absent key (answers_in rooms)
        (verdict_on-answers_in key rooms tail ∙ ap option_flatten none)))
    by None Less is later = rw is later
    by None Greater is later = rw is later
    by (Some verdict) Equal is later = rw is refl
    by (Some verdict) Less is later = rw is (ap (λ answers. (at, verdict) ∷ answers) later)
    by (Some verdict) Greater is later = rw is (ap (λ answers. (at, verdict) ∷ answers) later)

-- where none stands, none goes
pub without_none : (key : ℕ) (rooms : List (ℕ × Option Verdict)) → IsStrictlySortedBy nat_cmp (keys_of rooms)
    → option_flatten (rooms_of rooms key) ≡ None → without_verdict key (answers_in rooms) ≡ answers_in rooms
without_none key rooms sorted none =
    remove_absent key (answers_in rooms) (verdict_on-answers_in key rooms sorted ∙ none)

-- where there was no room, there is none after another went
pub unused-remove : (key entry : ℕ) (rooms : List (ℕ × Option Verdict))
    → IsStrictlySortedBy nat_cmp (keys_of rooms) → rooms_of rooms entry ≡ None
    → rooms_of (remove_entry (is_at (nat_cmp key)) rooms) entry ≡ None
unused-remove key entry rooms sorted none =
    lookup_after_remove nat_cmp nat_cmp_total key entry rooms sorted
    ∙ ap (λ room. cond (is_at (nat_cmp entry) key) None room) none ∙ none_either (is_at (nat_cmp entry) key)
  where
    none_either : (b : Bool) → cond {A = Option (Option Verdict)} b None None ≡ None
    none_either true = refl
    none_either false = refl
