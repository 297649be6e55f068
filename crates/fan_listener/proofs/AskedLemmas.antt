-- What stands under descriptors when one event comes or goes.
use Rattle.std.proofs.Common.{◌≡◌, ◌∙◌, ℕ, ◌<◌, ◌==◌, Bool, true, false, cond, List, [], ◌∷◌, ◌++◌, Option, Some, None, option_map, slice_get, drop, refl, ap, subst, sym, arith}
use Rattle.std.proofs.lemmas.Bool.Decides.{nat_tests}
use Rattle.std.proofs.lemmas.List.Elements.{All-append, All-cons, All-head, All-nil, All-tail}
use Rattle.std.specs.Box.{box_value}
use Rattle.std.specs.BTreeMap.{insert_entry, is_at}
use Rattle.std.specs.Global.{Box}
use Rattle.std.specs.Map.{keys_of, lookup, remove_entry, values_of}
use Rattle.std.specs.Ordering.{nat_cmp}
use Rattle.std.specs.Prelude.{All, find}
use Rattle.fan_lists.specs.First.{without_first}
use Rattle.fan_map.proofs.Keys.{insert_number_end, new_number_end}
use Rattle.fan_map.proofs.Values.{lookup-keyed, values-remove_entry}
use Rattle.fan_listener.specs.declared.answers.Pending.{Pending}
use Rattle.fan_slots.specs.SlotsState.{SlotsState}
use Rattle.fan_listener.specs.Asked.{AreUnderOwn, AskedState, entries_in, fd_of, spare_in}
use Rattle.fan_listener.specs.Responses.{is_under}

-- an entry stands under the descriptor of its event
abbrev IsUnderOwn : ℕ × Pending → Type 0
IsUnderOwn entry = entry.0 ≡ fd_of entry.1

-- the entry at a descriptor is that of the event under it
at_fd : (fd : ℕ) → ◌≡◌ {A = Pending → Bool} (λ pending. is_at (nat_cmp fd) (fd_of pending)) (is_under fd)
at_fd fd = λ i pending. same pending.fd i
  where
    same : (other : ℕ) → is_at (nat_cmp fd) other ≡ (other == fd)
    same other = grind (arith, nat_tests)

-- ---- the slots that came

-- what stands in them is what stands
module _ (by_fd : Option (Box (SlotsState Pending))) (slots : Box (SlotsState Pending)) (now : SlotsState Pending)
    (is : by_fd ≡ Some slots) (same : now ≡ box_value slots) where
  stood : entries_in by_fd ≡ now.entries
  stood = ap entries_in is ∙ ap (λ (state : SlotsState Pending). state.entries) (sym same)

  pub own_in : AreUnderOwn (entries_in by_fd) → AreUnderOwn now.entries
  own_in own = subst AreUnderOwn stood own

  pub events_in : (seen : AskedState) → record { events = values_of (entries_in by_fd); spare = spare_in by_fd } ≡ seen
      → values_of now.entries ≡ seen.events
  events_in seen view_is =
      ap values_of (sym stood) ∙ ap (λ (state : AskedState). state.events) view_is

-- ---- one is looked for, or goes

pub find_under : (fd : ℕ) (entries : List (ℕ × Pending)) → AreUnderOwn entries
    → lookup (is_at (nat_cmp fd)) entries ≡ find (is_under fd) (values_of entries)
find_under fd entries own =
    lookup-keyed fd_of (is_at (nat_cmp fd)) entries own
    ∙ ap (λ (test : Pending → Bool). find test (values_of entries)) (at_fd fd)

pub rest_under : (fd : ℕ) (entries : List (ℕ × Pending)) → AreUnderOwn entries
    → values_of (remove_entry (is_at (nat_cmp fd)) entries) ≡ without_first (is_under fd) (values_of entries)
rest_under fd entries own =
    values-remove_entry fd_of (is_at (nat_cmp fd)) entries own
    ∙ ap (λ (test : Pending → Bool). without_first test (values_of entries)) (at_fd fd)

pub own_rest : (test : ℕ → Bool) (entries : List (ℕ × Pending)) → AreUnderOwn entries
    → AreUnderOwn (remove_entry test entries)
own_rest test [] own = own
own_rest test (entry ∷ entries) own =
    by (test entry.0) (All-head IsUnderOwn entry entries own) (All-tail IsUnderOwn entry entries own)
    (own_rest test entries (All-tail IsUnderOwn entry entries own))
  where
    by : (is : Bool) → IsUnderOwn entry → AreUnderOwn entries → AreUnderOwn (remove_entry test entries)
        → AreUnderOwn (cond is entries (entry ∷ remove_entry test entries))
    by true here all rest = all
    by false here all rest = All-cons IsUnderOwn entry (remove_entry test entries) here rest

-- ---- the first of them

-- its descriptor is the least number
pub first_under : (entries : List (ℕ × Pending)) → AreUnderOwn entries
    → option_map fd_of (slice_get (values_of entries) 0) ≡ option_map (λ entry. entry.0) (slice_get entries 0)
first_under [] own = refl
first_under (entry ∷ entries) own = ap Some (sym (All-head IsUnderOwn entry entries own))

-- under its descriptor it is found, and the others are behind it
pub first_found : (fd : ℕ) (events : List Pending) → Some fd ≡ option_map fd_of (slice_get events 0)
    → (find (is_under fd) events ≡ slice_get events 0) × (without_first (is_under fd) events ≡ drop 1 events)
first_found fd [] is = absurd cc
first_found fd (pending ∷ events) is =
    let same : fd ≡ pending.fd = cc in
    let here : is_under fd pending ≡ true = grind (arith, nat_tests, same) in
    rw here (refl, refl)

-- ---- one comes behind all others

module _ (asked : Pending) where
  abbrev AreBelow : List Pending → Type 0
  AreBelow events = All (λ other. other.fd < asked.fd) events

  keys_below : (entries : List (ℕ × Pending)) → AreUnderOwn entries → AreBelow (values_of entries)
      → All (λ fd. fd < asked.fd) (keys_of entries)
  keys_below [] own below = All-nil (λ fd. fd < asked.fd)
  keys_below (entry ∷ entries) own below =
      let own_fd : entry.0 ≡ entry.1.fd = All-head IsUnderOwn entry entries own in
      let first : entry.1.fd < asked.fd =
      All-head (λ (other : Pending). other.fd < asked.fd) entry.1 (values_of entries) below in
      All-cons (λ fd. fd < asked.fd) entry.0 (keys_of entries) (omega (arith, own_fd, first))
      (keys_below entries (All-tail IsUnderOwn entry entries own)
      (All-tail (λ (other : Pending). other.fd < asked.fd) entry.1 (values_of entries) below))

  -- its descriptor is new
  pub new_fd : (entries : List (ℕ × Pending)) → AreUnderOwn entries → AreBelow (values_of entries)
      → lookup (is_at (nat_cmp asked.fd)) entries ≡ None
  new_fd entries own below = new_number_end asked.fd asked entries (keys_below entries own below)

  values-end : (entries : List (ℕ × Pending))
      → values_of (entries ++ (asked.fd, asked) ∷ []) ≡ values_of entries ++ asked ∷ []
  values-end [] = refl
  values-end (entry ∷ entries) = ap (λ more. entry.1 ∷ more) (values-end entries)

  -- it comes last, and stands under its own
  pub pushed : (entries : List (ℕ × Pending)) → AreUnderOwn entries → AreBelow (values_of entries)
      → (values_of (insert_entry nat_cmp entries asked.fd asked) ≡ values_of entries ++ asked ∷ [])
      × AreUnderOwn (insert_entry nat_cmp entries asked.fd asked)
  pushed entries own below =
      rw (insert_number_end asked.fd asked entries (keys_below entries own below)) (
        values-end entries,
        All-append IsUnderOwn entries ((asked.fd, asked) ∷ []) own
            (All-cons IsUnderOwn (asked.fd, asked) [] refl (All-nil IsUnderOwn)),
      )
