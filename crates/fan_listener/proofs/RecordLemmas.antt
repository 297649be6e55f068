-- The front of a queue, whose records a read gives.
use Rattle.std.proofs.Common.{◌≡◌, ℕ, ◌+◌, ◌-◌, ◌<◌, ◌≤◌, true, false, List, [], ◌∷◌, ◌++◌, append_assoc, append-nil, drop, take, length, refl, ap, sym, ◌∙◌, arith, nat_le, slice_get, Option, Some, None, IfSome, IfNone}
use Rattle.std.proofs.lemmas.Bool.Decides.{nat_tests}
use Rattle.fan_queue.specs.declared.entry.Entry.{Entry}
use Rattle.std.proofs.lemmas.List.{drop_all, drop_more, get_or-take, length-take, take_more}
use Rattle.std.proofs.lemmas.Option.{get_or_from_slice_get, slice_get_within, some_pair_parts}
use Rattle.fan_queue.specs.Queue.{taken, taken_from}
use Rattle.fan_queue.specs.QueueState.{QueueState}
use Rattle.fan_lists.proofs.Places.{drop_next}
use Rattle.fan_listener.specs.Records.{front_within, record_len}

-- a front goes on with an entry whose record fits
pub front_goes_on : (index left len after : ℕ) (entries : List Entry) (entry : Entry)
    → slice_get entries index ≡ Some entry → len ≡ record_len entry.body → left ≡ len + after
    → take index entries ++ front_within left (drop index entries)
    ≡ take (index + 1) entries ++ front_within after (drop (index + 1) entries)
unfolding front_within
front_goes_on index left len after entries entry is len_is parts =
    let rest = front_within after (drop (index + 1) entries) in
    let test : nat_le (record_len entry.body) left ≡ true = grind (arith, nat_tests, len_is, parts) in
    let over : left - record_len entry.body ≡ after = omega (arith, len_is, parts) in
    let within = slice_get_within entries index entry is in
    let first = get_or_from_slice_get entries index entry entry is in
    rw (drop_next entries index entry is, test, over, take_more entries index entry within, first)
    (sym (append_assoc (take index entries) (entry ∷ []) rest))

-- and ends where one doesn't fit
pub front_stops : (index left len : ℕ) (entries : List Entry) (entry : Entry)
    → slice_get entries index ≡ Some entry → len ≡ record_len entry.body → left < len
    → front_within left (drop index entries) ≡ []
unfolding front_within
front_stops index left len entries entry is len_is longer =
    let test : nat_le (record_len entry.body) left ≡ false = grind (arith, nat_tests, len_is, longer) in
    rw (drop_next entries index entry is, test) refl

-- or where the queue does
pub front_at_end : (index len left : ℕ) (entries front : List Entry) → index ≡ len → length entries ≤ index
    → take index entries ++ front_within left (drop index entries) ≡ front → take len entries ≡ front
unfolding front_within
front_at_end index len left entries front same past is =
    let none : front_within left (drop index entries) ≡ [] = rw (drop_all index entries past) refl in
    rw (← same) (sym (append-nil (take index entries))
    ∙ ap (λ rest. take index entries ++ rest) (sym none) ∙ is)

-- a front goes on with the entry at an index
pub front_step : (count index : ℕ) (entries : List Entry) (entry : Entry) → index < count
    → slice_get entries index ≡ Some entry
    → drop index (take count entries) ≡ entry ∷ drop (index + 1) (take count entries)
front_step count index entries entry below is =
    let within = slice_get_within entries index entry is in
    let long : index < length (take count entries) =
    rw length-take (grind (arith, nat_tests, below, within)) in
    drop_more (take count entries) index entry long
    ∙ ap (λ x. x ∷ drop (index + 1) (take count entries))
    (get_or-take count entries index entry below ∙ get_or_from_slice_get entries index entry entry is)

-- and ends there
pub front_end : (index count : ℕ) (entries : List Entry) → count ≤ index
    → drop index (take count entries) ≡ []
front_end index count entries past =
    drop_all index (take count entries) (rw length-take (grind (arith, nat_tests, past)))

-- what is taken from a queue is the first of its entries
pub taken_is : (old new : QueueState) (entry : Entry) (entries : List Entry)
    → taken_from old entries ≡ Some (entry, new)
    → (entries ≡ entry ∷ new.entries) × (new.limit ≡ old.limit) × (new.next_entry ≡ old.next_entry)
taken_is old new entry [] is = absurd cc
taken_is old new entry (first ∷ rest) is =
    let parts = some_pair_parts first entry (record old { entries = rest }) new is in (
      rw (parts.0, ← parts.1) refl,
      ap (λ (state : QueueState). state.limit) (sym parts.1),
      ap (λ (state : QueueState). state.next_entry) (sym parts.1),
    )

-- and from an empty one none is
none_taken : (old : QueueState) (entries : List Entry) → taken_from old entries ≡ None → entries ≡ []
none_taken old [] is = refl
none_taken old (first ∷ rest) is = absurd cc

-- so a take leaves the entries behind the first
pub took : (old new : QueueState) (entry : Option Entry)
    → IfSome entry (λ entry. taken old ≡ Some (entry, new)) → IfNone entry (taken old ≡ None)
    → IfNone entry (new ≡ old)
    → (new.entries ≡ drop 1 old.entries) × (new.limit ≡ old.limit) × (new.next_entry ≡ old.next_entry)
took old new (Some entry) some none same =
    let is = taken_is old new entry old.entries some in (ap (λ xs. drop 1 xs) (sym is.0), is.1, is.2)
took old new None some none same =
    let empty = none_taken old old.entries none in rw (same, empty) (refl, refl, refl)
