-- Keys of entries, and keys that are noted in a map.
use Rattle.std.proofs.Common.{◌≡◌, ◌∙◌, ℕ, ◌+◌, ◌<◌, ◌≤◌, Bool, true, false, not, cond, ◌==◌, ◌&&◌, List, [], ◌∷◌, Option, Some, None, length, get_or, refl, sym, ap, arith}
use Rattle.std.specs.BTreeMap.{is_at}
use Rattle.std.specs.Option.{ForSome}
use Rattle.std.specs.Prelude.{filter}
use Rattle.fan_map.proofs.Keys.{is_eq-two}
use Rattle.fan_event.specs.declared.event.Event.{Event}
use Rattle.fan_event.specs.Keys.{key_hash, same_key}
use Rattle.fan_event.proofs.HashLemmas.{same_hash}
use Rattle.fan_queue.specs.declared.entry.Body.{Body}
use Rattle.fan_queue.specs.declared.entry.Body.TheVariants.{Told, Lost}
use Rattle.fan_queue.specs.declared.entry.Entry.{Entry}
use Rattle.fan_queue.specs.declared.keys.EntryKey.{EntryKey}
use Rattle.fan_queue.specs.Keys.{KeySet, event_key, is_noted, key_cmp, key_in, key_of}
use Rattle.fan_queue.specs.Queue.{body_takes, merged, takes, with_more}
use Rattle.fan_queue.specs.Queued.{AreNumbered}
use Rattle.fan_queue.proofs.QueueLemmas.{number_at}

-- two keys are the same if their hashes and their numbers are
pub same_entry_key : (a b : EntryKey) → is_at (key_cmp a) b ≡ (a.hash == b.hash && a.number == b.number)
same_entry_key a b = is_eq-two a.hash a.number b.hash b.number

-- the key of an entry has its number
pub key_number : (entry : Entry) → ForSome (key_of entry) (λ key. key.number ≡ entry.number)
key_number entry = by entry.body
  where
    by : (body : Body) → ForSome (key_in entry.number body) (λ key. key.number ≡ entry.number)
    by (Told event) = told event.perm
      where
        told : (perm : Bool) → ForSome (cond perm None (Some (event_key event entry.number)))
            (λ key. key.number ≡ entry.number)
        told true = λ key is. absurd cc
        told false = λ key is. cc
    by Lost = λ key is. absurd cc

-- an entry that takes an event has a key with the hash of the event's key
pub taker_key : (event : Event) (entry : Entry) → takes event entry ≡ true
    → key_of entry ≡ Some (event_key event entry.number)
unfolding takes
taker_key event entry taker = by entry.body taker
  where
    by : (body : Body) → body_takes event body ≡ true
        → key_in entry.number body ≡ Some (event_key event entry.number)
    by (Told old) taker = told event.perm old.perm taker
      where
        own : ℕ → Option EntryKey
        own hash = Some (record { hash = hash; number = entry.number })

        told : (perm asks : Bool) → (not perm && not asks && same_key old event) ≡ true
            → cond asks None (own (key_hash old)) ≡ own (key_hash event)
        told true asks taker = absurd cc
        told false true taker = absurd cc
        told false false taker = ap own (same_hash old event taker)
    by Lost taker = absurd cc

-- further bits leave the key of an entry
pub key-merged : (event : Event) (entry : Entry) → key_of (merged event entry) ≡ key_of entry
unfolding merged key_hash
key-merged event entry = by entry.body
  where
    by : (body : Body) → key_in entry.number (with_more event.bits body) ≡ key_in entry.number body
    by (Told told) = refl
    by Lost = refl

-- the number of the entry at an index, counted from the front
pub number_from : (front : ℕ) (entries : List Entry) (index : ℕ) (d : Entry)
    → AreNumbered (front + length entries) entries → index < length entries
    → (get_or entries index d).number ≡ front + index
number_from front entries index d numbered within =
    omega (arith, number_at (front + length entries) entries index d numbered within)

-- so the key of an entry has no number below the front
pub front_below : (front : ℕ) (entries : List Entry) (index : ℕ) (d : Entry)
    → AreNumbered (front + length entries) entries → index < length entries
    → ForSome (key_of (get_or entries index d)) (λ key. front ≤ key.number)
front_below front entries index d numbered within = λ key is.
    let at = number_from front entries index d numbered within in
    omega (arith, at, key_number (get_or entries index d) key is)

-- and there are no more entries than numbers below the next
pub numbers_below : (next : ℕ) (entries : List Entry) → AreNumbered next entries → length entries ≤ next
numbers_below next [] numbered = omega arith
numbers_below next (first ∷ rest) numbered = omega (arith, numbered.0)

-- a key that a test lets pass is noted in what the test leaves
pub noted_filter : (p : EntryKey → Bool) (key : EntryKey)
    → ((other : EntryKey) → is_at (key_cmp key) other ≡ true → p other ≡ true)
    → (keys : KeySet) → is_noted key (filter (λ e. p e.0) keys) ≡ is_noted key keys
noted_filter p key passes [] = refl
noted_filter p key passes (e ∷ rest) =
    by (is_at (key_cmp key) e.0) refl (p e.0) refl (noted_filter p key passes rest)
  where
    by : (here : Bool) → is_at (key_cmp key) e.0 ≡ here → (pass : Bool) → p e.0 ≡ pass
        → is_noted key (filter (λ e. p e.0) rest) ≡ is_noted key rest
        → is_noted key (filter (λ e. p e.0) (e ∷ rest)) ≡ is_noted key (e ∷ rest)
    by true i true j ih = rw (j, i) refl
    by true i false j ih =
        let never : true ≡ false = sym (passes e.0 i) ∙ j in absurd cc
    by false i true j ih = rw (j, i) ih
    by false i false j ih = rw (j, i) ih
