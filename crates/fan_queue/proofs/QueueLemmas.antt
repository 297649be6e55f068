-- What is true of every queue stays true: consecutive numbers, each key once, the lost entry once.
use Rattle.std.proofs.Common.{◌≡◌, ◌≢◌, ◌∙◌, ℕ, ◌+◌, ◌<◌, ◌≤◌, zero, suc, Bool, true, false, cond, List, [], ◌∷◌, ◌++◌, Option, Some, None, length, get_or, refl, arith}
use Rattle.std.proofs.lemmas.List.{length-append}
use Rattle.std.proofs.lemmas.List.Quantifiers.{all_pairs_push}
use Rattle.std.specs.Prelude.{IfSome, count_by, find}
use Rattle.fan_lists.specs.First.{change_first}
use Rattle.fan_lists.proofs.Counts.{count_by-cons, count_from_none}
use Rattle.fan_lists.proofs.FirstLemmas.{count_by-change_first, length-change_first}
use Rattle.fan_lists.proofs.Pairs.{AllPairs-tail}
use Rattle.fan_event.specs.declared.event.Event.{Event}
use Rattle.fan_event.specs.Events.{with_bits}
use Rattle.fan_queue.specs.declared.entry.Body.{Body}
use Rattle.fan_queue.specs.declared.entry.Body.TheVariants.{Told, Lost}
use Rattle.fan_queue.specs.declared.entry.Entry.{Entry}
use Rattle.fan_queue.specs.declared.entry.Put.TheVariants.{Merged}
use Rattle.fan_queue.specs.Queue.{body_is_lost, body_takes, is_full, is_lost, merged, put, put_event, put_lost, queued, taken, taken_from, takes, with_more}
use Rattle.fan_queue.specs.Queued.{AreApart, AreNumbered, AreQueued, CanBeQueued, IsQueue, goes_into}
use Rattle.fan_queue.specs.QueueState.{QueueState}
use Rattle.fan_queue.proofs.ChangeLemmas.{AllPairs-change_first, all_fail, count_by-push}

-- ---- numbers

-- an entry under the next number comes last
pub numbered-push : (next : ℕ) (entries : List Entry) (entry : Entry) → AreNumbered next entries
    → entry.number ≡ next → AreNumbered (next + 1) (entries ++ entry ∷ [])
numbered-push next [] entry numbered is = (omega arith, tt)
numbered-push next (first ∷ rest) entry numbered is =
    (omega (arith, numbered.0, length-append rest (entry ∷ [])), numbered-push next rest entry numbered.1 is)

-- a change that keeps numbers
pub numbered-change : (test : Entry → Bool) (change : Entry → Entry) (next : ℕ) (entries : List Entry)
    → ((entry : Entry) → (change entry).number ≡ entry.number) → AreNumbered next entries
    → AreNumbered next (change_first test change entries)
numbered-change test change next [] keeps numbered = numbered
numbered-change test change next (first ∷ rest) keeps numbered =
    elim (test first) as (λ b. AreNumbered next
    (cond b (change first ∷ rest) (first ∷ change_first test change rest))) [
      | true ↦ (rw (keeps first) numbered.0, numbered.1)
      | false ↦ (
        rw (length-change_first test change rest) numbered.0,
        numbered-change test change next rest keeps numbered.1,
      )
    ]

-- the number of the entry at an index
pub number_at : (next : ℕ) (entries : List Entry) (index : ℕ) (d : Entry) → AreNumbered next entries
    → index < length entries → (get_or entries index d).number + length entries ≡ next + index
number_at next [] index d numbered within = absurd (omega arith)
number_at next (first ∷ rest) zero d numbered within = omega (arith, numbered.0)
number_at next (first ∷ rest) (suc index) d numbered within =
    omega (arith, number_at next rest index d numbered.1 (omega arith))

-- ---- what takes what

-- further bits change nothing of what an entry takes
takes-merged : (old event : Event) (entry : Entry) → takes event (merged old entry) ≡ takes event entry
unfolding takes merged
takes-merged old event entry = by entry.body
  where
    by : (body : Body) → body_takes event (with_more old.bits body) ≡ body_takes event body
    by (Told told) = refl
    by Lost = refl

goes_into-merged : (old : Event) (entry : Entry) (body : Body)
    → goes_into (merged old entry) body ≡ goes_into entry body
goes_into-merged old entry (Told event) = takes-merged old event entry
goes_into-merged old entry Lost = refl

-- nor of where an event goes
takes-more : (bits : ℕ) (event : Event) (entry : Entry)
    → takes (with_bits bits event) entry ≡ takes event entry
unfolding takes
takes-more bits event entry = by entry.body
  where
    by : (body : Body) → body_takes (with_bits bits event) body ≡ body_takes event body
    by (Told told) = refl
    by Lost = refl

goes_into-more : (bits : ℕ) (entry : Entry) (body : Body)
    → goes_into entry (with_more bits body) ≡ goes_into entry body
goes_into-more bits entry (Told event) = takes-more bits event entry
goes_into-more bits entry Lost = refl

later-merged : (old : Event) (entry later : Entry)
    → goes_into entry (merged old later).body ≡ goes_into entry later.body
unfolding merged
later-merged old entry later = goes_into-more old.bits entry later.body

-- and the lost entry stays the only one that is lost
pub lost-merged : (old : Event) (entry : Entry) → is_lost (merged old entry) ≡ is_lost entry
unfolding merged
lost-merged old entry = by entry.body
  where
    by : (body : Body) → body_is_lost (with_more old.bits body) ≡ body_is_lost body
    by (Told told) = refl
    by Lost = refl

pub number-merged : (old : Event) (entry : Entry) → (merged old entry).number ≡ entry.number
unfolding merged
number-merged old entry = refl

-- no entry takes a permission event
pub none_takes : (event : Event) (entries : List Entry) → event.perm ≡ true
    → find (takes event) entries ≡ None
unfolding takes
none_takes event [] permission = refl
none_takes event (entry ∷ rest) permission =
    rw (not_taken entry.body) (none_takes event rest permission)
  where
    not_taken : (body : Body) → body_takes event body ≡ false
    not_taken (Told told) = rw permission refl
    not_taken Lost = refl

-- ---- queues that stay queues

-- what nothing queued takes comes last
apart-push : (entries : List Entry) (entry : Entry) → AreApart entries → CanBeQueued entries entry.body
    → AreApart (entries ++ entry ∷ [])
apart-push entries entry apart can =
    all_pairs_push (λ first later. goes_into first later.body ≡ false) entries entry apart (by entry.body can)
  where
    by : (body : Body) → CanBeQueued entries body → (k : ℕ) (d : Entry) → k < length entries
        → goes_into (get_or entries k d) body ≡ false
    by (Told event) none = all_fail (takes event) entries none
    by Lost none = λ k d within. refl

lost_once-push : (entries : List Entry) (entry : Entry) → count_by is_lost entries ≤ 1
    → CanBeQueued entries entry.body → count_by is_lost (entries ++ entry ∷ []) ≤ 1
lost_once-push entries entry once can = by entry.body can (count_by-push is_lost entries entry)
  where
    by : (body : Body) → CanBeQueued entries body
        → count_by is_lost (entries ++ entry ∷ [])
        ≡ count_by is_lost entries + cond (body_is_lost body) 1 0
        → count_by is_lost (entries ++ entry ∷ []) ≤ 1
    by (Told event) none count = omega (arith, once, count)
    by Lost none count = omega (arith, count, count_from_none is_lost entries none)

-- an entry comes
pub queued-push : (next : ℕ) (entries : List Entry) (entry : Entry) → AreQueued next entries
    → entry.number ≡ next → CanBeQueued entries entry.body → AreQueued (next + 1) (entries ++ entry ∷ [])
queued-push next entries entry are is can = record {
  numbered = numbered-push next entries entry are.numbered is;
  apart = apart-push entries entry are.apart can;
  lost_once = lost_once-push entries entry are.lost_once can;
}

-- an entry takes bits
pub queued-merge : (next : ℕ) (entries : List Entry) (event : Event) → AreQueued next entries
    → AreQueued next (change_first (takes event) (merged event) entries)
queued-merge next entries event are = record {
  numbered = numbered-change (takes event) (merged event) next entries (number-merged event) are.numbered;
  apart = AllPairs-change_first (takes event) (merged event)
      (λ entry later. goes_into entry later.body ≡ false)
      (λ entry later no. goes_into-merged event entry later.body ∙ no)
      (λ entry later no. later-merged event entry later ∙ no) entries are.apart;
  lost_once = rw (count_by-change_first (takes event) is_lost (merged event) entries (lost-merged event))
      are.lost_once;
}

-- the entry at the front goes
pub queued-rest : (next : ℕ) (entry : Entry) (rest : List Entry) → AreQueued next (entry ∷ rest)
    → AreQueued next rest
queued-rest next entry rest are = record {
  numbered = are.numbered.1;
  apart = AllPairs-tail (λ first later. goes_into first later.body ≡ false) entry rest are.apart;
  lost_once = omega (arith, are.lost_once, count_by-cons is_lost entry rest);
}

-- ---- the laws

queued_keeps : (state : QueueState) (body : Body) → IsQueue state → CanBeQueued state.entries body
    → IsQueue (queued state body)
unfolding queued
queued_keeps state body is can =
    queued-push state.next_entry state.entries (record { number = state.next_entry; body = body }) is refl can

lost_keeps : (state : QueueState) → IsQueue state → (found : Option Entry)
    → find is_lost state.entries ≡ found → IsQueue (put_lost state found).1
lost_keeps state is (Some entry) found = is
lost_keeps state is None none = queued_keeps state Lost is none

event_keeps : (state : QueueState) (event : Event) → IsQueue state → (found : Option Entry)
    → find (takes event) state.entries ≡ found → IsQueue (put_event state event found).1
event_keeps state event is (Some entry) found = queued-merge state.next_entry state.entries event is
event_keeps state event is None none = queued_keeps state (Told event) is none

-- a put keeps what is true of every queue
pub put_keeps : (state : QueueState) (event : Event) → IsQueue state → IsQueue (put state event).1
unfolding put
put_keeps state event is = by (is_full state)
  where
    by : (full : Bool) → IsQueue (cond full (put_lost state (find is_lost state.entries))
        (put_event state event (find (takes event) state.entries))).1
    by true = lost_keeps state is (find is_lost state.entries) refl
    by false = event_keeps state event is (find (takes event) state.entries) refl

-- and so does a take
pub take_keeps : (state : QueueState) → IsQueue state → IfSome (taken state) (λ took. IsQueue took.1)
take_keeps state is = by state.entries is
  where
    by : (entries : List Entry) → AreQueued state.next_entry entries
        → IfSome (taken_from state entries) (λ took. IsQueue took.1)
    by [] are = tt
    by (entry ∷ rest) are = queued-rest state.next_entry entry rest are

-- a permission event is merged into no entry
pub told_unmerged : (state : QueueState) (event : Event) → event.perm ≡ true → (entry : ℕ)
    → (put_event state event (find (takes event) state.entries)).0 ≢ Merged entry
told_unmerged state event permission entry = rw (none_takes event state.entries permission) (λ is. cc)

-- so a put of one merges nothing
pub never_merged : (state : QueueState) (event : Event) → event.perm ≡ true → (entry : ℕ)
    → (put state event).0 ≢ Merged entry
unfolding put
never_merged state event permission entry = by (is_full state)
  where
    lost : (found : Option Entry) → (put_lost state found).0 ≢ Merged entry
    lost (Some other) = λ is. cc
    lost None = λ is. cc

    by : (full : Bool) → (cond full (put_lost state (find is_lost state.entries))
        (put_event state event (find (takes event) state.entries))).0 ≢ Merged entry
    by true = lost (find is_lost state.entries)
    by false = told_unmerged state event permission entry
