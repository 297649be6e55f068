-- What the fate of an event says of the listener before it and after it.
use Rattle.std.proofs.Common.{◌≡◌, ◌∙◌, ℕ, ◌≤◌, length, Bool, true, false, cond, List, [], ◌∷◌, ◌++◌, Option, Some, None, refl, sym, subst, arith}
use Rattle.std.proofs.lemmas.Bool.Decides.{nat_tests}
use Rattle.std.proofs.lemmas.Nat.Bits.{bit_at_or, same_from_bits}
use Rattle.std.specs.Int.RustNames.{bit_or}
use Rattle.std.specs.List.{Contains}
use Rattle.std.specs.Prelude.{All}
use Rattle.fan_bits.specs.Words.{occurs, unlimited_queue}
use Rattle.fan_fates.specs.Calls.{Deed}
use Rattle.fan_fates.specs.Bits.{HasBits, HasBitsIn}
use Rattle.fan_fates.specs.Fates.{left, lost, told}
use Rattle.fan_fates.specs.Rules.{FindsClosed, IsQueued, NamesNext, is_lost_fate}
use Rattle.fan_fates.proofs.CallForms.{PutForm, came_last, covered, joined, lost_first, put_form, shut}
use Rattle.fan_fates.proofs.History.{History, entry_with, merged_is, overflows, taken_by}
use Rattle.fan_fates.proofs.Lists.{All-middle, All-second, found_split}
use Rattle.fan_lists.proofs.Pairs.{Contains-first, Contains-later}
use Rattle.fan_event.specs.declared.event.Event.{Event}
use Rattle.fan_queue.specs.declared.entry.Body.{Body}
use Rattle.fan_queue.specs.declared.entry.Body.TheVariants as bodies
use Rattle.fan_queue.specs.declared.entry.Entry.{Entry}
use Rattle.fan_queue.specs.declared.entry.Put.{Put}
use Rattle.fan_listener.specs.ListenerState.{ListenerState}
use Rattle.fan_listener.specs.Queue.{put, queue_of}
use Rattle.fan_queue.specs.Queue.{fills, is_full, is_lost, merged, queued, takes}

-- a list has the element about which it is split
Contains-middle : {X : Type 0} (before later : List X) (x : X) → Contains (before ++ x ∷ later) x
Contains-middle [] later x = Contains-first x later
Contains-middle (y ∷ before) later x =
    Contains-later x y (before ++ x ∷ later) (Contains-middle before later x)

-- bits that were joined once stay as they are
or_again : (a b : ℕ) → bit_or (bit_or a b) b ≡ bit_or a b
or_again a b = same_from_bits _ _ (λ at. rw (bit_at_or (bit_or a b) b at, bit_at_or a b at) (omega arith))

-- right after an event came, it is in the queue as its fate says
queued_so : (old : ListenerState) (event : Event) (given : Put × ListenerState) → PutForm old event given
    → IsQueued given.1.queue event given.0
unfolding queued
queued_so old event given (shut closed) = tt
queued_so old event given (covered lost opened full is) =
    let split = found_split is_lost (λ (entry : Entry). entry) old.queue lost is in
    let body : lost.body ≡ bodies.Lost = overflows lost.body split.passes in
    let there = subst (λ queue. Contains queue lost) (sym split.whole)
    (Contains-middle split.before split.later lost) in
    subst (λ (its : Body). Contains old.queue (entry_with lost.number its)) body there
queued_so old event given (lost_first opened full none) =
    Contains-middle old.queue [] (entry_with old.next_entry bodies.Lost)
queued_so old event given (came_last opened room none) =
    Contains-middle old.queue [] (entry_with old.next_entry (bodies.Told event))
queued_so old event given (joined same opened room is) =
    let split = found_split (takes event) (merged event) old.queue same is in
    let its = taken_by event same split.passes in
    let whole : Event = record its.old { bits = bit_or its.old.bits event.bits } in
    let there = subst (λ queue. Contains queue (merged event same)) (sym split.edited)
    (Contains-middle split.before split.later (merged event same)) in (
      whole,
      subst (Contains given.1.queue) (merged_is event same its.old its.is) there,
      or_again its.old.bits event.bits,
      its.key,
    )

pub put_queued : (old : ListenerState) (event : Event)
    → IsQueued (put old event).1.queue event (put old event).0
put_queued old event = queued_so old event (put old event) (put_form old event)

-- an event is refused exactly if the listener was closed before
finds_closed : (past : List Deed) (old : ListenerState) (event : Event) (given : Put × ListenerState)
    → PutForm old event given → History past old → FindsClosed past given.0
finds_closed past old event given (shut closed) history = sym closed ∙ history.closed
finds_closed past old event given (covered lost opened full is) history = sym opened ∙ history.closed
finds_closed past old event given (lost_first opened full none) history = sym opened ∙ history.closed
finds_closed past old event given (joined same opened room is) history = sym opened ∙ history.closed
finds_closed past old event given (came_last opened room none) history = sym opened ∙ history.closed

pub put_closed : (past : List Deed) (old : ListenerState) (event : Event) → History past old
    → FindsClosed past (put old event).0
put_closed past old event = finds_closed past old event (put old event) (put_form old event)

-- a fate names a new entry, or one of its own sort
names_next : (past : List Deed) (old : ListenerState) (event : Event) (given : Put × ListenerState)
    → PutForm old event given → History past old → NamesNext past given.0
names_next past old event given (shut closed) history = tt
names_next past old event given (covered entry opened full is) history =
    let split = found_split is_lost (λ (one : Entry). one) old.queue entry is in
    let bits = subst (All (HasBitsIn past)) split.whole
    (All-second (HasBitsIn past) (left past) old.queue history.fits.bits) in
    let has = All-middle (HasBitsIn past) split.before split.later entry bits in
    (subst (HasBits (told past entry.number) (lost past entry.number))
    (overflows entry.body split.passes) has).0
names_next past old event given (lost_first opened full none) history =
    (history.fits.fresh old.next_entry (omega arith)).0
names_next past old event given (came_last opened room none) history =
    history.fits.fresh old.next_entry (omega arith)
names_next past old event given (joined same opened room is) history =
    let split = found_split (takes event) (merged event) old.queue same is in
    let its = taken_by event same split.passes in
    let bits = subst (All (HasBitsIn past)) split.whole
    (All-second (HasBitsIn past) (left past) old.queue history.fits.bits) in
    let has = All-middle (HasBitsIn past) split.before split.later same bits in
    let stands = subst (HasBits (told past same.number) (lost past same.number)) its.is has in
    (stands.some, stands.none_lost)

pub put_names : (past : List Deed) (old : ListenerState) (event : Event) → History past old
    → NamesNext past (put old event).0
put_names past old event = names_next past old event (put old event) (put_form old event)

-- an event is lost only at the limit
pub record AtLimit (listener : ListenerState) : Type 0 where
  pub limited : occurs listener.flags unlimited_queue ≡ false
  pub full : listener.limit ≤ length listener.queue

limit_is : (old : ListenerState) → is_full (queue_of old) ≡ true → AtLimit old
unfolding is_full
limit_is old full = by (occurs old.flags unlimited_queue) refl full
  where
    by : (unlimited : Bool) → occurs old.flags unlimited_queue ≡ unlimited
        → fills (cond {A = Option ℕ} unlimited None (Some old.limit)) (length old.queue) ≡ true
        → AtLimit old
    by true is full = absurd cc
    by false is full = record { limited = is; full = grind (arith, nat_tests, full) }

lost_full : (old : ListenerState) (event : Event) (given : Put × ListenerState) → PutForm old event given
    → is_lost_fate given.0 ≡ true → AtLimit old
lost_full old event given (shut closed) is = absurd cc
lost_full old event given (covered lost opened full its) is = limit_is old full
lost_full old event given (lost_first opened full none) is = limit_is old full
lost_full old event given (joined same opened room its) is = absurd cc
lost_full old event given (came_last opened room none) is = absurd cc

pub put_full : (old : ListenerState) (event : Event) → is_lost_fate (put old event).0 ≡ true → AtLimit old
put_full old event = lost_full old event (put old event) (put_form old event)
