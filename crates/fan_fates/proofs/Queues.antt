-- What is true of every queue is true of a listener's after any calls: no two queued events could be merged.
use Rattle.std.proofs.Common.{◌≡◌, ℕ, Bool, true, false, cond, not, ◌&&◌, List, [], ◌∷◌, ◌++◌, get_or, sym, subst, arith}
use Rattle.std.specs.List.{AllPairs}
use Rattle.fan_fates.specs.Calls.{Call, Closes, Looks, Puts, Reads, Writes, after_calls, called}
use Rattle.fan_fates.specs.Rules.{AreOwn, HaveOwnKeys}
use Rattle.fan_fates.proofs.CallForms.{ReadForm, WriteForm, answers_one, fronted, read_form, unanswered, unread, write_form, rest_left}
use Rattle.fan_lists.proofs.Pairs.{AllPairs-nil}
use Rattle.fan_event.specs.declared.event.Event.{Event}
use Rattle.fan_event.specs.Keys.{same_key}
use Rattle.fan_queue.specs.declared.entry.Body.{Body}
use Rattle.fan_queue.specs.declared.entry.Body.TheVariants as bodies
use Rattle.fan_queue.specs.declared.entry.Entry.{Entry}
use Rattle.fan_queue.specs.declared.entry.Put.{Put}
use Rattle.fan_queue.specs.declared.entry.Put.TheVariants as puts
use Rattle.fan_queue.specs.Queue.{put as put_on, takes}
use Rattle.fan_queue.specs.Queued.{AreQueued, IsQueue, goes_into}
use Rattle.fan_queue.proofs.QueueLemmas.{put_keeps, queued-rest}
use Rattle.fan_listener.specs.ListenerState.{ListenerState, new_listener}
use Rattle.fan_listener.specs.Queue.{put, put_in, queue_of}
use Rattle.fan_listener.specs.Records.{read_front}
use Rattle.fan_listener.specs.Responses.{answer_of, closed_of}

-- a listener's queue is a queue
abbrev HasQueue : ListenerState → Type 0
HasQueue listener = IsQueue (queue_of listener)

-- nothing is queued
none_queued : (next : ℕ) → AreQueued next []
none_queued next = record {
  numbered = tt;
  apart = AllPairs-nil (λ entry later. goes_into entry later.body ≡ false);
  lost_once = omega arith;
}

-- what follows a front is still queued without it
behind_front : (next : ℕ) (front rest : List Entry) → AreQueued next (front ++ rest) → AreQueued next rest
behind_front next [] rest are = are
behind_front next (entry ∷ front) rest are =
    behind_front next front rest (queued-rest next entry (front ++ rest) are)

has_put : (old : ListenerState) (event : Event) → HasQueue old → HasQueue (put old event).1
unfolding put
has_put old event has = by old.closed
  where
    by : (closed : Bool) → HasQueue (cond {A = Put × ListenerState} closed (puts.Closed, old)
        (put_in old (put_on (queue_of old) event))).1
    by true = has
    by false = put_keeps (queue_of old) event has

has_read : (old : ListenerState) (size : ℕ) (new : ListenerState) → ReadForm old size new → HasQueue old
    → HasQueue new
unfolding read_front
has_read old size new unread has = has
has_read old size new (fronted front its) has =
    let left = rest_left old.queue front its in
    subst (AreQueued old.next_entry) (sym left)
    (behind_front old.next_entry front its.rest (subst (AreQueued old.next_entry) its.whole has))

has_write : (old new : ListenerState) (entries : List ℕ) → WriteForm old new entries → HasQueue old
    → HasQueue new
has_write old new entries unanswered has = has
has_write old new entries (answers_one fd verdict waiting is) has = has

has_called : (old : ListenerState) (call : Call) → HasQueue old → HasQueue (called old call)
unfolding answer_of closed_of
has_called old (Puts event) has = has_put old event has
has_called old (Reads size) has = has_read old size _ (read_form old size) has
has_called old (Writes bytes) has = has_write old _ _ (write_form old bytes) has
has_called old (Looks entry) has = has
has_called old Closes has = none_queued old.next_entry

has_after : (calls : List Call) (old : ListenerState) → HasQueue old → HasQueue (after_calls old calls)
unfolding after_calls
has_after [] old has = has
has_after (call ∷ more) old has = has_after more (called old call) (has_called old call has)

pub has_new : (flags limit : ℕ) (calls : List Call)
    → IsQueue (queue_of (after_calls (new_listener flags limit) calls))
unfolding new_listener
has_new flags limit calls = has_after calls (new_listener flags limit) (none_queued 1)

-- an entry that would not be merged into one before it has a key of its own
own_key : (entry later : Entry) → goes_into entry later.body ≡ false → HaveOwnKeys entry later
unfolding takes
own_key entry later apart = by entry.body later.body apart
  where
    by : (body other : Body) → goes_into (record entry { body = body }) other ≡ false → AreOwn body other
    by (bodies.Told old) (bodies.Told event) apart =
        λ unasked notice. told old.perm event.perm apart unasked notice
      where
        told : (asked asks : Bool) → (not asks && not asked && same_key old event) ≡ false → asked ≡ false
            → asks ≡ false → same_key old event ≡ false
        told false false apart unasked notice = apart
        told false true apart unasked notice = absurd cc
        told true asks apart unasked notice = absurd cc
    by (bodies.Told old) bodies.Lost apart = tt
    by bodies.Lost other apart = tt

pub own_new : (flags limit : ℕ) (calls : List Call)
    → AllPairs HaveOwnKeys (after_calls (new_listener flags limit) calls).queue
own_new flags limit calls = λ i j d below within.
    let queue = (after_calls (new_listener flags limit) calls).queue in
    own_key (get_or queue i d) (get_or queue j d) ((has_new flags limit calls).apart i j d below within)
