-- What a put on a queue makes: one of four outcomes.
use Rattle.std.proofs.Common.{◌≡◌, ℕ, Bool, true, false, not, ◌&&◌, cond, find, Option, Some, None, ◌≤◌, refl, ap, sym, subst, ◌∙◌, arith, append-nil}
use Rattle.fan_event.specs.declared.event.Event.{Event}
use Rattle.fan_lists.specs.First.{change_first}
use Rattle.fan_queue.specs.declared.entry.Body.TheVariants.{Told, Lost}
use Rattle.fan_queue.specs.declared.entry.Entry.{Entry}
use Rattle.fan_queue.specs.declared.entry.Put.{Put}
use Rattle.fan_queue.specs.declared.entry.Put.TheVariants as puts
use Rattle.fan_queue.specs.Queue.{put, put_event, put_lost, queued, is_full, is_lost, merged, takes}
use Rattle.fan_queue.specs.QueueState.{QueueState}
use Rattle.fan_queue.proofs.QueueLemmas.{none_takes}
use Rattle.fan_listener.specs.Queue.{is_queued, limit_of, put as put_to, put_in, queue_of, with_queue}
use Rattle.fan_listener.specs.ListenerState.{ListenerState}
use Rattle.fan_listener.specs.Records.{has_fd, next_fd_after, pendings}
use Rattle.fan_listener.proofs.WaitLemmas.{next_fd_after-append, next_fd_after-change_first, pending_of-handles, pendings-append, pendings-change_first}

module _ (P : Put × QueueState → Type 0) (state : QueueState) (event : Event)
    (stays : (entry : ℕ) → P (puts.Overflow entry, state))
    (loses : P (puts.Overflow state.next_entry, queued state Lost))
    (merges : (entry : ℕ) → event.perm ≡ false → P (
      puts.Merged entry,
      record state { entries = change_first (takes event) (merged event) state.entries },
    ))
    (comes : P (puts.Queued state.next_entry, queued state (Told event))) where
  by_lost : (found : Option Entry) → P (put_lost state found)
  by_lost (Some entry) = stays entry.number
  by_lost None = loses

  by_event : (found : Option Entry) → find (takes event) state.entries ≡ found
      → P (put_event state event found)
  by_event (Some entry) is = merges entry.number (plain event.perm refl)
    where
      plain : (perm : Bool) → event.perm ≡ perm → event.perm ≡ false
      plain true permission = let none = none_takes event state.entries permission in absurd cc
      plain false notice = notice
  by_event None none = comes

  -- what is true of the four outcomes is true of a put
  pub by_put : P (put state event)
  unfolding put
  by_put = by (is_full state)
    where
      by : (full : Bool) → P (cond full (put_lost state (find is_lost state.entries))
          (put_event state event (find (takes event) state.entries)))
      by true = by_lost (find is_lost state.entries)
      by false = by_event (find (takes event) state.entries) refl

module _ (P : Put × ListenerState → Type 0) (state : ListenerState) (event : Event)
    (closes : state.closed ≡ true → P (puts.Closed, state))
    (stays : (entry : ℕ) → state.closed ≡ false → P (puts.Overflow entry, state))
    (loses : state.closed ≡ false
    → P (puts.Overflow state.next_entry, with_queue state (queued (queue_of state) Lost)))
    (merges : (entry : ℕ) → state.closed ≡ false → event.perm ≡ false → P (
      puts.Merged entry,
      record state { queue = change_first (takes event) (merged event) state.queue },
    ))
    (comes : state.closed ≡ false
    → P (puts.Queued state.next_entry, with_queue state (queued (queue_of state) (Told event)))) where
  -- what is true of the five outcomes at a listener is true of a put to it
  pub by_put_to : P (put_to state event)
  unfolding put_to
  by_put_to = by state.closed refl
    where
      by : (closed : Bool) → state.closed ≡ closed
          → P (cond closed (puts.Closed, state) (put_in state (put (queue_of state) event)))
      by true is = closes is
      by false is = by_put (λ done. P (put_in state done)) (queue_of state) event (λ entry. stays entry is)
          (loses is) (λ entry. merges entry is) (comes is)

-- ---- what a put does to the events of a queue

-- the events of a queue wait under the same descriptors as before
pub record Keeps (old new : QueueState) : Type 0 where
  pub limit : new.limit ≡ old.limit
  pub waiting : (fd : ℕ) → pendings fd new.entries ≡ pendings fd old.entries
  pub next : (fd : ℕ) → next_fd_after fd new.entries ≡ next_fd_after fd old.entries
  pub made : old.next_entry ≤ new.next_entry

-- they do where no event was queued that takes a descriptor
pub keeps-put : (old new : QueueState) (event : Event) (outcome : Put) → (outcome, new) ≡ put old event
    → (is_queued outcome && has_fd event.target) ≡ false → Keeps old new
unfolding queued
keeps-put old new event outcome is =
    subst P (sym is) (by_put P old event stays loses merges comes)
  where
    P : Put × QueueState → Type 0
    P done = (is_queued done.0 && has_fd event.target) ≡ false → Keeps old done.1

    same : Keeps old old
    same = record { limit = refl; waiting = λ fd. refl; next = λ fd. refl; made = omega arith }

    stays : (entry : ℕ) → P (puts.Overflow entry, old)
    stays entry other = same

    loses : P (puts.Overflow old.next_entry, queued old Lost)
    loses other = record {
      limit = refl;
      waiting = λ fd. pendings-append fd old.entries _ ∙ append-nil (pendings fd old.entries);
      next = λ fd. next_fd_after-append fd old.entries _;
      made = omega arith;
    }

    merges : (entry : ℕ) → event.perm ≡ false → P (
      puts.Merged entry,
      record old { entries = change_first (takes event) (merged event) old.entries },
    )
    merges entry plain other = record {
      limit = refl;
      waiting = λ fd. pendings-change_first event fd old.entries;
      next = λ fd. next_fd_after-change_first event fd old.entries;
      made = omega arith;
    }

    comes : P (puts.Queued old.next_entry, queued old (Told event))
    comes handles = record {
      limit = refl;
      waiting = λ fd. pendings-append fd old.entries _
          ∙ rw (pending_of-handles event (next_fd_after fd old.entries) old.next_entry handles)
          (append-nil (pendings fd old.entries));
      next = λ fd. next_fd_after-append fd old.entries _ ∙ rw handles refl;
      made = omega arith;
    }

-- an event that was queued is the next entry
pub queued-put : (old new : QueueState) (event : Event) (outcome : Put) → (outcome, new) ≡ put old event
    → is_queued outcome ≡ true
    → (outcome ≡ puts.Queued old.next_entry) × (new ≡ queued old (Told event))
queued-put old new event outcome is =
    subst P (sym is) (by_put P old event (λ entry other. absurd cc) (λ other. absurd cc)
    (λ entry plain other. absurd cc) (λ other. (refl, refl)))
  where
    P : Put × QueueState → Type 0
    P done =
        is_queued done.0 ≡ true → (done.0 ≡ puts.Queued old.next_entry) × (done.1 ≡ queued old (Told event))

-- the number of an entry that was queued
abbrev entry_in : Put → ℕ
entry_in (puts.Queued entry) = entry
entry_in _ = 0

pub queued_as : (old new : QueueState) (event : Event) (outcome : Put) (entry : ℕ)
    → (outcome, new) ≡ put old event → outcome ≡ puts.Queued entry
    → (entry ≡ old.next_entry) × (new ≡ queued old (Told event))
queued_as old new event outcome entry is queued_is =
    let done = queued-put old new event outcome is (ap is_queued queued_is) in
    (ap entry_in (sym queued_is ∙ done.0), done.1)

-- and no other outcome queues one
pub not_queued : (outcome : Put) (under : Bool) → ((entry : ℕ) → outcome ≡ puts.Queued entry → ⊥)
    → (is_queued outcome && under) ≡ false
not_queued (puts.Queued entry) under other = absurd (other entry refl)
not_queued (puts.Merged entry) under other = refl
not_queued (puts.Overflow entry) under other = refl
not_queued puts.Closed under other = refl

-- an outcome counts for nothing at an event that takes no descriptor
pub none_under : (outcome : Put) (under : Bool) → under ≡ false → (is_queued outcome && under) ≡ false
none_under (puts.Queued entry) under none = none
none_under (puts.Merged entry) under none = refl
none_under (puts.Overflow entry) under none = refl
none_under puts.Closed under none = refl

-- the queue of a listener, by its parts
pub same_queue : (state : ListenerState) (queue : QueueState) → queue.limit ≡ limit_of state.flags state.limit
    → queue.entries ≡ state.queue → queue.next_entry ≡ state.next_entry → queue ≡ queue_of state
same_queue state queue limit entries next =
    λ i. record { limit = limit i; entries = entries i; next_entry = next i }

-- the same, where these parts are seen as those of the listener
pub queue_seen : (state seen : ListenerState) (queue : QueueState) → seen ≡ state
    → queue.limit ≡ limit_of seen.flags seen.limit → queue.entries ≡ seen.queue
    → queue.next_entry ≡ seen.next_entry → queue ≡ queue_of state
queue_seen state seen queue is limit entries next =
    subst (λ (listener : ListenerState). queue ≡ queue_of listener) is (same_queue seen queue limit entries next)

-- a full queue takes no event
pub full_takes_none : (old new : QueueState) (event : Event) (outcome : Put) → (outcome, new) ≡ put old event
    → is_full old ≡ true → is_queued outcome ≡ false
unfolding put
full_takes_none old new event outcome is full =
    subst (λ (done : Put × QueueState). is_queued done.0 ≡ false) (sym is)
    (rw full (lost (find is_lost old.entries)))
  where
    lost : (found : Option Entry) → is_queued (put_lost old found).0 ≡ false
    lost (Some entry) = refl
    lost None = refl

-- so no event is queued with a descriptor that has none, or comes to a full queue
pub none_with_fd : (old new : QueueState) (event : Event) (outcome : Put) → (outcome, new) ≡ put old event
    → (has_fd event.target && not (is_full old)) ≡ false → (is_queued outcome && has_fd event.target) ≡ false
none_with_fd old new event outcome is none = by (is_full old) refl (has_fd event.target) none
  where
    by : (full : Bool) → is_full old ≡ full → (under : Bool) → (under && not full) ≡ false
        → (is_queued outcome && under) ≡ false
    by true full under none = rw (full_takes_none old new event outcome is full) refl
    by false room false none = none_under outcome false refl
    by false room true none = absurd cc

-- a put to the queue of an open listener is a put to it
pub put-queue : (state : ListenerState) (old new : QueueState) (event : Event) (outcome : Put)
    → state.closed ≡ false → old.limit ≡ limit_of state.flags state.limit → old.entries ≡ state.queue
    → old.next_entry ≡ state.next_entry → (outcome, new) ≡ put old event
    → (outcome, with_queue state new) ≡ put_to state event
unfolding put_to
put-queue state old new event outcome opened limit entries next is =
    ap (put_in state) (is ∙ ap (λ queue. put queue event) (same_queue state old limit entries next))
    ∙ sym (ap (λ closed. cond closed (puts.Closed, state) (put_in state (put (queue_of state) event))) opened)
