-- How far each step of a listener moves its numbers.
use Rattle.std.proofs.Common.{◌≡◌, ℕ, ◌+◌, ◌-◌, ◌≤◌, Bool, true, false, not, cond, List, [], ◌∷◌, ◌++◌, length, ◌==◌, Option, Some, None, Result, Ok, Err, IfOk, OnErr, refl, ap, sym, subst, arith, length-append, length-drop, nat_le}
use Rattle.fan_bits.specs.declared.errno.Errno.{Errno}
use Rattle.fan_bits.specs.declared.errno.Errno.TheVariants as errno
use Rattle.fan_event.specs.declared.event.Event.{Event}
use Rattle.fan_queue.specs.declared.entry.Body.{Body}
use Rattle.fan_queue.specs.declared.entry.Entry.{Entry}
use Rattle.fan_queue.specs.declared.entry.Put.{Put}
use Rattle.fan_listener.specs.declared.answers.Answered.{Answered}
use Rattle.fan_listener.specs.declared.answers.Verdict.{Verdict}
use Rattle.fan_lists.proofs.FirstLemmas.{length-change_first}
use Rattle.fan_listener.specs.ListenerState.{ListenerState}
use Rattle.fan_queue.specs.Queue.{queued}
use Rattle.fan_listener.specs.Queue.{put}
use Rattle.fan_listener.proofs.PutLemmas.{by_put_to}
use Rattle.fan_listener.specs.Records.{fd_after, first_is_longer, front_read, front_within, next_fd_after, read_front, read_of, record_len, takes_fd}
use Rattle.fan_listener.specs.Responses.{written, responded, answered, waiting_under, verdict, fd_in, value_in, answer_of, closed_of}
use Rattle.fan_listener.specs.Bounds.{Makes}

-- a listener that stays makes nothing
stays : (entries : ℕ) (state : ListenerState) → Makes entries state state
stays entries state = record { made = omega arith; given = omega arith; same_flags = refl; same_limit = refl }

-- a put makes one entry at most
pub makes-put : (state : ListenerState) (event : Event) → Makes 1 state (put state event).1
unfolding queued
makes-put state event =
    by_put_to (λ done. Makes 1 state done.1) state event (λ closed. stays 1 state)
    (λ entry opened. stays 1 state) (λ opened. longer _)
    (λ entry opened plain. record {
      made = omega arith;
      given = rw length-change_first (omega arith);
      same_flags = refl;
      same_limit = refl;
    })
    (λ opened. longer _)
  where
    longer : (entry : Entry) → Makes 1 state (record state {
      queue = state.queue ++ entry ∷ [];
      next_entry = state.next_entry + 1;
    })
    longer entry = record {
      made = omega arith;
      given = rw length-append (omega arith);
      same_flags = refl;
      same_limit = refl;
    }

-- whether a put is done or refused, it makes one entry at most
pub makes-tried : {E : Type 0} (old new : ListenerState) (event : Event) (result : Result Put E)
    → IfOk result (λ outcome. (outcome, new) ≡ put old event) → OnErr result (new ≡ old) → Makes 1 old new
makes-tried old new event (Ok outcome) done kept =
    subst (λ (done : Put × ListenerState). Makes 1 old done.1) (sym done) (makes-put old event)
makes-tried old new event (Err why) done kept = rw kept (stays 1 old)

-- an entry takes one descriptor at most
pub fd_after-le : (fd : ℕ) (body : Body) → fd_after fd body ≤ fd + 1
fd_after-le fd body = by (takes_fd body)
  where
    by : (takes : Bool) → cond takes (fd + 1) fd ≤ fd + 1
    by true = omega arith
    by false = omega arith

-- entries take one descriptor each at most
pub next_fd_after-le : (fd : ℕ) (entries : List Entry) → next_fd_after fd entries ≤ fd + length entries
next_fd_after-le fd [] = omega arith
next_fd_after-le fd (entry ∷ rest) = omega (
  arith,
  next_fd_after-le
      (fd_after fd entry.body) rest,
  fd_after-le fd entry.body,
)

-- a choice of a longer list or of none is within the longer one
shorter : (b : Bool) (entry : Entry) (front rest : List Entry) → length front ≤ length rest
    → length (cond b (entry ∷ front) []) ≤ length (entry ∷ rest)
shorter true entry front rest within = omega arith
shorter false entry front rest within = omega arith

-- a front is no longer than its queue
length-front_within : (size : ℕ) (entries : List Entry) → length (front_within size entries) ≤ length entries
unfolding front_within
length-front_within size [] = omega arith
length-front_within size (entry ∷ rest) =
    let len = record_len entry.body in
    shorter (nat_le len size) entry (front_within (size - len) rest) rest
    (length-front_within (size - len) rest)

-- a front that leaves the queue takes one descriptor for each entry at most
pub makes-read_front : (state : ListenerState) (size : ℕ)
    → Makes 0 state (read_front state (front_within size state.queue))
unfolding read_front
makes-read_front state size = record {
  made = omega arith;
  given = rw length-drop (omega (
    arith,
    next_fd_after-le state.next_fd
        (front_within size state.queue),
    length-front_within size state.queue,
  ));
  same_flags = refl;
  same_limit = refl;
}

-- the second part of what an outcome gives
second_or : {A B E : Type 0} → B → Result (A × B) E → B
second_or other (Ok pair) = pair.1
second_or other (Err why) = other

-- outcomes that are the same give the same second part
same_second : {A B E : Type 0} (a a' : A) (b b' : B)
    → ◌≡◌ {A = Result (A × B) E} (Ok (a, b)) (Ok (a', b')) → b ≡ b'
unfolding second_or
same_second a a' b b' same = ap (second_or b) same

-- a read that gives bytes leaves what its front leaves
read_front-makes : (closed empty small : Bool) (state : ListenerState) (size : ℕ) (bytes : List ℕ)
    (after : ListenerState)
    → cond {A = Result (List ℕ × ListenerState) Errno} closed (Err errno.Ebadf)
    (cond empty (Err errno.Eagain) (cond small (Err errno.Einval)
    (Ok (front_read state (front_within size state.queue))))) ≡ Ok (bytes, after) → Makes 0 state after
read_front-makes true empty small state size bytes after given = absurd cc
read_front-makes false true small state size bytes after given = absurd cc
read_front-makes false false true state size bytes after given = absurd cc
read_front-makes false false false state size bytes after given =
    let same : read_front state (front_within size state.queue) ≡ after = same_second _ _ _ _ given in
    rw (← same) (makes-read_front state size)

-- a read that gives bytes makes nothing
pub makes-read_of : (state : ListenerState) (size : ℕ) (bytes : List ℕ) (after : ListenerState)
    → read_of state size ≡ Ok (bytes, after) → Makes 0 state after
unfolding read_of
makes-read_of state size bytes after given =
    read_front-makes state.closed (length state.queue == 0) (first_is_longer size state.queue) state size bytes
    after given

-- a response in form makes nothing
makes-responded : (state : ListenerState) (fd : ℕ) (given : Option Verdict) (waiting : Option ℕ)
    (done : Answered) (after : ListenerState)
    → responded state fd given waiting ≡ Ok (done, after) → Makes 0 state after
makes-responded state fd None waiting done after taken = absurd cc
makes-responded state fd (Some given) None done after taken = absurd cc
makes-responded state fd (Some given) (Some entry) done after taken =
    let same : answered state fd entry given ≡ after = same_second _ _ _ _ taken in
    rw (← same) (record { made = omega arith; given = omega arith; same_flags = refl; same_limit = refl })

-- a response to an open listener
open_written : (closed wrong : Bool) (state : ListenerState) (outcome : Result (Answered ×
    ListenerState) Errno) (done : Answered) (after : ListenerState)
    → (outcome ≡ Ok (done, after) → Makes 0 state after)
    → cond closed (Err errno.Ebadf) (cond wrong (Err errno.Einval) outcome) ≡ Ok
    (done, after) → Makes 0 state after
open_written true wrong state outcome done after makes given = absurd cc
open_written false true state outcome done after makes given = absurd cc
open_written false false state outcome done after makes given = makes given

-- a response that was taken makes nothing
pub makes-written : (state : ListenerState) (bytes : List ℕ) (done : Answered) (after :
    ListenerState) → written state bytes ≡ Ok (done, after) → Makes 0 state after
unfolding written
makes-written state bytes done after given =
    open_written state.closed (not (length bytes == 8)) state _ done after
    (makes-responded state (fd_in bytes) (verdict (value_in bytes))
    (waiting_under (fd_in bytes) state.pending) done after) given

-- an answer that is taken makes nothing
pub makes-answer_of : (state : ListenerState) (entry : ℕ) → Makes 0 state (answer_of state entry).1
unfolding answer_of
makes-answer_of state entry = record {
  made = omega arith;
  given = omega arith;
  same_flags = refl;
  same_limit = refl;
}

-- a close makes nothing
pub makes-closed_of : (state : ListenerState) → Makes 0 state (closed_of state)
unfolding closed_of
makes-closed_of state = record {
  made = omega arith;
  given = omega arith;
  same_flags = refl;
  same_limit = refl;
}
