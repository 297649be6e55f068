-- What each call makes of a listener, by its cases.
use Rattle.std.proofs.Common.{◌≡◌, ◌∙◌, ℕ, ◌^◌, ◌-◌, ◌==◌, Bool, true, false, cond, not, List, [], ◌∷◌, ◌++◌, Option, Some, None, Result, Ok, Err, length, find, drop, option_map, refl, ap, nat_lt, nat_le}
use Rattle.fan_bits.specs.declared.errno.Errno.{Errno}
use Rattle.fan_bits.specs.declared.errno.Errno.TheVariants as errno
use Rattle.fan_fates.specs.Calls.{Reads, answered_by, called, left_by}
use Rattle.fan_lists.specs.First.{change_first}
use Rattle.fan_listener.specs.declared.answers.Answered.{Answered}
use Rattle.fan_listener.specs.declared.answers.Pending.{Pending}
use Rattle.fan_listener.specs.declared.answers.Verdict.{Verdict}
use Rattle.fan_event.specs.declared.event.Event.{Event}
use Rattle.fan_queue.specs.declared.entry.Body.{Body}
use Rattle.fan_queue.specs.declared.entry.Body.TheVariants as bodies
use Rattle.fan_queue.specs.declared.entry.Entry.{Entry}
use Rattle.fan_queue.specs.declared.entry.Put.{Put}
use Rattle.fan_queue.specs.declared.entry.Put.TheVariants as puts
use Rattle.fan_listener.specs.ListenerState.{ListenerState}
use Rattle.fan_listener.specs.Queue.{put, put_in, queue_of, with_queue}
use Rattle.fan_queue.specs.Queue.{is_full, is_lost, merged, put as put_on, put_event, put_lost, queued, takes}
use Rattle.fan_queue.specs.QueueState.{QueueState}
use Rattle.fan_listener.specs.Records.{first_is_longer, front_read, front_within, read_front, read_of, record_len}
use Rattle.fan_listener.specs.Responses.{answered, entry_of, fd_in, is_under, responded, value_in, verdict, waiting_under, written}

-- the listener with one entry more, queued last
abbrev pub queued_in : ListenerState → Body → ListenerState
queued_in old body = with_queue old (queued (queue_of old) body)

-- what a put answers and leaves
pub data PutForm (old : ListenerState) (event : Event) : Put × ListenerState → Type 0 where
  shut : old.closed ≡ true → PutForm old event (puts.Closed, old)
  covered : (lost : Entry) → old.closed ≡ false → is_full (queue_of old) ≡ true
      → find is_lost old.queue ≡ Some lost → PutForm old event (puts.Overflow lost.number, old)
  lost_first : old.closed ≡ false → is_full (queue_of old) ≡ true → find is_lost old.queue ≡ None
      → PutForm old event (puts.Overflow old.next_entry, queued_in old bodies.Lost)
  joined : (same : Entry) → old.closed ≡ false → is_full (queue_of old) ≡ false
      → find (takes event) old.queue ≡ Some same
      → PutForm old event (
        puts.Merged same.number,
        record old { queue = change_first (takes event) (merged event) old.queue },
      )
  came_last : old.closed ≡ false → is_full (queue_of old) ≡ false → find (takes event) old.queue ≡ None
      → PutForm old event (puts.Queued old.next_entry, queued_in old (bodies.Told event))

module _ (old : ListenerState) (event : Event) where
  lost_form : (lost : Option Entry) → old.closed ≡ false → is_full (queue_of old) ≡ true
      → find is_lost old.queue ≡ lost → PutForm old event (put_in old (put_lost (queue_of old) lost))
  lost_form (Some lost) opened full is = covered lost opened full is
  lost_form None opened full is = lost_first opened full is

  event_form : (same : Option Entry) → old.closed ≡ false → is_full (queue_of old) ≡ false
      → find (takes event) old.queue ≡ same
      → PutForm old event (put_in old (put_event (queue_of old) event same))
  event_form (Some same) opened room is = joined same opened room is
  event_form None opened room is = came_last opened room is

  put_by : (closed full : Bool) → old.closed ≡ closed → is_full (queue_of old) ≡ full
      → PutForm old event (cond {A = Put × ListenerState} closed (puts.Closed, old)
      (put_in old (cond {A = Put × QueueState} full (put_lost (queue_of old) (find is_lost old.queue))
      (put_event (queue_of old) event (find (takes event) old.queue)))))
  put_by true full closed is = shut closed
  put_by false true opened full = lost_form (find is_lost old.queue) opened full refl
  put_by false false opened room = event_form (find (takes event) old.queue) opened room refl

pub put_form : (old : ListenerState) (event : Event) → PutForm old event (put old event)
unfolding put put_on
put_form old event = put_by old event old.closed (is_full (queue_of old)) refl refl

-- a front and what follows it
pub record Front (queue front : List Entry) : Type 0 where
  pub rest : List Entry
  pub whole : queue ≡ front ++ rest

-- a front of one entry more, or none
longer : (fits : Bool) (entry : Entry) (front queue : List Entry) → Front queue front
    → Front (entry ∷ queue) (cond {A = List Entry} fits (entry ∷ front) [])
longer true entry front queue its = record { rest = its.rest; whole = ap (λ xs. entry ∷ xs) its.whole }
longer false entry front queue its = record { rest = entry ∷ queue; whole = refl }

pub front_of : (size : ℕ) (queue : List Entry) → Front queue (front_within size queue)
unfolding front_within
front_of size [] = record { rest = []; whole = refl }
front_of size (entry ∷ queue) =
    let len = record_len entry.body in
    longer (nat_le len size) entry (front_within (size - len) queue) queue (front_of (size - len) queue)

-- what follows a front is left without it
drop_front : {X : Type 0} (front rest : List X) → drop (length front) (front ++ rest) ≡ rest
drop_front [] rest = refl
drop_front (x ∷ front) rest = drop_front front rest

pub rest_left : (queue front : List Entry) (its : Front queue front) → drop (length front) queue ≡ its.rest
rest_left queue front its = ap (drop (length front)) its.whole ∙ drop_front front its.rest

-- a read leaves the listener, or takes a front of its queue
pub data ReadForm (old : ListenerState) (size : ℕ) : ListenerState → Type 0 where
  unread : ReadForm old size old
  fronted : (front : List Entry) → Front old.queue front → ReadForm old size (read_front old front)

pub read_form : (old : ListenerState) (size : ℕ) → ReadForm old size (called old (Reads size))
unfolding read_of
read_form old size = by old.closed (length old.queue == 0) (first_is_longer size old.queue)
  where
    by : (a b c : Bool) → ReadForm old size (left_by old
        (cond {A = Result (List ℕ × ListenerState) Errno} a (Err errno.Ebadf)
        (cond {A = Result (List ℕ × ListenerState) Errno} b (Err errno.Eagain)
        (cond {A = Result (List ℕ × ListenerState) Errno} c (Err errno.Einval)
        (Ok (front_read old (front_within size old.queue)))))))
    by true b c = unread
    by false true c = unread
    by false false true = unread
    by false false false = fronted (front_within size old.queue) (front_of size old.queue)

-- a response leaves the listener, or answers what waits under its descriptor
pub data WriteForm (old : ListenerState) : ListenerState → List ℕ → Type 0 where
  unanswered : WriteForm old old []
  answers_one : (fd : ℕ) (verdict : Verdict) (waiting : Pending)
      → find (is_under fd) old.pending ≡ Some waiting
      → WriteForm old (answered old fd waiting.entry verdict) (waiting.entry ∷ [])

-- what a response leaves and answers is of this form
abbrev IsWritten : ListenerState → Result (Answered × ListenerState) Errno → Type 0
IsWritten old tried = WriteForm old (left_by old tried) (answered_by tried)

module _ (old : ListenerState) where
  found_form : (fd : ℕ) (given : Verdict) (found : Option Pending) → find (is_under fd) old.pending ≡ found
      → IsWritten old (responded old fd (Some given) (option_map entry_of found))
  found_form fd given None is = unanswered
  found_form fd given (Some waiting) is = answers_one fd given waiting is

  responded_form : (fd : ℕ) (given : Option Verdict) (small : Bool)
      → IsWritten old (responded old fd given
      (cond {A = Option ℕ} small (option_map entry_of (find (is_under fd) old.pending)) None))
  responded_form fd None small = unanswered
  responded_form fd (Some given) false = unanswered
  responded_form fd (Some given) true = found_form fd given (find (is_under fd) old.pending) refl

  written_form : (a b : Bool) (tried : Result (Answered × ListenerState) Errno) → IsWritten old tried
      → IsWritten old (cond {A = Result (Answered × ListenerState) Errno} a (Err errno.Ebadf)
      (cond {A = Result (Answered × ListenerState) Errno} b (Err errno.Einval) tried))
  written_form true b tried form = unanswered
  written_form false true tried form = unanswered
  written_form false false tried form = form

pub write_form : (old : ListenerState) (bytes : List ℕ)
    → WriteForm old (left_by old (written old bytes)) (answered_by (written old bytes))
unfolding written waiting_under
write_form old bytes =
    written_form old old.closed (not (length bytes == 8)) _
    (responded_form old (fd_in bytes) (verdict (value_in bytes)) (nat_lt (fd_in bytes) (2 ^ 31)))
