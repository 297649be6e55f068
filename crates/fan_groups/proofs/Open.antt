-- What calls of a listener leave of whether it is open, and how many groups are open afterwards.
use Rattle.std.proofs.Common.{◌≡◌, ℕ, zero, suc, ◌+◌, List, [], ◌∷◌, ◌++◌, Bool, true, false, cond, not, Option, Some, None, Result, Ok, Err, refl, sym, ap, ◌∙◌, arith, set, length, ◌==◌, ◌<◌, get_or}
use Rattle.std.specs.Prelude.{slice_get, count_by, IfOk, OnErr}
use Rattle.std.proofs.lemmas.Option.{slice_get-get_or}
use Rattle.std.proofs.lemmas.List.Sums.{sum_by-append, sum_by-cons}
use Rattle.fan_io.specs.declared.NoMemory.{NoMemory}
use Rattle.fan_listener.specs.declared.answers.Answer.{Answer}
use Rattle.fan_listener.specs.declared.answers.Answered.{Answered}
use Rattle.fan_listener.specs.declared.answers.Verdict.{Verdict}
use Rattle.fan_event.specs.declared.event.Event.{Event}
use Rattle.fan_queue.specs.declared.entry.Put.{Put}
use Rattle.fan_listener.specs.Groups.{is_open}
use Rattle.fan_listener.specs.ListenerState.{ListenerState, new_listener}
use Rattle.fan_listener.specs.Queue.{put}
use Rattle.fan_listener.proofs.PutLemmas.{by_put_to}
use Rattle.fan_listener.specs.Records.{first_is_longer, read_front, read_of}
use Rattle.fan_listener.specs.Responses.{written, responded, waiting_under, verdict, fd_in, value_in, answer_of, closed_of}

-- a put leaves a listener open or closed
pub closed-put : (listener : ListenerState) (event : Event) → (put listener event).1.closed ≡ listener.closed
closed-put listener event =
    by_put_to (λ r. r.1.closed ≡ listener.closed) listener event (λ closed. refl) (λ entry opened. refl)
    (λ opened. refl) (λ entry opened plain. refl) (λ opened. refl)

-- and so does the taking of an answer
pub closed-answer_of : (listener : ListenerState) (entry : ℕ) → (answer_of listener entry).1.closed ≡ listener.closed
unfolding answer_of
closed-answer_of listener entry = refl

either_ok : {T E : Type 0} (b : Bool) (left right : Result T E) (P : T → Type 0) → IfOk left P → IfOk right P
    → IfOk (cond b left right) P
either_ok true left right P here there = here
either_ok false left right P here there = there

-- and so does a read
pub closed-read_of : (listener : ListenerState) (size : ℕ)
    → IfOk (read_of listener size) (λ read. read.1.closed ≡ listener.closed)
unfolding read_of read_front
closed-read_of listener size =
    let P : List ℕ × ListenerState → Type 0 = λ read. read.1.closed ≡ listener.closed in
    either_ok listener.closed _ _ P tt
    (either_ok (length listener.queue == 0) _ _ P tt (either_ok (first_is_longer size listener.queue) _ _ P tt refl))

closed-responded : (listener : ListenerState) (fd : ℕ) (given : Option Verdict) (waiting : Option ℕ)
    → IfOk (responded listener fd given waiting) (λ response. response.1.closed ≡ listener.closed)
closed-responded listener fd None waiting = tt
closed-responded listener fd (Some given) None = tt
closed-responded listener fd (Some given) (Some entry) = refl

-- and so does a response
pub closed-written : (listener : ListenerState) (bytes : List ℕ)
    → IfOk (written listener bytes) (λ response. response.1.closed ≡ listener.closed)
unfolding written
closed-written listener bytes =
    let P : Answered × ListenerState → Type 0 = λ response. response.1.closed ≡ listener.closed in
    either_ok listener.closed _ _ P tt
    (either_ok (not (length bytes == 8)) _ _ P tt
    (closed-responded listener (fd_in bytes) (verdict (value_in bytes)) (waiting_under (fd_in bytes) listener.pending)))

-- the listener that an index gives
pub at_index : (listeners : List ListenerState) (index : ℕ) (other listener : ListenerState)
    → index < length listeners → listener ≡ get_or listeners index other
    → slice_get listeners index ≡ Some listener
at_index listeners index other listener within is =
    slice_get-get_or listeners index other within ∙ ap (λ l. Some l) (sym is)

-- one listener more, which is closed or not
counted_as : (listener : ListenerState) (more : List ListenerState) (closed : Bool) → listener.closed ≡ closed
    → count_by is_open (listener ∷ more) ≡ cond (not closed) 1 0 + count_by is_open more
counted_as listener more closed is =
    sum_by-cons (λ l. cond (is_open l) 1 0) listener more
    ∙ ap (λ b. cond (not b) 1 0 + count_by is_open more) is

-- a listener that stays open, or closed, leaves as many open
pub open_same : (listeners : List ListenerState) (index : ℕ) (old new : ListenerState)
    → slice_get listeners index ≡ Some old → new.closed ≡ old.closed
    → count_by is_open (set listeners index new) ≡ count_by is_open listeners
open_same [] index old new here same = refl
open_same (listener ∷ more) zero old new here same =
    let is : listener ≡ old = cc in
    let as_old : listener.closed ≡ new.closed = ap (λ (l : ListenerState). l.closed) is ∙ sym same in
    omega (arith, counted_as listener more new.closed as_old, counted_as new more new.closed refl)
open_same (listener ∷ more) (suc index) old new here same = omega (
  arith,
  open_same more index old new here same,
  counted_as listener more listener.closed refl,
  counted_as listener (set more index new) listener.closed refl,
)

module _ (listeners : List ListenerState) (index : ℕ) (old new : ListenerState)
    (here : slice_get listeners index ≡ Some old) where
  -- a read, done or refused
  pub open_read : {A E : Type 0} (bytes : A → List ℕ) (size : ℕ) (outcome : Result A E)
      → IfOk outcome (λ a. read_of old size ≡ Ok (bytes a, new)) → OnErr outcome (new ≡ old)
      → count_by is_open (set listeners index new) ≡ count_by is_open listeners
  open_read bytes size (Ok a) is stays = open_same listeners index old new here (rw is at (closed-read_of old size))
  open_read bytes size (Err why) is stays =
      open_same listeners index old new here (ap (λ (l : ListenerState). l.closed) stays)

  -- a response, taken or refused
  pub open_written : {E : Type 0} (bytes : List ℕ) (outcome : Result Answered E)
      → IfOk outcome (λ answered. written old bytes ≡ Ok (answered, new)) → OnErr outcome (new ≡ old)
      → count_by is_open (set listeners index new) ≡ count_by is_open listeners
  open_written bytes (Ok answered) is stays =
      open_same listeners index old new here (rw is at (closed-written old bytes))
  open_written bytes (Err why) is stays =
      open_same listeners index old new here (ap (λ (l : ListenerState). l.closed) stays)

  -- a look at an answer
  pub open_answered : (entry : ℕ) (answer : Answer) → (answer, new) ≡ answer_of old entry
      → count_by is_open (set listeners index new) ≡ count_by is_open listeners
  open_answered entry answer is =
      open_same listeners index old new here
      (ap (λ (r : Answer × ListenerState). r.1.closed) is ∙ closed-answer_of old entry)

  -- an event that is put on the queue, or for which there was no memory
  pub open_put : (event : Event) (outcome : Result Put NoMemory)
      → IfOk outcome (λ became. (became, new) ≡ put old event) → OnErr outcome (new ≡ old)
      → count_by is_open (set listeners index new) ≡ count_by is_open listeners
  open_put event (Ok became) is stays =
      open_same listeners index old new here
      (ap (λ (r : Put × ListenerState). r.1.closed) is ∙ closed-put old event)
  open_put event (Err none) is stays =
      open_same listeners index old new here (ap (λ (l : ListenerState). l.closed) stays)

-- what a close leaves is closed
closed-closed_of : (listener : ListenerState) → (closed_of listener).closed ≡ true
unfolding closed_of
closed-closed_of listener = refl

-- one listener fewer is open after one that was open is closed
pub open_closed : (listeners : List ListenerState) (index : ℕ) (old new : ListenerState)
    → slice_get listeners index ≡ Some old → old.closed ≡ false → new ≡ closed_of old
    → count_by is_open (set listeners index new) + 1 ≡ count_by is_open listeners
open_closed [] index old new here was is = absurd cc
open_closed (listener ∷ more) zero old new here was is =
    let same : listener ≡ old = cc in
    let was_open : listener.closed ≡ false = ap (λ (l : ListenerState). l.closed) same ∙ was in
    let is_closed : new.closed ≡ true = ap (λ (l : ListenerState). l.closed) is ∙ closed-closed_of old in
    omega (arith, counted_as listener more false was_open, counted_as new more true is_closed)
open_closed (listener ∷ more) (suc index) old new here was is = omega (
  arith,
  open_closed more index old new here was is,
  counted_as listener more listener.closed refl,
  counted_as listener (set more index new) listener.closed refl,
)

-- one listener more is open with a new one
pub open_added : (listeners : List ListenerState) (flags limit : ℕ)
    → count_by is_open (listeners ++ new_listener flags limit ∷ []) ≡ count_by is_open listeners + 1
unfolding new_listener
open_added listeners flags limit =
    sum_by-append (λ l. cond (is_open l) 1 0) listeners (new_listener flags limit ∷ [])
