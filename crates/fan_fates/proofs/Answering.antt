-- The events that wait for an answer: each under a descriptor of its own, and answered once at most.
use Rattle.std.proofs.Common.{◌≡◌, ◌∙◌, ℕ, ◌+◌, ◌<◌, ◌≤◌, Bool, true, false, cond, ◌&&◌, List, [], ◌∷◌, ◌++◌, append_assoc, append-nil, count_by, refl, ap, arith, ◌==◌}
use Rattle.std.proofs.lemmas.Bool.Decides.{nat_tests}
use Rattle.fan_fates.specs.Calls.{Call, Closes, Looks, Puts, Reads, Writes, after_calls, answers, answers_of, called}
use Rattle.fan_fates.proofs.CallForms.{PutForm, ReadForm, WriteForm, answers_one, came_last, covered, fronted, joined, lost_first, put_form, queued_in, read_form, shut, unanswered, unread, write_form, rest_left}
use Rattle.fan_fates.proofs.Limits.{count_both, count_found, count_one}
use Rattle.fan_lists.proofs.Counts.{count_by-cons}
use Rattle.fan_lists.proofs.FirstLemmas.{count_by-change_first}
use Rattle.fan_listener.specs.declared.answers.Pending.{Pending}
use Rattle.fan_event.specs.declared.event.Event.{Event}
use Rattle.fan_queue.specs.declared.entry.Body.{Body}
use Rattle.fan_queue.specs.declared.entry.Body.TheVariants as bodies
use Rattle.fan_queue.specs.declared.entry.Entry.{Entry}
use Rattle.fan_queue.specs.declared.entry.Put.{Put}
use Rattle.fan_queue.proofs.QueueLemmas.{number-merged}
use Rattle.fan_listener.specs.ListenerState.{ListenerState, new_listener}
use Rattle.fan_queue.specs.Queue.{merged, queued, takes}
use Rattle.fan_listener.specs.Records.{fd_after, has_fd, next_fd_after, pending_of, pendings, read_front}
use Rattle.fan_listener.specs.Responses.{answer_of, answered, closed_of, is_under}

-- ---- descriptors

-- the descriptors that some events get, from a first one up to a next: each once
record GivenTo (first next : ℕ) (waiting : List Pending) (fd : ℕ) : Type 0 where
  pub rises : first ≤ next
  pub once : count_by (is_under fd) waiting ≤ 1
  pub before : fd < first → count_by (is_under fd) waiting ≡ 0
  pub later : next ≤ fd → count_by (is_under fd) waiting ≡ 0

-- the descriptors that the events of entries get
abbrev Given : ℕ → List Entry → ℕ → Type 0
Given first entries fd = GivenTo first (next_fd_after first entries) (pendings first entries) fd

-- one event more is counted if it waits under the descriptor
one_more : (asks under : Bool) (one : Pending) (next : ℕ) (waiting : List Pending) (fd : ℕ)
    → GivenTo (cond under (one.fd + 1) one.fd) next waiting fd
    → GivenTo one.fd next (cond {A = List Pending} (asks && under) (one ∷ []) [] ++ waiting) fd
one_more true true one next waiting fd more =
    let count = count_by-cons (is_under fd) one waiting in record {
      rises = omega (arith, more.rises);
      once = grind (arith, nat_tests, count, more.once, more.before);
      before = λ below. grind (arith, nat_tests, count, more.before);
      later = λ above. grind (arith, nat_tests, count, more.later, more.rises);
    }
one_more true false one next waiting fd more = more
one_more false true one next waiting fd more = record {
  rises = omega (arith, more.rises);
  once = more.once;
  before = λ below. more.before (omega (arith, below));
  later = more.later;
}
one_more false false one next waiting fd more = more

given-by : (first number : ℕ) (body : Body) (rest : List Entry) (fd : ℕ)
    → Given (fd_after first body) rest fd → Given first ((record { number = number; body = body }) ∷ rest) fd
given-by first number (bodies.Told event) rest fd more =
    let after = fd_after first (bodies.Told event) in
    one_more event.perm (has_fd event.target) (record { fd = first; entry = number; event = event })
    (next_fd_after after rest) (pendings after rest) fd more
given-by first number bodies.Lost rest fd more = more

given : (first : ℕ) (entries : List Entry) (fd : ℕ) → Given first entries fd
given first [] fd = record {
  rises = omega arith;
  once = omega arith;
  before = λ below. refl;
  later = λ above. refl;
}
given first (entry ∷ rest) fd =
    given-by first entry.number entry.body rest fd (given (fd_after first entry.body) rest fd)

-- each descriptor is given to one event that waits, and none is used that was not given out
pub record Differ (listener : ListenerState) : Type 0 where
  pub once : (fd : ℕ) → count_by (is_under fd) listener.pending ≤ 1
  pub unused : (fd : ℕ) → listener.next_fd ≤ fd → count_by (is_under fd) listener.pending ≡ 0

differ_put : (old : ListenerState) (event : Event) (new : Put × ListenerState) → PutForm old event new
    → Differ old → Differ new.1
unfolding queued
differ_put old event new (shut closed) differ = differ
differ_put old event new (covered lost opened full is) differ = differ
differ_put old event new (lost_first opened full none) differ =
    record { once = differ.once; unused = differ.unused }
differ_put old event new (joined same opened room is) differ =
    record { once = differ.once; unused = differ.unused }
differ_put old event new (came_last opened room none) differ =
    record { once = differ.once; unused = differ.unused }

differ_read : (old : ListenerState) (size : ℕ) (new : ListenerState) → ReadForm old size new
    → Differ old → Differ new
unfolding read_front
differ_read old size new unread differ = differ
differ_read old size new (fronted front its) differ = record {
  once = λ fd.
      let more = given old.next_fd front fd in
      let counts = count_both (is_under fd) old.pending (pendings old.next_fd front) in
      by fd (old.next_fd) counts (differ.once fd) (differ.unused fd) more.once more.before;
  unused = λ fd above.
      let more = given old.next_fd front fd in
      let counts = count_both (is_under fd) old.pending (pendings old.next_fd front) in
      let none = differ.unused fd (omega (arith, more.rises, above)) in
      let none_new = more.later above in
      omega (arith, counts, none, none_new);
}
  where
    by : {all some new : ℕ} (fd next : ℕ) → all ≡ some + new → some ≤ 1 → (next ≤ fd → some ≡ 0) → new ≤ 1
        → (fd < next → new ≡ 0) → all ≤ 1
    by fd next counts few unused few_new before = grind (arith, counts, few, unused, few_new, before)

differ_write : (old new : ListenerState) (entries : List ℕ) → WriteForm old new entries → Differ old
    → Differ new
differ_write old new entries unanswered differ = differ
differ_write old new entries (answers_one at verdict waiting is) differ = record {
  once = λ fd.
      let counts = count_found (is_under at) (is_under fd) old.pending waiting is in
      omega (arith, counts, differ.once fd);
  unused = λ fd above.
      let counts = count_found (is_under at) (is_under fd) old.pending waiting is in
      let none = differ.unused fd above in
      omega (arith, counts, none);
}

differ_called : (old : ListenerState) (call : Call) → Differ old → Differ (called old call)
unfolding answer_of closed_of
differ_called old (Puts event) differ = differ_put old event _ (put_form old event) differ
differ_called old (Reads size) differ = differ_read old size _ (read_form old size) differ
differ_called old (Writes bytes) differ = differ_write old _ _ (write_form old bytes) differ
differ_called old (Looks entry) differ = record { once = differ.once; unused = differ.unused }
differ_called old Closes differ = record { once = λ fd. omega arith; unused = λ fd above. refl }

differ_after : (calls : List Call) (old : ListenerState) → Differ old → Differ (after_calls old calls)
unfolding after_calls
differ_after [] old differ = differ
differ_after (call ∷ more) old differ = differ_after more (called old call) (differ_called old call differ)

pub differ_new : (flags limit : ℕ) (calls : List Call) → Differ (after_calls (new_listener flags limit) calls)
unfolding new_listener
differ_new flags limit calls = differ_after calls (new_listener flags limit) (record {
  once = λ fd. omega arith;
  unused = λ fd above. refl;
})

-- ---- answers

-- tests by the number of an entry
abbrev pub is_it : ℕ → ℕ → Bool
is_it number other = other == number

abbrev pub waits : ℕ → Pending → Bool
waits number pending = pending.entry == number

abbrev pub is_queued : ℕ → Entry → Bool
is_queued number entry = entry.number == number

-- how often an entry was answered, waits or is queued
abbrev places : List ℕ → ListenerState → ℕ → ℕ
places done listener number =
    count_by (is_it number) done + count_by (waits number) listener.pending
    + count_by (is_queued number) listener.queue

-- each entry is in one place at most, and one that was not made yet is in none
record Once (done : List ℕ) (listener : ListenerState) : Type 0 where
  pub once : (number : ℕ) → places done listener number ≤ 1
  pub unmade : (number : ℕ) → listener.next_entry ≤ number → places done listener number ≡ 0

-- the same places, or fewer
fewer : (done done' : List ℕ) (old new : ListenerState) → new.next_entry ≡ old.next_entry
    → ((number : ℕ) → places done' new number ≤ places done old number) → Once done old → Once done' new
fewer done done' old new same upto once = record {
  once = λ number. omega (arith, upto number, once.once number);
  unmade = λ number above.
      let none = once.unmade number (omega (arith, same, above)) in omega (arith, upto number, none);
}

-- a new entry is in the queue alone
once_queued : (done : List ℕ) (old : ListenerState) (body : Body) → Once done old
    → Once done (queued_in old body)
unfolding queued
once_queued done old body once =
    let new : Entry = record { number = old.next_entry; body = body } in record {
      once = λ number.
          let counts = count_both (is_queued number) old.queue (new ∷ []) in
          let last = count_one (is_queued number) new in
          grind (arith, nat_tests, counts, last, once.once number, once.unmade number);
      unmade = λ number above.
          let counts = count_both (is_queued number) old.queue (new ∷ []) in
          let last = count_one (is_queued number) new in
          let none = once.unmade number (omega (arith, above)) in
          grind (arith, nat_tests, counts, last, none);
    }

once_put : (done : List ℕ) (old : ListenerState) (event : Event) (given : Put × ListenerState)
    → PutForm old event given → Once done old → Once done given.1
once_put done old event given (shut closed) once = once
once_put done old event given (covered lost opened full is) once = once
once_put done old event given (lost_first opened full none) once = once_queued done old bodies.Lost once
once_put done old event given (came_last opened room none) once =
    once_queued done old (bodies.Told event) once
once_put done old event given (joined same opened room is) once =
    fewer done done old _ refl (λ number.
    let counts = count_by-change_first (takes event) (is_queued number) (merged event) old.queue
    (λ entry. ap (λ (n : ℕ). n == number) (number-merged event entry)) in
    omega (arith, counts)) once

-- an entry that is read has one event wait at most
one_waits : (number first at : ℕ) (body : Body)
    → count_by (waits number) (pending_of first at body) ≤ cond (at == number) 1 0
one_waits number first at (bodies.Told event) = by (event.perm && has_fd event.target)
  where
    by : (waiting : Bool) → count_by (waits number)
        (cond {A = List Pending} waiting ((record { fd = first; entry = at; event = event }) ∷ []) [])
        ≤ cond (at == number) 1 0
    by true =
        let one : Pending = record { fd = first; entry = at; event = event } in
        omega (arith, count_by-cons (waits number) one [])
    by false = omega arith
one_waits number first at bodies.Lost = omega arith

-- no more events wait than were read
pub few_wait : (number first : ℕ) (entries : List Entry)
    → count_by (waits number) (pendings first entries) ≤ count_by (is_queued number) entries
few_wait number first [] = omega arith
few_wait number first (entry ∷ rest) =
    let more = few_wait number (fd_after first entry.body) rest in
    let counts = count_both (waits number) (pending_of first entry.number entry.body)
    (pendings (fd_after first entry.body) rest) in
    let one = one_waits number first entry.number entry.body in
    omega (arith, more, counts, one, count_by-cons (is_queued number) entry rest)

once_read : (done : List ℕ) (old : ListenerState) (size : ℕ) (new : ListenerState) → ReadForm old size new
    → Once done old → Once done new
unfolding read_front
once_read done old size new unread once = once
once_read done old size new (fronted front its) once =
    let left = rest_left old.queue front its in
    fewer done done old _ refl (λ number.
    let counts = count_both (waits number) old.pending (pendings old.next_fd front) in
    let few = few_wait number old.next_fd front in
    let parts = ap (count_by (is_queued number)) its.whole ∙ count_both (is_queued number) front its.rest in
    let rest = ap (count_by (is_queued number)) left in
    omega (arith, counts, few, parts, rest)) once

once_write : (done : List ℕ) (old new : ListenerState) (entries : List ℕ) → WriteForm old new entries
    → Once done old → Once (done ++ entries) new
once_write done old new entries unanswered once = rw append-nil once
once_write done old new entries (answers_one at verdict waiting is) once =
    fewer done (done ++ waiting.entry ∷ []) old (answered old at waiting.entry verdict) refl (λ number.
    let counts = count_both (is_it number) done (waiting.entry ∷ []) in
    let last = count_one (is_it number) waiting.entry in
    let parts = count_found (is_under at) (waits number) old.pending waiting is in
    omega (arith, counts, last, parts)) once

once_called : (done : List ℕ) (old : ListenerState) (call : Call) → Once done old
    → Once (done ++ answers_of old call) (called old call)
unfolding answer_of closed_of
once_called done old (Puts event) once = rw append-nil (once_put done old event _ (put_form old event) once)
once_called done old (Reads size) once = rw append-nil (once_read done old size _ (read_form old size) once)
once_called done old (Writes bytes) once = once_write done old _ _ (write_form old bytes) once
once_called done old (Looks entry) once = rw append-nil (record { once = once.once; unmade = once.unmade })
once_called done old Closes once = rw append-nil (fewer done done old _ refl (λ number. omega arith) once)

once_after : (calls : List Call) (done : List ℕ) (old : ListenerState) → Once done old
    → Once (done ++ answers old calls) (after_calls old calls)
unfolding after_calls answers
once_after [] done old once = rw append-nil once
once_after (call ∷ more) done old once =
    rw (← append_assoc)
    (once_after more (done ++ answers_of old call) (called old call) (once_called done old call once))

pub once_new : (flags limit : ℕ) (calls : List Call) (number : ℕ)
    → count_by (λ other. other == number) (answers (new_listener flags limit) calls) ≤ 1
unfolding new_listener
once_new flags limit calls number =
    let start : Once [] (new_listener flags limit) =
    record { once = λ number. omega arith; unmade = λ number above. refl } in
    let its = (once_after calls [] (new_listener flags limit) start).once number in
    omega (arith, its)
