-- An entry is answered only if it was read.
use Rattle.std.proofs.Common.{◌≡◌, ◌∙◌, ℕ, ◌+◌, ◌≤◌, true, List, [], ◌∷◌, ◌++◌, append_assoc, append-nil, length, count_by, drop, refl, ap, sym, subst, arith}
use Rattle.std.proofs.lemmas.List.{map-append}
use Rattle.fan_fates.specs.Calls.{Call, Came, Closes, Deed, Left, Looks, Puts, Reads, Writes, after_calls, answers, answers_of, called, deeds, deeds_of, gone}
use Rattle.fan_fates.specs.Fates.{is_in, read, read_in}
use Rattle.fan_fates.proofs.Answering.{few_wait, is_it, is_queued, waits}
use Rattle.fan_fates.proofs.CallForms.{PutForm, ReadForm, WriteForm, answers_one, came_last, covered, fronted, joined, lost_first, put_form, read_form, shut, unanswered, unread, write_form, rest_left}
use Rattle.fan_fates.proofs.History.{gone_is}
use Rattle.fan_fates.proofs.Limits.{count_both, count_found, count_one}
use Rattle.fan_fates.proofs.Lists.{flat_map_push}
use Rattle.fan_laws.specs.Whole.{numbers_in}
use Rattle.fan_lists.proofs.Counts.{any_from_count, count_by-cons, count_from_any}
use Rattle.fan_event.specs.declared.event.Event.{Event}
use Rattle.fan_queue.specs.declared.entry.Entry.{Entry}
use Rattle.fan_queue.specs.declared.entry.Put.{Put}
use Rattle.fan_listener.specs.ListenerState.{ListenerState, new_listener}
use Rattle.fan_queue.specs.Queue.{queued}
use Rattle.fan_listener.specs.Records.{pendings, read_front}
use Rattle.fan_listener.specs.Responses.{answer_of, closed_of, is_under}

-- no entry was answered or waits more often than it was read
record AreRead (done : List ℕ) (past : List Deed) (listener : ListenerState) : Type 0 where
  pub upto : (number : ℕ) → count_by (is_it number) done + count_by (waits number) listener.pending
      ≤ count_by (is_it number) (numbers_in (read past))

-- more deeds are no fewer reads
read_more : (number : ℕ) (past : List Deed) (deed : Deed)
    → count_by (is_it number) (numbers_in (read (past ++ deed ∷ [])))
    ≡ count_by (is_it number) (numbers_in (read past)) + count_by (is_it number) (numbers_in (read_in deed))
read_more number past deed =
    ap (λ entries. count_by (is_it number) (numbers_in entries)) (flat_map_push read_in past deed)
    ∙ ap (count_by (is_it number)) (map-append (λ (entry : Entry). entry.number) (read past) (read_in deed))
    ∙ count_both (is_it number) (numbers_in (read past)) (numbers_in (read_in deed))

-- numbers count as their entries do
count_numbers : (number : ℕ) (entries : List Entry)
    → count_by (is_it number) (numbers_in entries) ≡ count_by (is_queued number) entries
count_numbers number [] = refl
count_numbers number (entry ∷ entries) =
    omega (
      arith,
      count_numbers number entries,
      count_by-cons (is_it number) entry.number (numbers_in entries),
      count_by-cons (is_queued number) entry entries,
    )

-- the listener has the same events that wait, or none
kept_read : (done : List ℕ) (past : List Deed) (deed : Deed) (old new : ListenerState)
    → ((number : ℕ) → count_by (waits number) new.pending ≤ count_by (waits number) old.pending)
    → AreRead done past old → AreRead done (past ++ deed ∷ []) new
kept_read done past deed old new fewer are = record {
  upto = λ number.
      let was = are.upto number in
      let few = fewer number in
      let more = read_more number past deed in
      omega (arith, was, few, more);
}

read_put : (done : List ℕ) (past : List Deed) (old : ListenerState) (event : Event)
    (given : Put × ListenerState)
    → PutForm old event given → AreRead done past old → AreRead done (past ++ Came event given.0 ∷ []) given.1
unfolding queued
read_put done past old event given (shut closed) are =
    kept_read done past _ old old (λ number. omega arith) are
read_put done past old event given (covered lost opened full is) are =
    kept_read done past _ old old (λ number. omega arith) are
read_put done past old event given (lost_first opened full none) are =
    kept_read done past _ old given.1 (λ number. omega arith) are
read_put done past old event given (joined same opened room is) are =
    kept_read done past _ old given.1 (λ number. omega arith) are
read_put done past old event given (came_last opened room none) are =
    kept_read done past _ old given.1 (λ number. omega arith) are

read_read : (done : List ℕ) (past : List Deed) (old : ListenerState) (size : ℕ) (new : ListenerState)
    → ReadForm old size new → AreRead done past old
    → AreRead done (past ++ Left (gone old.queue new.queue) ∷ []) new
unfolding read_front
read_read done past old size new unread are =
    kept_read done past (Left (gone old.queue old.queue)) old old (λ number. omega arith) are
read_read done past old size new (fronted front its) are =
    let went : List Entry = gone old.queue (drop (length front) old.queue) in
    let left = rest_left old.queue front its in
    let went_is : went ≡ front = ap (gone old.queue) left ∙ gone_is old.queue front its.rest its.whole in
    record {
      upto = λ number.
          let was = are.upto number in
          let more = read_more number past (Left went) in
          let those = ap (λ entries. count_by (is_it number) (numbers_in entries)) went_is
          ∙ count_numbers number front in
          let both = count_both (waits number) old.pending (pendings old.next_fd front) in
          let few = few_wait number old.next_fd front in
          omega (arith, was, more, those, both, few);
    }

read_write : (done : List ℕ) (past : List Deed) (old new : ListenerState) (entries : List ℕ)
    → WriteForm old new entries → AreRead done past old → AreRead (done ++ entries) past new
read_write done past old new entries unanswered are =
    subst (λ all. AreRead all past old) (sym (append-nil done)) are
read_write done past old new entries (answers_one at verdict waiting is) are = record {
  upto = λ number.
      let was = are.upto number in
      let both = count_both (is_it number) done (waiting.entry ∷ []) in
      let last = count_one (is_it number) waiting.entry in
      let parts = count_found (is_under at) (waits number) old.pending waiting is in
      omega (arith, was, both, last, parts);
}

read_called : (done : List ℕ) (past : List Deed) (old : ListenerState) (call : Call) → AreRead done past old
    → AreRead (done ++ answers_of old call) (past ++ deeds_of old call) (called old call)
unfolding answer_of closed_of
read_called done past old (Puts event) are =
    subst (λ all. AreRead all (past ++ deeds_of old (Puts event)) (called old (Puts event)))
    (sym (append-nil done))
    (read_put done past old event _ (put_form old event) are)
read_called done past old (Reads size) are =
    subst (λ all. AreRead all (past ++ deeds_of old (Reads size)) (called old (Reads size)))
    (sym (append-nil done))
    (read_read done past old size _ (read_form old size) are)
read_called done past old (Writes bytes) are =
    subst (λ all. AreRead (done ++ answers_of old (Writes bytes)) all (called old (Writes bytes)))
    (sym (append-nil past)) (read_write done past old _ _ (write_form old bytes) are)
read_called done past old (Looks entry) are =
    subst (λ all. AreRead all (past ++ []) (called old (Looks entry))) (sym (append-nil done))
    (subst (λ all. AreRead done all (called old (Looks entry))) (sym (append-nil past))
    (record { upto = are.upto }))
read_called done past old Closes are =
    subst (λ all. AreRead all (past ++ deeds_of old Closes) (called old Closes)) (sym (append-nil done))
    (kept_read done past _ old (closed_of old) (λ number. omega arith) are)

read_after : (calls : List Call) (done : List ℕ) (past : List Deed) (old : ListenerState)
    → AreRead done past old
    → AreRead (done ++ answers old calls) (past ++ deeds old calls) (after_calls old calls)
unfolding after_calls answers deeds
read_after [] done past old are =
    subst (λ all. AreRead all (past ++ []) old) (sym (append-nil done))
    (subst (λ all. AreRead done all old) (sym (append-nil past)) are)
read_after (call ∷ more) done past old are =
    let new = called old call in
    subst (λ all. AreRead all (past ++ (deeds_of old call ++ deeds new more)) (after_calls new more))
    (append_assoc done (answers_of old call) (answers new more))
    (subst (λ all. AreRead ((done ++ answers_of old call) ++ answers new more) all (after_calls new more))
    (append_assoc past (deeds_of old call) (deeds new more))
    (read_after more (done ++ answers_of old call) (past ++ deeds_of old call) new
    (read_called done past old call are)))

pub read_new : (flags limit : ℕ) (calls : List Call) (number : ℕ)
    → is_in (answers (new_listener flags limit) calls) number ≡ true
    → is_in (numbers_in (read (deeds (new_listener flags limit) calls))) number ≡ true
unfolding new_listener
read_new flags limit calls number is =
    let listener = new_listener flags limit in
    let start : AreRead [] [] listener = record { upto = λ number. omega arith } in
    let upto = (read_after calls [] [] listener start).upto number in
    let some = count_from_any (is_it number) (answers listener calls) is in
    any_from_count (is_it number) (numbers_in (read (deeds listener calls))) (omega (arith, upto, some))
