-- What holds of a listener after any calls: its limit, its descriptors, and its answers.
use Rattle.std.proofs.Common.{◌≡◌, ◌∙◌, ℕ, ◌+◌, ◌<◌, ◌≤◌, Bool, true, false, cond, List, [], ◌∷◌, ◌++◌, Option, Some, None, length, length-append, find, count_by, refl, ap, arith}
use Rattle.std.proofs.lemmas.Bool.Decides.{nat_tests}
use Rattle.std.proofs.lemmas.List.Sums.{count_by-le-length, sum_by-append}
use Rattle.fan_bits.specs.Words.{occurs, unlimited_queue}
use Rattle.fan_fates.specs.Calls.{Call, Closes, Looks, Puts, Reads, Writes, after_calls, called}
use Rattle.fan_fates.proofs.CallForms.{PutForm, ReadForm, WriteForm, answers_one, came_last, covered, fronted, joined, lost_first, put_form, read_form, shut, unanswered, unread, write_form, rest_left}
use Rattle.fan_lists.proofs.Counts.{count_by-cons}
use Rattle.fan_lists.proofs.FirstLemmas.{count_by-change_first, length-change_first}
use Rattle.fan_lists.specs.First.{without_first}
use Rattle.fan_event.specs.declared.event.Event.{Event}
use Rattle.fan_queue.specs.declared.entry.Body.TheVariants as bodies
use Rattle.fan_queue.specs.declared.entry.Entry.{Entry}
use Rattle.fan_queue.specs.declared.entry.Put.{Put}
use Rattle.fan_queue.proofs.QueueLemmas.{lost-merged}
use Rattle.fan_listener.specs.ListenerState.{ListenerState, new_listener}
use Rattle.fan_listener.specs.Queue.{queue_of}
use Rattle.fan_queue.specs.Queue.{fills, is_full, is_lost, merged, queued, takes}
use Rattle.fan_listener.specs.Records.{read_front}
use Rattle.fan_listener.specs.Responses.{answer_of, closed_of}

-- ---- counts of lists

pub count_both : {X : Type 0} (p : X → Bool) (xs ys : List X)
    → count_by p (xs ++ ys) ≡ count_by p xs + count_by p ys
count_both p xs ys = sum_by-append (λ x. cond (p x) 1 0) xs ys

pub count_one : {X : Type 0} (p : X → Bool) (x : X) → count_by p (x ∷ []) ≡ cond (p x) 1 0
count_one p x = omega (arith, count_by-cons p x [])

-- what is found is counted, and the others are left without it
pub count_found : {X : Type 0} (test p : X → Bool) (xs : List X) (x : X) → find test xs ≡ Some x
    → count_by p xs ≡ cond (p x) 1 0 + count_by p (without_first test xs)
count_found test p [] x is = absurd cc
count_found test p (y ∷ ys) x is =
    grind (
      arith,
      is,
      count_found test p ys x,
      count_by-cons p y ys,
      count_by-cons p y
          (without_first test ys),
    )

-- ---- the limit

-- beside the lost entry, a queue with a limit has no more entries than this
abbrev Limited : ListenerState → Type 0
Limited listener = occurs listener.flags unlimited_queue ≡ false
    → length listener.queue ≤ listener.limit + count_by is_lost listener.queue

-- a queue that isn't full has fewer entries than the limit
room_left : (old : ListenerState) → is_full (queue_of old) ≡ false → occurs old.flags unlimited_queue ≡ false
    → length old.queue < old.limit
unfolding is_full
room_left old room limited = by (occurs old.flags unlimited_queue) limited room
  where
    by : (unlimited : Bool) → unlimited ≡ false
        → fills (cond {A = Option ℕ} unlimited None (Some old.limit)) (length old.queue) ≡ false
        → length old.queue < old.limit
    by true is none = absurd cc
    by false is none = grind (arith, nat_tests, none)

limited_put : (old : ListenerState) (event : Event) (given : Put × ListenerState) → PutForm old event given
    → Limited old → Limited given.1
unfolding queued
limited_put old event given (shut closed) limited = limited
limited_put old event given (covered lost opened full is) limited = limited
limited_put old event given (lost_first opened full none) limited = λ limits.
    let new : Entry = record { number = old.next_entry; body = bodies.Lost } in
    let after = count_both is_lost old.queue (new ∷ []) in
    let last : count_by is_lost (new ∷ []) ≡ 1 = count_one is_lost new in
    omega (arith, after, last, length-append old.queue (new ∷ []), limited limits)
limited_put old event given (joined same opened room is) limited = λ limits.
    let counts = count_by-change_first (takes event) is_lost (merged event) old.queue (lost-merged event) in
    omega (arith, counts, length-change_first (takes event) (merged event) old.queue, limited limits)
limited_put old event given (came_last opened room none) limited = λ limits.
    let new : Entry = record { number = old.next_entry; body = bodies.Told event } in
    let after = count_both is_lost old.queue (new ∷ []) in
    let last : count_by is_lost (new ∷ []) ≡ 0 = count_one is_lost new in
    omega (arith, after, last, length-append old.queue (new ∷ []), room_left old room limits)

limited_read : (old : ListenerState) (size : ℕ) (new : ListenerState) → ReadForm old size new
    → Limited old → Limited new
unfolding read_front
limited_read old size new unread limited = limited
limited_read old size new (fronted front its) limited =
    let left = rest_left old.queue front its in
    let counts = ap (count_by is_lost) its.whole ∙ count_both is_lost front its.rest in
    let longs = ap length its.whole ∙ length-append front its.rest in
    let few = count_by-le-length is_lost front in
    let fit_left : occurs old.flags unlimited_queue ≡ false
    → length its.rest ≤ old.limit + count_by is_lost its.rest =
    λ limits. omega (arith, counts, longs, few, limited limits) in
    rw left fit_left

limited_called : (old : ListenerState) (call : Call) → Limited old → Limited (called old call)
unfolding answer_of closed_of
limited_called old (Puts event) limited = limited_put old event _ (put_form old event) limited
limited_called old (Reads size) limited = limited_read old size _ (read_form old size) limited
limited_called old (Writes bytes) limited = by _ _ (write_form old bytes)
  where
    by : (new : ListenerState) (entries : List ℕ) → WriteForm old new entries → Limited new
    by new entries unanswered = limited
    by new entries (answers_one fd verdict waiting is) = limited
limited_called old (Looks entry) limited = limited
limited_called old Closes limited = λ limits. omega arith

limited_after : (calls : List Call) (old : ListenerState) → Limited old → Limited (after_calls old calls)
unfolding after_calls
limited_after [] old limited = limited
limited_after (call ∷ more) old limited =
    limited_after more (called old call) (limited_called old call limited)

limited_new : (flags limit : ℕ) (calls : List Call) → Limited (after_calls (new_listener flags limit) calls)
unfolding new_listener
limited_new flags limit calls = limited_after calls (new_listener flags limit) (λ limits. omega arith)

-- ---- flags and limit

-- a listener keeps the flags and the limit with which it was made
pub record Same (old new : ListenerState) : Type 0 where
  pub flags : new.flags ≡ old.flags
  pub limit : new.limit ≡ old.limit

same_put : (old : ListenerState) (event : Event) (given : Put × ListenerState) → PutForm old event given
    → Same old given.1
unfolding queued
same_put old event given (shut closed) = record { flags = refl; limit = refl }
same_put old event given (covered lost opened full is) = record { flags = refl; limit = refl }
same_put old event given (lost_first opened full none) = record { flags = refl; limit = refl }
same_put old event given (joined same opened room is) = record { flags = refl; limit = refl }
same_put old event given (came_last opened room none) = record { flags = refl; limit = refl }

same_read : (old : ListenerState) (size : ℕ) (new : ListenerState) → ReadForm old size new → Same old new
unfolding read_front
same_read old size new unread = record { flags = refl; limit = refl }
same_read old size new (fronted front its) = record { flags = refl; limit = refl }

same_write : (old new : ListenerState) (entries : List ℕ) → WriteForm old new entries → Same old new
same_write old new entries unanswered = record { flags = refl; limit = refl }
same_write old new entries (answers_one fd verdict waiting is) = record { flags = refl; limit = refl }

same_called : (old : ListenerState) (call : Call) → Same old (called old call)
unfolding answer_of closed_of
same_called old (Puts event) = same_put old event _ (put_form old event)
same_called old (Reads size) = same_read old size _ (read_form old size)
same_called old (Writes bytes) = same_write old _ _ (write_form old bytes)
same_called old (Looks entry) = record { flags = refl; limit = refl }
same_called old Closes = record { flags = refl; limit = refl }

pub same_after : (calls : List Call) (old : ListenerState) → Same old (after_calls old calls)
unfolding after_calls
same_after [] old = record { flags = refl; limit = refl }
same_after (call ∷ more) old =
    let first = same_called old call in
    let rest = same_after more (called old call) in record {
      flags = rest.flags ∙ first.flags;
      limit = rest.limit ∙ first.limit;
    }

new_flags : (flags limit : ℕ) → (new_listener flags limit).flags ≡ flags
unfolding new_listener
new_flags flags limit = refl

new_limit : (flags limit : ℕ) → (new_listener flags limit).limit ≡ limit
unfolding new_listener
new_limit flags limit = refl

pub within_new : (flags limit : ℕ) (calls : List Call) → occurs flags unlimited_queue ≡ false
    → length (after_calls (new_listener flags limit) calls).queue
    ≤ limit + count_by is_lost (after_calls (new_listener flags limit) calls).queue
within_new flags limit calls limits =
    let listener = after_calls (new_listener flags limit) calls in
    let same = same_after calls (new_listener flags limit) in
    let its_flags : listener.flags ≡ flags = same.flags ∙ new_flags flags limit in
    let its_limit : listener.limit ≡ limit = same.limit ∙ new_limit flags limit in
    let limits_it = ap (λ word. occurs word unlimited_queue) its_flags ∙ limits in
    let fits = limited_new flags limit calls limits_it in
    omega (arith, its_limit, fits)
